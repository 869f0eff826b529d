-- What the calls claim together, from the laws of regions. Assumes nothing.
use Prim.Native.Nat.{ℕ, ◌*◌, ◌≤◌}
use native.Mathlib.Omega.{arith}
use mathlib.Core.Path.{◌≡◌, refl}
use mathlib.Core.Logic.{◌⊎◌, inl, inr}
use mathlib.Core.Option.{Option, none, some}
use mathlib.Core.List.{List}
use lib.ListN.{length}
use Rattle.automata.specs.Row.{Row}
use Rattle.automata.specs.Point.{Contains, later, scaled}
use Rattle.automata.specs.Wait.{wait}
use Rattle.automata.specs.Automaton.{Table}
use Rattle.automata.specs.Run.{Reached}
use Rattle.automata.specs.Next.{TimeSuccessor}
use Rattle.automata.specs.Closed.{RowOf, Closed, ExactlyOne}
use Rattle.automata.proofs.Laws.Index
use Rattle.table_files.specs.Bytes.{AreBytes}
use Rattle.table_files.specs.Answer.{accepted}
use Rattle.table_files.specs.Admission.{admission, table_of}
use Rattle.calls.specs.RunFile.{RunList, run_bytes, run_answer}
use Rattle.calls.specs.RegionFile.{rows_of, list_bytes, list_answer}
use Rattle.table_files.specs.Meaning.{Passes, Limits}
use Rattle.calls.specs.Meaning.{Reaches, Follows}
use Rattle.table_files.proofs.Laws.Admission.{admission_admitted, admission_limits}
use Rattle.calls.proofs.Laws.Rows.{list_are_bytes}
use Rattle.calls.proofs.Laws.RegionLists
use Rattle.calls.proofs.Laws.Moves
use Rattle.calls.proofs.Laws.Runs

pub exactly_one : (table : List ℕ) (k : ℕ) → admission table ≡ accepted k → ExactlyOne (Reached (table_of table)) ((rows : List Row) × Closed (table_of table) rows)
exactly_one table k h = Index.exactly_one (table_of table) (admission_admitted table k h)

pub list_empty : (table file : List ℕ) (k : ℕ) → list_answer table file ≡ accepted k
    → (length (rows_of (table_of table) file) ≡ k) × Closed (table_of table) (rows_of (table_of table) file) × (Reached (table_of table) → ⊥)
list_empty table file k h = let (_, n, _, c, _) = RegionLists.list_accepted table file k h in (n, c, Index.sound (table_of table) (rows_of (table_of table) file) c)

pub closed_accepted : (table : List ℕ) → Passes table → (rows : List Row) → Closed (table_of table) rows → length rows ≤ 4096
    → AreBytes (list_bytes rows) × (list_answer table (list_bytes rows) ≡ accepted (length rows))
closed_accepted table (k, p) rows C l =
    (list_are_bytes (table_of table) (admission_limits table k p) rows C.are_rows l, RegionLists.closed_accepted table (k, p) rows C l)

pub run_accepts : (table : List ℕ) → Passes table → (list : RunList) → Reaches (table_of table) list
    → AreBytes (run_bytes list) × (run_answer table (run_bytes list) ≡ accepted (length list.moves))
run_accepts table (k, p) list R = (Moves.run_are_bytes (table_of table) (admission_limits table k p) list R, Runs.run_accepts table (k, p) list R)

pub waiting_first : (T : Table) → Limits T → (r r' : Row) → RowOf T r → Follows T 65535 r r' → (D : ℕ) (v : List ℕ) → Contains T.bounds D v r
    → ((t : ℕ) × Contains T.bounds (2 * D) (later t (scaled 2 v)) r')
    × ((t : ℕ) → Contains T.bounds D (later t v) r ⊎ ((t' : ℕ) × (t' ≤ 2 * t) × Contains T.bounds (2 * D) (later t' (scaled 2 v)) r'))
waiting_first T M r r' R (inl (_, s)) D v c =
    let w = (Index.time_successor_law T r r').0 s in
    (Index.progress T.bounds D v r r' R.is_row c w, Index.first T.bounds D v r r' R.is_row c w)
waiting_first T M r r' R (inr (l, _)) D v c = absurd (omega (arith, M.few_edges))

pub waiting_last : (T : Table) (r : Row) → RowOf T r → ((r' : Row) → TimeSuccessor T r r' → ⊥) → (D : ℕ) (v : List ℕ) → Contains T.bounds D v r
    → (t : ℕ) → Contains T.bounds D (later t v) r
waiting_last T r R nowhere D v c t = go (wait T.bounds r) refl
  where
    go : (o : Option Row) → wait T.bounds r ≡ o → Contains T.bounds D (later t v) r
    go none e = Index.rest T.bounds D v r R.is_row c e t
    go (some r') e = absurd (nowhere r' ((Index.time_successor_law T r r').1 e))
