-- A run list is accepted just if it is a run into a final location. Assumes nothing.
use Prim.Native.Nat.{ℕ, ◌+◌, ◌*◌, ◌/◌, ◌%◌, ◌≤◌}
use native.Mathlib.Omega.{arith}
use mathlib.Core.Path.{◌≡◌, refl, sym, ap, ◌∙◌}
use mathlib.Core.Bool.{true}
use mathlib.Core.Logic.{◌↔◌}
use mathlib.Core.List.{List, [], ◌++◌, append-nil}
use lib.ListN.{length, take, take-append-drop, drop_of_length-le}
use borrow.Author.Tests.{leb-true, le-leb}
use Rattle.automata.specs.Automaton.{Table, final}
use Rattle.automata.specs.Run.{State, Move, Run, Reached}
use Rattle.automata.specs.Closed.{Mem}
use Rattle.automata.specs.Rows.{gather}
use Rattle.table_files.specs.Bytes.{AreBytes, RN, two, two_bytes}
use Rattle.table_files.specs.Answer.{accepted}
use Rattle.table_files.specs.Reading.{Read, good, bad, carry, end, answered}
use Rattle.table_files.specs.Admission.{admitted, table_of}
use Rattle.calls.specs.RunFile.{step_record, RunList, run_file, move_bytes, run_bytes, run_checked, run_answer}
use Rattle.table_files.specs.Meaning.{Passes}
use Rattle.calls.specs.Meaning.{Reaches, RunListOf}
use Rattle.table_files.proofs.Laws.Bytes.{bytes_before, bytes_after, two_next}
use Rattle.table_files.proofs.Laws.Reading.{parts, tested, between_law, ended, took_record, each_record, records_bytes, goes, passes, record_back, records_back, not_refused}
use Rattle.table_files.proofs.Laws.Admission.{admission_read, read_admission}
use Rattle.calls.proofs.Laws.Moves.{move_read, move_back, moves_narrow}
use Rattle.calls.proofs.Laws.Steps.{MoveIn, steps_run, run_steps, moves_in}

-- the file -------------------------------------------------------------------------------------------------------------------

pub record RunRead (T : Table) (file : List ℕ) (list : RunList) : Type 0 where
  pub scale_low : 1 ≤ list.scale
  pub scale_high : list.scale ≤ 10000
  pub few : length list.moves ≤ 2048
  pub moves_in : (m : Move) → Mem m list.moves → MoveIn T m
  pub bytes : AreBytes file → file ≡ run_bytes list

pub run_read_law : (T : Table) (file : List ℕ) (list : RunList) (left : List ℕ) → run_file T file ≡ good list left → RunRead T file list
unfolding run_file
run_read_law T file list left h =
    parts _ _ h λ b f1 e1 h1.
    tested _ _ _ _ _ h1 λ t2 h2.
    tested _ _ _ _ _ h2 λ t3 h3.
    parts _ _ h3 λ ms f4 e4 h4.
    parts _ _ h4 λ u f5 e5 h5.
    let x : record { scale = two b 2; moves = ms } ≡ list = cc in
    let (low, high) = (between_law 1 10000 (two b 2)).0 t2 in
    let (n, all) = each_record (step_record T) (MoveIn T) (λ place f m l e. (move_read T place f m l e).0) 1 (two b 4) f1 ms f4 e4 in
    let (k, m) = took_record 7 0 RN 6 file e1 in
    rw (← x) (record {
      scale_low = low;
      scale_high = high;
      few = omega (arith, leb-true (two b 4) 2048 t3);
      moves_in = all;
      bytes = λ p.
          let q : AreBytes (b ++ f1) = rw k.whole at p in
          let rest : f1 ≡ gather move_bytes ms ++ f4 = records_bytes (step_record T) move_bytes (λ place f m l p e. (move_read T place f m l e).1 p) 1 (two b 4) f1 ms f4 (bytes_after b f1 q) e4 in
          k.whole
          ∙ (λ i. head b (bytes_before b f1 q) m k.sized i ++ rest i)
          ∙ (λ i. (RN ++ (two_bytes (two b 2) ++ two_bytes (sym n i))) ++ (gather move_bytes ms ++ ended 9 (1 + two b 4) f4 e5 i))
          ∙ ap (λ (l : List ℕ). (RN ++ (two_bytes (two b 2) ++ two_bytes (length ms))) ++ l) (append-nil (gather move_bytes ms));
    })
  where
    head : (b : List ℕ) → AreBytes b → RN ≡ take 2 b → length b ≡ 6 → b ≡ RN ++ (two_bytes (two b 2) ++ two_bytes (two b 4))
    head b p m e =
        sym (take-append-drop 2 b)
        ∙ (λ i. sym m i ++ two_next b p 2 (omega arith) i)
        ∙ (λ i. RN ++ (two_bytes (two b 2) ++ two_next b p 4 (omega arith) i))
        ∙ ap (λ (l : List ℕ). RN ++ (two_bytes (two b 2) ++ (two_bytes (two b 4) ++ l))) (drop_of_length-le b {i = 6} (omega arith))

file_back : (T : Table) (r : RunList) → Reaches T r → run_file T (run_bytes r) ≡ good r []
unfolding run_file end
file_back T r R =
    let b : List ℕ = RN ++ (two_bytes r.scale ++ two_bytes (length r.moves)) in
    let n : length r.moves / 256 * 256 + length r.moves % 256 ≡ length r.moves = omega arith in
    let d : r.scale / 256 * 256 + r.scale % 256 ≡ r.scale = omega arith in
    let rest : List ℕ = gather move_bytes r.moves in
    goes _ _ b rest (record_back 7 0 RN 6 b rest refl refl)
    ∙ goes _ _ tt rest (passes 8 0 _ rest ((between_law 1 10000 (two b 2)).1 (omega (arith, R.scale_low), omega (arith, R.scale_high))))
    ∙ goes _ _ tt rest (passes 8 0 _ rest (le-leb (two b 4) 2048 (omega (arith, R.few))))
    ∙ goes _ _ r.moves [] (rw n (records_back (step_record T) move_bytes 1 r.moves (λ place m l k. move_back T place m l (moves_in R.run m k))))
    ∙ goes _ _ tt [] refl
    ∙ (λ i. good (record { scale = d i; moves = r.moves }) [])

-- the check ------------------------------------------------------------------------------------------------------------------

record RunChecked (T : Table) (file : List ℕ) (list : RunList) : Type 0 where
  read : RunRead T file list
  state : State
  run : Run T list.scale list.moves state
  ends : final T state.location ≡ true

checked : (T : Table) (file : List ℕ) (list : RunList) (left : List ℕ) → run_checked T file ≡ good list left → RunChecked T file list
unfolding run_checked
checked T file list left h =
    parts _ _ h λ r f1 e1 h1.
    parts _ _ h1 λ s f2 e2 h2.
    tested _ _ _ _ _ h2 λ t3 h3.
    let x : r ≡ list = cc in
    let R = run_read_law T file r f1 e1 in
    rw (← x) (record { read = R; state = s; run = steps_run T r.scale R.scale_low r.moves f1 s f2 R.moves_in e2; ends = t3 })

checks : (T : Table) (r : RunList) → Reaches T r → run_checked T (run_bytes r) ≡ good r []
unfolding run_checked
checks T r R =
    goes _ _ r [] (file_back T r R)
    ∙ goes _ _ R.state [] (run_steps T r.scale r.moves [] R.state R.run)
    ∙ goes _ _ tt [] (passes 13 (length r.moves) (final T R.state.location) [] R.ends)

-- the call -------------------------------------------------------------------------------------------------------------------

record Accepted (table file : List ℕ) (k : ℕ) : Type 0 where
  passes' : Passes table
  list : RunList
  count : length list.moves ≡ k
  checks' : RunChecked (table_of table) file list

accepted_run : (table file : List ℕ) (k : ℕ) → run_answer table file ≡ accepted k → Accepted table file k
unfolding run_answer carry
accepted_run table file k h = go (admitted table) refl h
  where
    over : (T : Table) (rest : List ℕ) → admitted table ≡ good T rest → (r : Read RunList) → run_checked T file ≡ r → answered (λ (x : RunList). length x.moves) r ≡ accepted k
        → Accepted table file k
    over T rest e (good r left) c h = let (p, t) = read_admission table e in record { passes' = (_, p); list = r; count = cc; checks' = rw t (checked T file r left c) }
    over T rest e (bad number place) c h = not_refused h

    go : (r : Read Table) → admitted table ≡ r → answered (λ (x : RunList). length x.moves) (carry r (λ T _. run_checked T file)) ≡ accepted k → Accepted table file k
    go (good T rest) e h = over T rest e (run_checked T file) refl h
    go (bad number place) e h = not_refused h

pub run_few : (table file : List ℕ) (k : ℕ) → run_answer table file ≡ accepted k → k ≤ 2048
run_few table file k h = let a = accepted_run table file k h in omega (arith, a.count, a.checks'.read.few)

-- an accepted run list ends in a final location
pub run_reached : (table file : List ℕ) (k : ℕ) → run_answer table file ≡ accepted k → Reached (table_of table)
run_reached table file k h =
    let c = (accepted_run table file k h).checks' in
    record { D = _; positive = c.read.scale_low; moves = _; state = c.state; run = c.run; ends = c.ends }

-- the file of a run within the limits into a final location is accepted
pub run_accepts : (table : List ℕ) → Passes table → (list : RunList) → Reaches (table_of table) list → run_answer table (run_bytes list) ≡ accepted (length list.moves)
unfolding run_answer carry
run_accepts table (k, p) list R = let (rest, e, _) = admission_read table k p in rw (e, checks (table_of table) list R)

pub run_law : (table file : List ℕ) (k : ℕ) → AreBytes file → (run_answer table file ≡ accepted k) ↔ (Passes table × RunListOf (table_of table) file k)
run_law table file k p = (λ h. to (accepted_run table file k h), λ t. let (a, g) = t in rw (g.bytes, ← g.count) (run_accepts table a g.list g.reaches))
  where
    to : Accepted table file k → Passes table × RunListOf (table_of table) file k
    to a =
        let c = a.checks' in
        let b : file ≡ run_bytes a.list = c.read.bytes p in
        let q : AreBytes (run_bytes a.list) = rw b at p in (
          a.passes',
          record {
            list = a.list;
            bytes = b;
            count = a.count;
            reaches = record {
              scale_low = c.read.scale_low;
              scale_high = c.read.scale_high;
              few = c.read.few;
              narrow = moves_narrow a.list.moves q.1.1.1.1.1.1;
              state = c.state;
              run = c.run;
              ends = c.ends;
            };
          },
        )
