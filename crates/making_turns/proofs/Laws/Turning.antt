-- What a turn that adds a row leaves, and how much less there is to do after each turn. Assumes nothing.
use Prim.Native.Nat.{ℕ, suc, ◌+◌, ◌*◌, ◌≤◌, ◌<◌}
use native.Mathlib.Omega.{arith}
use native.Mathlib.Numerals.{add-one}
use mathlib.Core.Path.{◌≡◌, refl, sym, subst, ◌∙◌}
use mathlib.Core.Bool.{true, false}
use mathlib.Core.Logic.{inr}
use mathlib.Core.List.{List}
use lib.ListN.{length, set, length-set}
use lib.Seq.{get_or-set_same}
use Rattle.automata.specs.Row.{Row, IsRow}
use Rattle.automata.specs.Automaton.{Admitted}
use Rattle.automata.specs.Closed.{Mem}
use Rattle.regions.specs.Values.{row_of, bounds_of}
use Rattle.regions.specs.declared.region.Region.{Region}
use Rattle.std.specs.Prelude.{None}
use Rattle.std.proofs.lemmas.Option.{none-some}
use Rattle.table_files.specs.Admission.{table_of}
use Rattle.table_files.proofs.Laws.Admission.{admission_admitted}
use Rattle.calls.specs.RegionFile.{row_width}
use Rattle.table_records.specs.declared.refusal.Refusal.{Refusal}
use Rattle.listed_rows.specs.Listed.{listed_row, listed_rows, Splits}
use Rattle.kept_rows.specs.Inserted.{Inserted}
use Rattle.kept_rows.proofs.Laws.Inserted.{inserted_mem}
use Rattle.next_steps.specs.declared.stride.Stride as stride_code
use Rattle.making_turns.specs.declared.work.Work as work_code
use Rattle.table_records.specs.declared.head.Head.{Head}
use Rattle.making_turns.specs.Work.{blank, Grown, Tied, left, Standing, Loops, went, next_row, to_walks, to_rows, adding, refusing, ending, Comes}
use Rattle.making_turns.proofs.Laws.Adding.{comes_row, grown_added, tied_added}

module _ {table before : List ℕ} {records : ℕ} {out : List ℕ} {ws : List Region} {s : work_code.Work Head} (S : Standing table before records out ws s) where
  abbrev n : ℕ
  n = s.head.clocks.count

  abbrev rows : List Row
  rows = listed_rows n out s.count

  -- the table is admitted
  pub is_admitted : Admitted (table_of table)
  is_admitted = let (k, p) = S.describes.passes in admission_admitted table k p

  module _ (x : Region) (C : Comes (table_of table) rows (row_of n x)) where
    -- a new row is a row
    pub new_is_row : IsRow (bounds_of s.head.clocks) (row_of n x)
    new_is_row =
        comes_row (table_of table) is_admitted s.head.clocks S.describes.bounds before out s.count s.start s.top s.last.step s.walking s.last.entered S.grown
        (row_of n x) C

    module _ (few : s.count < 4096) (room : 4 + suc s.count * row_width n ≤ length out) (m : ℕ) (sp : Splits (listed_row n out) s.count (row_of n x) m) (out' : List ℕ)
        (I : Inserted n out s.count m (row_of n x) out') where
      grown : Grown (table_of table) s.head.clocks before out' (s.count + 1) s.start s.top s.last.step s.walking s.last.entered
      grown =
          subst (λ (c : ℕ). Grown (table_of table) s.head.clocks before out' c s.start s.top s.last.step s.walking s.last.entered) (sym (add-one s.count))
          (grown_added (table_of table) is_admitted s.head.clocks S.describes.bounds before out s.count s.start s.top s.last.step s.walking s.last.entered S.grown
          (row_of n x) C few room m sp out' I)

      tied : Tied n out' (s.count + 1) (set ws s.count x)
      tied =
          subst (λ (c : ℕ). Tied n out' c (set ws s.count x)) (sym (add-one s.count))
          (tied_added (table_of table) is_admitted s.head.clocks S.describes.bounds before out s.count s.start s.top s.last.step s.walking s.last.entered S.grown
          (row_of n x) C few room m sp out' I ws x refl (omega (arith, S.sized, S.enough)) S.tied)

      still : (r : Row) → Mem r rows → Mem r (listed_rows n out' (s.count + 1))
      still r i = subst (λ (c : ℕ). Mem r (listed_rows n out' c)) (sym (add-one s.count)) ((inserted_mem n out s.count m (row_of n x) out' I r).1 (inr i))

      stands : Standing table before records out' (set ws s.count x) (adding s x)
      stands = record {
        describes = S.describes;
        grown = grown;
        on = S.on;
        step_in = S.step_in;
        stands = S.stands;
        edge_next = S.edge_next;
        walked_from = λ v f. still (row_of n v) (S.walked_from v f);
        sized = length-set ws s.count x ∙ S.sized;
        enough = S.enough;
        place_in = omega (arith, S.enough);
        again = get_or-set_same ws s.count x blank (omega (arith, S.sized, S.enough));
        take_in = S.take_in;
        takes = S.takes;
        tied = tied;
      }

      pub added_loops : Loops table before records out' ws (adding s x)
      added_loops = record {
        goes = λ g. record {
          standing = stands;
          sized = S.sized;
          place_in = omega (arith, S.enough);
          take_in = S.take_in;
          same_length = I.same_length ∙ S.grown.same_length;
        };
        ends = λ a e. absurd (none-some a (sym S.on ∙ e));
      }

-- each turn leaves less to do -----------------------------------------------------------------------------------------------------------------

module _ {H : Type 0} (s : work_code.Work H) where
  pub went_left : (q : stride_code.Stride) → left (went s q) ≡ left s
  unfolding left
  went_left q = refl

  pub adding_left : (x : Region) → s.count < 4096 → left (adding s x) < left s
  unfolding left
  adding_left x few = omega arith

  pub refusing_left : (r : Refusal) → s.ended ≡ None → left (refusing s r) < left s
  unfolding left
  refusing_left r g = rw g (omega arith)

  pub ending_left : s.ended ≡ None → left (ending s) < left s
  unfolding left
  ending_left g = rw g (omega arith)

  pub next_left : s.top < 4096 → left (next_row s) < left s
  unfolding left
  next_left h = omega arith

  pub walks_left : (first : ℕ) → s.top < 4096 → s.walking ≡ false → left (to_walks s first) < left s
  unfolding left
  walks_left first h w = rw w (omega arith)

  pub rows_left : s.start < s.top → s.top ≤ 4096 → s.walking ≡ true → left (to_rows s) < left s
  unfolding left
  rows_left h l w = rw w (omega arith)
