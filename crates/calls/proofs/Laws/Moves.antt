-- Step records: what is read is a step of the table and its bytes, and a step of the table is read back. Assumes nothing.
use Prim.Native.Nat.{ℕ, zero, suc, ◌+◌, ◌*◌, ◌/◌, ◌<◌}
use native.Mathlib.Omega.{arith}
use mathlib.Core.Path.{◌≡◌, refl, sym, ap, ◌∙◌}
use mathlib.Core.Logic.{◌↔◌}
use mathlib.Core.List.Memᴰ
use mathlib.Core.List.{List, [], ◌∷◌, ◌++◌, append-nil}
use lib.ListN.{length, take, take-append-drop, drop_of_length-le}
use lib.Dec.{ltb}
use borrow.Author.Tests.{ltb-true, lt-ltb}
use Rattle.automata.specs.Clocks.{at, each}
use Rattle.automata.specs.Automaton.{Table, clocks}
use Rattle.automata.specs.Run.{Move}
use Rattle.automata.specs.Closed.{Mem}
use Rattle.automata.specs.Rows.{gather}
use Rattle.automata.proofs.Laws.Lists.{length_each}
use Rattle.table_files.specs.Bytes.{AreBytes, ST, two, four, two_bytes, four_bytes}
use Rattle.table_files.specs.Reading.{good}
use Rattle.calls.specs.RunFile.{step_record, RunList, move_bytes, run_bytes}
use Rattle.table_files.specs.Meaning.{Limits}
use Rattle.calls.specs.Meaning.{Narrow, Reaches}
use Rattle.table_files.proofs.Laws.Bytes.{bytes_append, bytes_before, bytes_after, gather_bytes, two_next, four_next, fours_next, each_at, fours_back, length_fours}
use Rattle.table_files.proofs.Laws.Reading.{cons_all, parts, tested, took_record, goes, passes, record_back}
use Rattle.calls.proofs.Laws.Steps.{MoveIn, moves_in}

-- one step -------------------------------------------------------------------------------------------------------------------

abbrev move_of : ℕ → List ℕ → Move
move_of n b = record { number = two b 2; delay = four b 4; values = each n (λ (z : ℕ). four b (8 + 4 * z)) }

move_whole : (n : ℕ) (b : List ℕ) → AreBytes b → ST ≡ take 2 b → length b ≡ 8 + 4 * n → b ≡ move_bytes (move_of n b)
move_whole n b p m e =
    sym (take-append-drop 2 b)
    ∙ (λ i. sym m i ++ two_next b p 2 (omega arith) i)
    ∙ (λ i. ST ++ (two_bytes (two b 2) ++ four_next b p 4 (omega arith) i))
    ∙ (λ i. ST ++ (two_bytes (two b 2) ++ (four_bytes (four b 4) ++ fours_next b p 8 n (omega arith) i)))
    ∙ (λ i. ST ++ (two_bytes (two b 2) ++ (four_bytes (four b 4) ++ (values ++ drop_of_length-le b {i = 8 + 4 * n} (omega arith) i))))
    ∙ (λ i. ST ++ (two_bytes (two b 2) ++ (four_bytes (four b 4) ++ append-nil values i)))
  where
    values : List ℕ
    values = gather four_bytes (each n (λ (z : ℕ). four b (8 + 4 * z)))

-- what a step record that is read holds
pub move_read : (T : Table) (place : ℕ) (f : List ℕ) (m : Move) (left : List ℕ) → step_record T place f ≡ good m left
    → MoveIn T m × (AreBytes f → f ≡ move_bytes m ++ left)
unfolding step_record
move_read T place f m left h =
    parts _ _ h λ b f1 e1 h1.
    tested _ _ _ _ _ h1 λ t2 h2.
    let x : move_of (clocks T) b ≡ m = cc in
    let y : f1 ≡ left = cc in
    let (k, q) = took_record 7 place ST (8 + 4 * clocks T) f e1 in
    rw (← x, ← y) (
      record { number_in = ltb-true (two b 2) (length T.edges) t2; sized = length_each (clocks T) (λ (z : ℕ). four b (8 + 4 * z)) },
      λ p. k.whole ∙ ap (λ (l : List ℕ). l ++ f1) (move_whole (clocks T) b (bytes_before b f1 (rw k.whole at p)) q k.sized),
    )

pub move_back : (T : Table) (place : ℕ) (m : Move) (rest : List ℕ) → MoveIn T m → step_record T place (move_bytes m ++ rest) ≡ good m rest
unfolding step_record
move_back T place m rest i =
    goes _ _ (move_bytes m) rest (record_back 7 place ST (8 + 4 * clocks T) (move_bytes m) rest (omega (arith, length_fours m.values, i.sized)) refl)
    ∙ goes _ _ tt rest (passes 8 place (ltb (two (move_bytes m) 2) (length T.edges)) rest (lt-ltb (two (move_bytes m) 2) (length T.edges) (omega (arith, i.number_in))))
    ∙ (λ j. good (record { number = number j; delay = delay j; values = values j }) rest)
  where
    number : two (move_bytes m) 2 ≡ m.number
    number = omega arith

    delay : four (move_bytes m) 4 ≡ m.delay
    delay = omega arith

    values : each (clocks T) (λ (z : ℕ). four (move_bytes m) (8 + 4 * z)) ≡ m.values
    values = rw (← i.sized) (each_at m.values (λ (z : ℕ). four (move_bytes m) (8 + 4 * z)) (fours_back (ST ++ (two_bytes m.number ++ four_bytes m.delay)) m.values))

-- bytes ----------------------------------------------------------------------------------------------------------------------

four_are_bytes : (x : ℕ) → AreBytes (four_bytes x) ↔ (x < 4294967296)
four_are_bytes x = (λ p. let h : x / 65536 / 256 < 256 = p.0 in omega arith, λ h. (omega arith, (omega arith, (omega arith, (omega arith, tt)))))

fours_small : (xs : List ℕ) → AreBytes (gather four_bytes xs) → (z : ℕ) → z < length xs → at xs z < 4294967296
fours_small [] p z h = absurd (omega arith)
fours_small (x ∷ xs) p zero h = (four_are_bytes x).0 (bytes_before (four_bytes x) (gather four_bytes xs) p)
fours_small (x ∷ xs) p (suc z) h = fours_small xs (bytes_after (four_bytes x) (gather four_bytes xs) p) z (omega arith)

small_fours : (xs : List ℕ) → ((z : ℕ) → z < length xs → at xs z < 4294967296) → AreBytes (gather four_bytes xs)
small_fours [] h = tt
small_fours (x ∷ xs) h = bytes_append (four_bytes x) (gather four_bytes xs) ((four_are_bytes x).1 (h 0 (omega arith))) (small_fours xs (λ z l. h (suc z) (omega arith)))

move_narrow : (m : Move) → AreBytes (move_bytes m) → Narrow m
move_narrow m p =
    let q : AreBytes (four_bytes m.delay ++ gather four_bytes m.values) = p.1.1.1.1 in
    record { delay = (four_are_bytes m.delay).0 (bytes_before (four_bytes m.delay) (gather four_bytes m.values) q); values = fours_small m.values (bytes_after (four_bytes m.delay) (gather four_bytes m.values) q) }

narrow_move : (m : Move) → m.number < 65536 → Narrow m → AreBytes (move_bytes m)
narrow_move m l n = (
  omega arith,
  (
    omega arith,
    (
      omega arith,
      (
        omega arith,
        bytes_append (four_bytes m.delay) (gather four_bytes m.values) ((four_are_bytes m.delay).1 n.delay) (small_fours m.values n.values),
      ),
    ),
  ),
)

pub moves_narrow : (ms : List Move) → AreBytes (gather move_bytes ms) → (m : Move) → Mem m ms → Narrow m
moves_narrow [] p = λ m k. absurd (Memᴰ.not-nil k)
moves_narrow (x ∷ ms) p =
    cons_all Narrow (move_narrow x (bytes_before (move_bytes x) (gather move_bytes ms) p)) (moves_narrow ms (bytes_after (move_bytes x) (gather move_bytes ms) p))

-- the file of a run list within the limits is bytes
pub run_are_bytes : (T : Table) → Limits T → (list : RunList) → Reaches T list → AreBytes (run_bytes list)
run_are_bytes T M list R = (
  omega arith,
  (
    omega arith,
    (
      omega (arith, R.scale_high),
      (
        omega arith,
        (
          omega (arith, R.few),
          (
            omega arith,
            gather_bytes move_bytes list.moves (λ m k. narrow_move m (omega (arith, (moves_in R.run m k).number_in, M.few_edges)) (R.narrow m k)),
          ),
        ),
      ),
    ),
  ),
)
