-- The record reader gives what the definitions read: a record, or none where they refuse. Assumes nothing.
use Prim.Native.Nat.{ℕ, ◌+◌, ◌-◌, ◌≤◌}
use native.Mathlib.Omega.{arith}
use mathlib.Core.Path.{◌≡◌, refl, ap, ◌∙◌}
use mathlib.Core.Bool.{Bool, true, false}
use mathlib.Core.Logic.{◌⊎◌, inl, inr}
use mathlib.Core.List.{List, []}
use lib.ListN.{length, take, drop, length-drop}
use lib.Seq.{drop-drop, length-take-le}
use lib.Dec.{leb}
use borrow.Author.Tests.{leb-true}
use Rattle.automata.specs.Checks.{same}
use Rattle.table_files.specs.Reading.{good, bad, carry, next_bytes, require, next_record}
use Rattle.table_files.specs.Records.{part_at, record_at}
use Rattle.table_files.proofs.Laws.Records.{leb_same}

module _ (file mark : List ℕ) (p n number place : ℕ) (some : 1 ≤ n) (marked : same mark [] ≡ false) where
  abbrev Ends : Type 0
  Ends =
      ((record_at file p n mark ≡ []) × (next_record number place mark n (drop p file) ≡ bad number place))
      ⊎ ((p + n ≤ length file) × (record_at file p n mark ≡ take n (drop p file)) × (next_record number place mark n (drop p file) ≡ good (record_at file p n mark) (drop (p + n) file)))

  ends : Ends
  unfolding record_at part_at next_record next_bytes require carry
  ends = go (leb (p + n) (length file)) (same mark (take 2 (take n (drop p file)))) refl refl
    where
      room : leb n (length (drop p file)) ≡ leb (p + n) (length file)
      room = rw length-drop (leb_same n (length file - p) (p + n) (length file) (λ h. omega arith) (λ h. omega arith))

      go : (t m : Bool) → leb (p + n) (length file) ≡ t → same mark (take 2 (take n (drop p file))) ≡ m → Ends
      go false m e f = inl (rw (e, marked), rw (room, e))
      go true false e f = inl (rw (e, f), rw (room, e, f))
      go true true e f = inr (leb-true (p + n) (length file) e, rw (e, f), rw (room, e, f, drop-drop n p file))

  -- no byte is handed back: the definitions refuse
  pub record_missing : length (record_at file p n mark) ≡ 0 → next_record number place mark n (drop p file) ≡ bad number place
  record_missing h = go ends
    where
      go : Ends → next_record number place mark n (drop p file) ≡ bad number place
      go (inl (_, e)) = e
      go (inr (room, whole, _)) = absurd (omega (arith, ap length whole, length-take-le n (drop p file) (rw length-drop (omega arith))))

  module _ (h : length (record_at file p n mark) ≡ 0 → ⊥) where
    -- some are: they are the record that the definitions read, all its bytes
    pub record_there : (p + n ≤ length file) × (record_at file p n mark ≡ take n (drop p file)) × (next_record number place mark n (drop p file) ≡ good (record_at file p n mark) (drop (p + n) file))
    record_there = go ends
      where
        go : Ends → (p + n ≤ length file) × (record_at file p n mark ≡ take n (drop p file)) × (next_record number place mark n (drop p file) ≡ good (record_at file p n mark) (drop (p + n) file))
        go (inl (e, _)) = absurd (h (ap length e))
        go (inr t) = t

    pub record_length : length (record_at file p n mark) ≡ n
    record_length = let (room, whole, _) = record_there in ap length whole ∙ length-take-le n (drop p file) (rw length-drop (omega arith))
