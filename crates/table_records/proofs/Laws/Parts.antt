-- What the record reader finds, against the definitions' reading from a position on. Assumes nothing.
use Prim.Native.Nat.{ℕ, ◌+◌, ◌-◌, ◌≤◌, ◌<◌}
use native.Mathlib.Decide.{ℕ_discrete}
use native.Mathlib.Omega.{arith}
use mathlib.Core.Path.{◌≡◌, refl, sym, ap, ◌∙◌}
use mathlib.Core.Bool.{Bool, true, false, cond, ◌&&◌}
use mathlib.Core.List.{List, [], ◌∷◌, ◌++◌}
use lib.ListN.{length, take, drop, length-append, length-drop}
use lib.Seq.{length-take-le, take_at, drop_at, drop-drop}
use lib.Dec.{eqb, leb}
use borrow.Author.Tests.{leb-true, leb-false, le-leb, lt-leb}
use Rattle.std.specs.Cmp.Lexicographic.{pointwise}
use Rattle.std.specs.List.{starts_with}
use Rattle.automata.specs.Checks.{same}
use Rattle.table_files.specs.Reading.{good, bad, carry, next_bytes, require, next_record}
use Rattle.table_files.specs.Records.{part_at, record_at}
use Rattle.table_files.proofs.Laws.Reading.{Took, goes, passes}

-- what `starts_with` says of a mark of two bytes
same_pointwise : (xs ys : List ℕ) → same xs ys ≡ pointwise eqb xs ys
same_pointwise [] [] = refl
same_pointwise [] (y ∷ ys) = refl
same_pointwise (x ∷ xs) [] = refl
same_pointwise (x ∷ xs) (y ∷ ys) = ap (λ (t : Bool). eqb x y && t) (same_pointwise xs ys)

pub begins : (mark b : List ℕ) (t : Bool) → length mark ≡ 2 → t ≡ starts_with eqb b mark → t ≡ same mark (take 2 b)
begins mark b t e h = h ∙ rw e (sym (same_pointwise mark (take 2 b)))

module _ (file : List ℕ) (p n : ℕ) where
  -- n bytes stand from p on
  pub part_there : p + n ≤ length file → (part_at file p n ≡ take n (drop p file)) × (length (part_at file p n) ≡ n)
  unfolding part_at
  part_there h =
      let e : leb (p + n) (length file) ≡ true = le-leb (p + n) (length file) h in
      rw e (refl, length-take-le n (drop p file) (simp length-drop (omega arith)))

  part_none : length file < p + n → part_at file p n ≡ []
  unfolding part_at
  part_none h = rw (lt-leb (p + n) (length file) h)

  -- whether they do shows in how many were found
  pub part_found : (n ≡ 0 → p ≤ length file) → n ≤ length (part_at file p n) → p + n ≤ length file
  part_found none h = go (leb (p + n) (length file)) refl
    where
      go : (t : Bool) → leb (p + n) (length file) ≡ t → p + n ≤ length file
      go true e = leb-true (p + n) (length file) e
      go false e =
          let l : length file < p + n = leb-false (p + n) (length file) e in
          let z : length (part_at file p n) ≡ 0 = ap length (part_none l) in
          let k : p ≤ length file = none (omega arith) in
          omega arith

  module _ (number place : ℕ) where
    pub bytes_there : p + n ≤ length file → next_bytes number place n (drop p file) ≡ good (part_at file p n) (drop (p + n) file)
    unfolding next_bytes
    bytes_there h =
        let e : leb n (length (drop p file)) ≡ true = le-leb n (length (drop p file)) (simp length-drop (omega arith)) in
        rw (e, (part_there h).0, drop-drop n p file)

    bytes_missing : length (part_at file p n) < n → next_bytes number place n (drop p file) ≡ bad number place
    unfolding next_bytes
    bytes_missing h = rw (lt-leb n (length (drop p file)) (simp length-drop (short (leb (p + n) (length file)) refl)))
      where
        short : (t : Bool) → leb (p + n) (length file) ≡ t → length file - p < n
        short true e = let l : length (part_at file p n) ≡ n = (part_there (leb-true (p + n) (length file) e)).1 in absurd (omega arith)
        short false e = let l : length file < p + n = leb-false (p + n) (length file) e in omega arith

    -- the bytes b that were found of a part
    module _ (b : List ℕ) where
      pub record Taken : Type 0 where
        pub fits : p + n ≤ length file
        pub sized : length b ≡ n
        pub reads : next_bytes number place n (drop p file) ≡ good b (drop (p + n) file)

      module _ (is : b ≡ part_at file p n) where
        pub bytes_found : (n ≡ 0 → p ≤ length file) → n ≤ length b → Taken
        bytes_found none h =
            let there = part_found none (rw is at h) in
            record { fits = there; sized = ap length is ∙ (part_there there).1; reads = rw is (bytes_there there) }

        pub bytes_lack : length b < n → next_bytes number place n (drop p file) ≡ bad number place
        bytes_lack h = bytes_missing (rw is at h)

    -- the bytes b that were found of a record, mark and all
    module _ (mark b : List ℕ) where
      pub record Found : Type 0 where
        pub fits : p + n ≤ length file
        pub bytes : b ≡ part_at file p n
        pub reads : next_record number place mark n (drop p file) ≡ good b (drop (p + n) file)

      module _ (is : b ≡ record_at file p n mark) where
        pub record_found : 0 < n → n ≤ length b → Found
        unfolding record_at next_record
        record_found some h = go (same mark (take 2 (part_at file p n))) refl is
          where
            go : (t : Bool) → same mark (take 2 (part_at file p n)) ≡ t → b ≡ cond t (part_at file p n) [] → Found
            go true e q =
                let there = part_found (λ z. absurd (omega arith)) (rw q at h) in
                record { fits = there; bytes = q; reads = rw q (goes _ _ _ _ (bytes_there there) ∙ goes _ _ tt _ (passes number place _ _ e)) }
            go false e q = absurd (let z : length b ≡ 0 = ap length q in omega arith)

        pub record_lacks : length b < n → next_record number place mark n (drop p file) ≡ bad number place
        unfolding record_at next_record carry require
        record_lacks h = go (same mark (take 2 (part_at file p n))) refl is
          where
            go : (t : Bool) → same mark (take 2 (part_at file p n)) ≡ t → b ≡ cond t (part_at file p n) [] → next_record number place mark n (drop p file) ≡ bad number place
            go true e q = rw (bytes_missing (rw q at h))
            go false e q = by (leb (p + n) (length file)) refl
              where
                by : (t : Bool) → leb (p + n) (length file) ≡ t → next_record number place mark n (drop p file) ≡ bad number place
                by true f = rw (bytes_there (leb-true (p + n) (length file) f), e)
                by false f = rw (bytes_missing (let z : length (part_at file p n) ≡ 0 = ap length (part_none (leb-false (p + n) (length file) f)) in let some = h in omega arith))

-- a record of which enough bytes were found is in the file
pub record_fits : (file : List ℕ) (p n : ℕ) (mark : List ℕ) {b : List ℕ} → b ≡ record_at file p n mark → 0 < n → n ≤ length b → p + n ≤ length file
record_fits file p n mark {b} is some h = (record_found file p n 0 0 mark b is some h).fits

-- what was taken from position p on
pub record TookPart (file : List ℕ) (p n : ℕ) (b rest : List ℕ) : Type 0 where
  pub fits : p + n ≤ length file
  pub bytes : b ≡ part_at file p n
  pub leaves : rest ≡ drop (p + n) file

pub took_part : {file : List ℕ} {p n : ℕ} {b rest : List ℕ} → (n ≡ 0 → p ≤ length file) → {left : List ℕ} → left ≡ drop p file → Took n left b rest → TookPart file p n b rest
took_part {file} {p} {n} {b} {rest} none {left} l t =
    let w : drop p file ≡ b ++ rest = sym l ∙ t.whole in
    let long : n + length rest ≡ length file - p = (rw (← t.sized) (sym (length-append b rest))) ∙ sym (ap length w) ∙ length-drop p file in
    let h : p + n ≤ length file = fits long (ℕ_discrete n 0) in
    record {
      fits = h;
      bytes = sym ((part_there file p n h).0 ∙ ap (take n) w ∙ take_at b rest n t.sized);
      leaves = sym (sym (drop-drop n p file) ∙ ap (drop n) w ∙ drop_at b rest n t.sized);
    }
  where
    fits : n + length rest ≡ length file - p → Dec (n ≡ 0) → p + n ≤ length file
    fits e (yes z) = let k : p ≤ length file = none z in omega arith
    fits e (no z) = omega arith
