-- What a reading that succeeds has read and tested, and that what was written is read back. Assumes nothing.
use Prim.Native.Nat.{ℕ, zero, suc, ◌+◌, ◌≤◌}
use native.Mathlib.Omega.{arith}
use mathlib.Core.Path.{◌≡◌, refl, sym, ap, ◌∙◌}
use mathlib.Core.Bool.{Bool, true, false, cond, ◌&&◌}
use mathlib.Core.Logic.{◌⊎◌, inl, inr}
use mathlib.Core.List.Memᴰ
use mathlib.Core.List.{List, [], ◌∷◌, ◌++◌, append_assoc}
use lib.ListN.{length, take, drop, length-append, take-append-drop}
use lib.Seq.{length-take-le, take-append_seam, drop-append_seam}
use lib.Dec.{leb}
use borrow.Author.Tests.{leb-true, le-leb}
use Rattle.automata.specs.Closed.{Mem}
use Rattle.automata.specs.Rows.{gather}
use Rattle.automata.specs.Checks.{same}
use Rattle.automata.proofs.Laws.Tests.{Says, leb_law, and_law}
use Rattle.automata.proofs.Laws.Checks.{same_law}
use Rattle.table_files.specs.Bytes.{AreBytes}
use Rattle.table_files.specs.Answer.{accepted, refused}
use Rattle.table_files.specs.Reading.{Read, good, bad, Reader, carry, next_bytes, between, require, end, next_record, records}
use Rattle.table_files.proofs.Laws.Bytes.{bytes_after}

-- what has been read ---------------------------------------------------------------------------------------------------------

pub not_good : {A X : Type 0} {number place : ℕ} {a : A} {rest : List ℕ} → bad number place ≡ good a rest → X
not_good e = let z : ◌≡◌ {A = ℕ} 0 1 = cc in absurd (omega arith)

-- what is read, and the bytes left, are one
pub same_read : {A : Type 0} {a b : A} {left rest : List ℕ} → good a left ≡ good b rest → (a ≡ b) × (left ≡ rest)
same_read e = (cc, cc)

pub not_refused : {X : Type 0} {number place count : ℕ} → refused number place ≡ accepted count → X
not_refused e = let z : ◌≡◌ {A = ℕ} 0 1 = cc in absurd (omega arith)

module _ {A B X : Type 0} where
  -- both parts of a reading succeed
  pub parts : (r : Read A) (next : A → Reader B) {b : B} {left : List ℕ} → carry r next ≡ good b left
      → ((a : A) (rest : List ℕ) → r ≡ good a rest → next a rest ≡ good b left → X) → X
  unfolding carry
  parts (good a rest) next h k = k a rest refl h
  parts (bad number place) next h k = not_good h

module _ {B X : Type 0} where
  -- a test passes
  pub tested : (number place : ℕ) (t : Bool) (file : List ℕ) (next : Unit {0} → Reader B) {b : B} {left : List ℕ}
      → carry (require number place t file) next ≡ good b left → (t ≡ true → next tt file ≡ good b left → X) → X
  unfolding carry require
  tested number place true file next h k = k refl h
  tested number place false file next h k = not_good h

-- the test itself
pub itself : (b : Bool) → Says b (b ≡ true)
itself b = (λ h. h, λ h. h)

pub between_law : (low high x : ℕ) → Says (between low high x) ((low ≤ x) × (x ≤ high))
between_law low high x = and_law (leb low x) (leb x high) (leb_law low x) (leb_law x high)

pub ended : (number place : ℕ) (file : List ℕ) {u : Unit {0}} {left : List ℕ} → end number place file ≡ good u left → file ≡ []
unfolding end
ended number place [] e = refl
ended number place (x ∷ rest) e = not_good e

-- n bytes, and those after them
pub record Took (n : ℕ) (file b rest : List ℕ) : Type 0 where
  pub whole : file ≡ b ++ rest
  pub sized : length b ≡ n

pub took : (number place n : ℕ) (file : List ℕ) {b rest : List ℕ} → next_bytes number place n file ≡ good b rest → Took n file b rest
unfolding next_bytes
took number place n file {b} {rest} h = go (leb n (length file)) refl h
  where
    go : (t : Bool) → leb n (length file) ≡ t → cond t (good (take n file) (drop n file)) (bad number place) ≡ good b rest → Took n file b rest
    go true e h =
        let p : take n file ≡ b = cc in
        let q : drop n file ≡ rest = cc in
        record { whole = sym (take-append-drop n file) ∙ (λ i. p i ++ q i); sized = ap length (sym p) ∙ length-take-le n file (leb-true n (length file) e) }
    go false e h = not_good h

pub took_record : (number place : ℕ) (mark : List ℕ) (n : ℕ) (file : List ℕ) {b rest : List ℕ}
    → next_record number place mark n file ≡ good b rest → Took n file b rest × (mark ≡ take 2 b)
unfolding next_record
took_record number place mark n file {b} {rest} h =
    parts _ _ h λ b' rest' e g.
    tested _ _ _ _ _ g λ t e2.
    let p : b' ≡ b = cc in
    let q : rest' ≡ rest = cc in
    (took number place n file (rw (p, q) at e), (same_law mark (take 2 b)).0 (rw p at t))

-- what holds of the first and of all others
pub cons_all : {A : Type 0} (P : A → Type 0) {x : A} {xs : List A} → P x → ((a : A) → Mem a xs → P a) → (a : A) → Mem a (x ∷ xs) → P a
cons_all {A} P {x} {xs} p q a m = go (Memᴰ.cases_cons m)
  where
    go : (a ≡ x) ⊎ Mem a xs → P a
    go (inl e) = rw e p
    go (inr k) = q a k

-- what holds of each of the records
module _ {A : Type 0} (read : ℕ → Reader A) (P : A → Type 0) (each : (place : ℕ) (file : List ℕ) (a : A) (rest : List ℕ) → read place file ≡ good a rest → P a) where
  pub each_record : (place n : ℕ) (file : List ℕ) (as' : List A) (rest : List ℕ) → records read place n file ≡ good as' rest
      → (length as' ≡ n) × ((a : A) → Mem a as' → P a)
  unfolding records
  each_record place zero file as' rest h =
      let e : [] ≡ as' = cc in
      rw (← e) (refl, λ a m. absurd (Memᴰ.not-nil m))
  each_record place (suc n) file as' rest h =
      parts _ _ h λ a f1 e1 h1.
      parts _ _ h1 λ more f2 e2 h2.
      let ih : (length more ≡ n) × ((a : A) → Mem a more → P a) = each_record (place + 1) n f1 more f2 e2 in
      let e : a ∷ more ≡ as' = cc in
      rw (← e) (ap suc ih.0, cons_all P (each place file a f1 e1) ih.1)

-- where each record is its bytes, so are they all
module _ {A : Type 0} (read : ℕ → Reader A) (bytes : A → List ℕ)
    (each : (place : ℕ) (file : List ℕ) (a : A) (rest : List ℕ) → AreBytes file → read place file ≡ good a rest → file ≡ bytes a ++ rest) where
  pub records_bytes : (place n : ℕ) (file : List ℕ) (as' : List A) (rest : List ℕ) → AreBytes file → records read place n file ≡ good as' rest
      → file ≡ gather bytes as' ++ rest
  unfolding records
  records_bytes place zero file as' rest p h =
      let e : [] ≡ as' = cc in
      let q : file ≡ rest = cc in
      rw (← e) q
  records_bytes place (suc n) file as' rest p h =
      parts _ _ h λ a f1 e1 h1.
      parts _ _ h1 λ more f2 e2 h2.
      let e : a ∷ more ≡ as' = cc in
      let q : f2 ≡ rest = cc in
      let one : file ≡ bytes a ++ f1 = each place file a f1 p e1 in
      let others : f1 ≡ gather bytes more ++ f2 = records_bytes (place + 1) n f1 more f2 (bytes_after (bytes a) f1 (rw one at p)) e2 in
      rw (← e, ← q) (one ∙ ap (λ (l : List ℕ). bytes a ++ l) others ∙ sym (append_assoc (bytes a) (gather bytes more) f2))

-- reading back ---------------------------------------------------------------------------------------------------------------

module _ {A B : Type 0} where
  pub goes : (r : Read A) (next : A → Reader B) (a : A) (rest : List ℕ) → r ≡ good a rest → carry r next ≡ next a rest
  unfolding carry
  goes r next a rest e = rw e

pub passes : (number place : ℕ) (t : Bool) (file : List ℕ) → t ≡ true → require number place t file ≡ good tt file
unfolding require
passes number place t file e = rw e

pub fails : {B : Type 0} (number place : ℕ) (t : Bool) (file : List ℕ) (next : Unit {0} → Reader B) → t ≡ false → carry (require number place t file) next ≡ bad number place
unfolding carry require
fails number place t file next e = rw e

-- two tests of one refusal are one
pub both : {B : Type 0} (number place : ℕ) (a b : Bool) (file : List ℕ) (next : Unit {0} → Reader B)
    → carry (require number place a file) (λ _ rest. carry (require number place b rest) next) ≡ carry (require number place (a && b) file) next
unfolding carry require
both number place true b file next = refl
both number place false b file next = refl

pub bytes_back : (number place n : ℕ) (a b : List ℕ) → n ≡ length a → next_bytes number place n (a ++ b) ≡ good a b
unfolding next_bytes
bytes_back number place n a b e =
    rw (e, le-leb (length a) (length (a ++ b)) (simp length-append (omega arith)), take-append_seam a b, drop-append_seam a b)

pub record_back : (number place : ℕ) (mark : List ℕ) (n : ℕ) (a b : List ℕ) → n ≡ length a → same mark (take 2 a) ≡ true
    → next_record number place mark n (a ++ b) ≡ good a b
unfolding next_record
record_back number place mark n a b e m =
    goes _ _ a b (bytes_back number place n a b e) ∙ goes _ _ tt b (passes number place (same mark (take 2 a)) b m)

module _ {A : Type 0} (read : ℕ → Reader A) (bytes : A → List ℕ) where
  pub records_back : (place : ℕ) (as' : List A) → ((place : ℕ) (a : A) (rest : List ℕ) → Mem a as' → read place (bytes a ++ rest) ≡ good a rest)
      → records read place (length as') (gather bytes as') ≡ good as' []
  unfolding records
  records_back place [] back = refl
  records_back place (a ∷ more) back =
      goes _ _ a (gather bytes more) (back place a (gather bytes more) (Memᴰ.head refl))
      ∙ goes _ _ more [] (records_back (place + 1) more (λ p x rest m. back p x rest (Memᴰ.tail m)))
