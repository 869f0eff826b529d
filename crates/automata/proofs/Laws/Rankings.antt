-- Of one location and the same intervals, as many ascending rows as there are rankings of the open clocks are all of them. Assumes nothing.
use Prim.Native.Nat.{ℕ, zero, suc, ◌+◌, ◌≤◌, ◌<◌}
use native.Mathlib.Omega.{arith}
use mathlib.Core.Path.{◌≡◌, refl, sym, ◌∙◌}
use mathlib.Core.Bool.{Bool, true, false, cond, not, ◌&&◌, ◌||◌}
use mathlib.Core.Logic.{◌⊎◌, inl, inr}
use mathlib.Core.List.Memᴰ
use mathlib.Core.List.{List, [], ◌∷◌}
use lib.ListN.{length, get_or}
use lib.Dec.{eqb, ltb}
use Rattle.automata.specs.Clocks.{at, allb, someb, one_if}
use Rattle.automata.specs.Row.{Row, IsRow, Before, Below}
use Rattle.automata.specs.Closed.{Mem}
use Rattle.automata.specs.Rows.{openb, from, select, choices, rank_lists}
use Rattle.automata.specs.Rankings.{open_clocks, rankings}
use Rattle.automata.proofs.Laws.Tests.{eqb_law, ltb_law, and_law, implies_law, allb_law, someb_law}
use Rattle.automata.proofs.Laws.Members.{select_in, Sorted, sorted_select}
use Rattle.automata.proofs.Laws.Ordered.{before_trans, before_itself}
use Rattle.automata.proofs.Laws.Rows.{rank_lists_in, rank_lists_sorted}

-- as many as there are ----------------------------------------------------------------------------------------------------------------

-- as many ascending elements of a sorted list as it has are all of them
module _ {A : Type 0} (R : A → A → Type 0) (trans : (a b d : A) → R a b → R b d → R a d) (itself : (a : A) → R a a → ⊥) where
  abbrev pub Grows : ℕ → (ℕ → A) → Type 0
  Grows n f = (i j : ℕ) → i < j → j < n → R (f i) (f j)

  -- the ones after the first are above the list's first, so they are in its rest
  later_in : (y : A) (ys : List A) → Sorted R (y ∷ ys) → (f : ℕ → A) → Grows (length (y ∷ ys)) f → ((i : ℕ) → i < length (y ∷ ys) → Mem (f i) (y ∷ ys))
      → (i : ℕ) → i < length ys → Mem (f (suc i)) ys
  later_in y ys s f up m i h = go (Memᴰ.cases_cons (m 0 (omega arith))) (Memᴰ.cases_cons (m (suc i) (omega arith)))
    where
      above : R (f 0) (f (suc i))
      above = up 0 (suc i) (omega arith) (omega arith)

      go : (f 0 ≡ y) ⊎ Mem (f 0) ys → (f (suc i) ≡ y) ⊎ Mem (f (suc i)) ys → Mem (f (suc i)) ys
      go t (inr k) = k
      go (inl d) (inl e) = absurd (itself y (rw (d, e) at above))
      go (inr k) (inl e) = absurd (itself y (trans y (f 0) y (s.0 (f 0) k) (rw e at above)))

  -- those after the first are the whole rest, so the first, which is none of them, is the list's first
  pub all_of : (ys : List A) → Sorted R ys → (f : ℕ → A) → Grows (length ys) f → ((i : ℕ) → i < length ys → Mem (f i) ys)
      → (x : A) → Mem x ys → (i : ℕ) × (i < length ys) × (f i ≡ x)
  all_of [] s f up m x k = absurd (Memᴰ.not-nil k)
  all_of (y ∷ ys) s f up m x k =
      go (Memᴰ.cases_cons k) (Memᴰ.cases_cons (m 0 (omega arith)))
      (all_of ys s.1 (λ (i : ℕ). f (suc i)) (λ i j h l. up (suc i) (suc j) (omega arith) (omega arith)) (later_in y ys s f up m))
    where
      go : (x ≡ y) ⊎ Mem x ys → (f 0 ≡ y) ⊎ Mem (f 0) ys → ((a : A) → Mem a ys → (i : ℕ) × (i < length ys) × (f (suc i) ≡ a))
          → (i : ℕ) × (i < length (y ∷ ys)) × (f i ≡ x)
      go (inr h) t rest = let (i, l, e) = rest x h in (suc i, omega arith, e)
      go (inl d) (inl e) rest = (0, omega arith, e ∙ sym d)
      go (inl d) (inr h) rest =
          let (i, l, e) = rest (f 0) h in
          absurd (itself (f 0) (rw e at (up 0 (suc i) (omega arith) (omega arith))))

-- the ranks of rows -------------------------------------------------------------------------------------------------------------------

-- below the ranks of n clocks none is missing
unfoldable pub fullb : ℕ → List ℕ → Bool
fullb n ks = allb n (λ (z : ℕ). allb (at ks z) (λ (k : ℕ). not (ltb 0 k) || someb n (λ (w : ℕ). eqb (at ks w) k)))

pub row_full : (c : List ℕ) (r : Row) → IsRow c r → fullb (length c) r.ranks ≡ true
unfolding fullb
row_full c r i =
    (allb_law (length c) _ (λ z. allb_law (at r.ranks z) _ (λ k. implies_law (ltb 0 k) _ (ltb_law 0 k) (someb_law (length c) _ (λ w. eqb_law (at r.ranks w) k))))).1
    (λ z h k q p. i.dense z k h p q)

-- all ranks of n clocks with none missing, where the clocks that pass the test are open
abbrev pub ranked : ℕ → (ℕ → Bool) → List (List ℕ)
ranked n p = select (fullb n) (choices (λ (z : ℕ). cond (p z) (from 1 n) (0 ∷ [])) n)

-- how many they are -------------------------------------------------------------------------------------------------------------------

-- what passes for both answers passes for each
each_of : (f : Bool → Bool) → (f true && f false) ≡ true → (b : Bool) → f b ≡ true
each_of f h true = ((and_law (f true) (f false) (λ p. p, λ p. p) (λ p. p, λ p. p)).0 h).0
each_of f h false = ((and_law (f true) (f false) (λ p. p, λ p. p) (λ p. p, λ p. p)).0 h).1

-- whether all lists of n answers pass a test
abbrev pub every_way : ℕ → (List Bool → Bool) → Bool
every_way zero t = t []
every_way (suc n) t = every_way n (λ (bs : List Bool). t (true ∷ bs)) && every_way n (λ (bs : List Bool). t (false ∷ bs))

pub each_way : (n : ℕ) (t : List Bool → Bool) → every_way n t ≡ true → (bs : List Bool) → length bs ≡ n → t bs ≡ true
each_way zero t h [] e = h
each_way zero t h (b ∷ bs) e = absurd (omega arith)
each_way (suc n) t h [] e = absurd (omega arith)
each_way (suc n) t h (b ∷ bs) e =
    each_way n (λ (bs : List Bool). t (b ∷ bs)) (each_of (λ (b : Bool). every_way n (λ (bs : List Bool). t (b ∷ bs))) h b) bs (omega arith)

-- how many of the first n clocks pass a test
abbrev passes : ℕ → (ℕ → Bool) → ℕ
passes zero p = 0
passes (suc n) p = passes n p + one_if (p n)

-- whether clocks that are open as the answers say can be ranked in so many ways
abbrev agrees : ℕ → List Bool → Bool
agrees n bs = let p : ℕ → Bool = λ (z : ℕ). get_or bs z false in eqb (length (ranked n p)) (rankings (passes n p))

module _ (c js : List ℕ) where
  abbrev pub opens : ℕ → Bool
  opens z = openb (at c z) (at js z)

  -- all patterns of up to four clocks, by counting
  pub counted : (n : ℕ) → n ≤ 4 → length (ranked n opens) ≡ rankings (open_clocks c js n)
  unfolding open_clocks rankings fullb allb someb
  counted zero h = refl
  counted (suc zero) h = (eqb_law _ _).0 (each_way 1 (agrees 1) refl (opens 0 ∷ []) refl)
  counted (suc (suc zero)) h = (eqb_law _ _).0 (each_way 2 (agrees 2) refl (opens 0 ∷ opens 1 ∷ []) refl)
  counted (suc (suc (suc zero))) h = (eqb_law _ _).0 (each_way 3 (agrees 3) refl (opens 0 ∷ opens 1 ∷ opens 2 ∷ []) refl)
  counted (suc (suc (suc (suc zero)))) h = (eqb_law _ _).0 (each_way 4 (agrees 4) refl (opens 0 ∷ opens 1 ∷ opens 2 ∷ opens 3 ∷ []) refl)
  counted (suc (suc (suc (suc (suc n))))) h = absurd (omega arith)

-- rows --------------------------------------------------------------------------------------------------------------------------------

ranks_before : (r s : Row) → r.location ≡ s.location → r.intervals ≡ s.intervals → Below r s → Before r.ranks s.ranks
ranks_before r s d e (inl a) = absurd (omega arith)
ranks_before r s d e (inr (_, inl a)) = absurd (before_itself s.intervals (rw e at a))
ranks_before r s d e (inr (_, inr (_, b))) = b

same_rows : (r s : Row) → r.location ≡ s.location → r.intervals ≡ s.intervals → r.ranks ≡ s.ranks → r ≡ s
same_rows r s d e p = λ i. record { location = d i; intervals = e i; ranks = p i }

-- ranks tell the rows apart, and there are just as many of them as rows
pub all_rankings : (c : List ℕ) → length c ≤ 4 → (l : ℕ) (js : List ℕ) (row : ℕ → Row)
    → ((i j : ℕ) → i < j → j < rankings (open_clocks c js (length c)) → Below (row i) (row j))
    → ((i : ℕ) → i < rankings (open_clocks c js (length c)) → IsRow c (row i) × ((row i).location ≡ l) × ((row i).intervals ≡ js))
    → (x : Row) → IsRow c x → x.location ≡ l → x.intervals ≡ js
    → (i : ℕ) × (i < rankings (open_clocks c js (length c))) × (row i ≡ x)
all_rankings c four l js row up are x is d e =
    let (i, h, p) = rw many at (all_of Before before_trans before_itself lists sorted (λ (i : ℕ). (row i).ranks) (rw many grows) (rw many among) x.ranks (mem x is e)) in
    let (_, a, b) = are i h in
    (i, h, same_rows (row i) x (a ∙ sym d) (b ∙ sym e) p)
  where
    lists : List (List ℕ)
    lists = ranked (length c) (opens c js)

    many : length lists ≡ rankings (open_clocks c js (length c))
    many = counted c js (length c) four

    sorted : Sorted Before lists
    sorted = sorted_select Before (fullb (length c)) (rank_lists c js) (rank_lists_sorted c js)

    mem : (r : Row) → IsRow c r → r.intervals ≡ js → Mem r.ranks lists
    mem r s q = select_in (fullb (length c)) (rw q at (rank_lists_in c r s)) (row_full c r s)

    among : (i : ℕ) → i < rankings (open_clocks c js (length c)) → Mem (row i).ranks lists
    among i h = let (s, _, q) = are i h in mem (row i) s q

    grows : (i j : ℕ) → i < j → j < rankings (open_clocks c js (length c)) → Before (row i).ranks (row j).ranks
    grows i j h k =
        let (_, a, b) = are i (omega arith) in
        let (_, a', b') = are j k in
        ranks_before (row i) (row j) (a ∙ sym a') (b ∙ sym b') (up i j h k)
