-- A sum over all ways to choose an interval for each clock, where what is summed turns on the kinds of the intervals alone: the sum over all patterns of kinds.
-- Assumes nothing.
use Prim.Native.Nat.{ℕ, zero, suc, ◌+◌, ◌*◌, ◌/◌, ◌%◌, ◌≤◌, ◌<◌}
use native.Mathlib.Nat.{mul_assoc}
use native.Mathlib.Omega.{arith}
use mathlib.Core.Path.{◌≡◌, refl, sym, ap, ◌∙◌}
use mathlib.Core.List.Memᴰ
use mathlib.Core.List.{List, [], ◌∷◌, map}
use lib.Dec.{eqb}
use lib.ListN.{length}
use Rattle.automata.specs.Clocks.{at, each, one_if}
use Rattle.automata.specs.Closed.{Mem}
use Rattle.automata.specs.Rows.{choices}
use Rattle.way_counts.specs.Patterns.{sum_below, product, digits_from, digit, patterns}
use Rattle.rankings.proofs.Laws.Ranking.{choices_out}
use Rattle.way_counts.proofs.Laws.Sums.{total, total_same, total_none, total_gather, total_map, sum_same, sum_scale, sum_add, sum_thirds}

-- digits ------------------------------------------------------------------------------------------------------------------------------

pub digit_low : (k z : ℕ) → digit k z < 3
unfolding digit
digit_low k z = omega arith

-- one clock ---------------------------------------------------------------------------------------------------------------------------

-- how many of a list are of kind d
abbrev pub many : (ℕ → ℕ) → ℕ → List ℕ → ℕ
many κ d xs = total (λ (x : ℕ). one_if (eqb (κ x) d)) xs

-- the sum of what turns on the kind alone, and is 0 at kind 3
by_kind : (κ g v : ℕ → ℕ) (xs : List ℕ) → ((x : ℕ) → κ x ≤ 3) → ((x : ℕ) → Mem x xs → κ x < 3 → g x ≡ v (κ x)) → ((x : ℕ) → Mem x xs → κ x ≡ 3 → g x ≡ 0)
    → total g xs ≡ many κ 0 xs * v 0 + many κ 1 xs * v 1 + many κ 2 xs * v 2
by_kind κ g v [] low alike none = omega arith
by_kind κ g v (x ∷ xs) low alike none =
    go (κ x) refl (by_kind κ g v xs low (λ y m. alike y (Memᴰ.tail m)) (λ y m. none y (Memᴰ.tail m)))
  where
    its : (k : ℕ) → κ x ≡ k → k < 3 → g x ≡ v k
    its k e l = rw e at (alike x (Memᴰ.head refl) (omega arith))

    go : (k : ℕ) → κ x ≡ k → total g xs ≡ many κ 0 xs * v 0 + many κ 1 xs * v 1 + many κ 2 xs * v 2
        → g x + total g xs ≡ (one_if (eqb (κ x) 0) + many κ 0 xs) * v 0 + (one_if (eqb (κ x) 1) + many κ 1 xs) * v 1 + (one_if (eqb (κ x) 2) + many κ 2 xs) * v 2
    go zero e ih = let a = its 0 e (omega arith) in rw e (omega arith)
    go (suc zero) e ih = let a = its 1 e (omega arith) in rw e (omega arith)
    go (suc (suc zero)) e ih = let a = its 2 e (omega arith) in rw e (omega arith)
    go (suc (suc (suc zero))) e ih = let a = none x (Memᴰ.head refl) e in rw e (omega arith)
    go (suc (suc (suc (suc k)))) e ih = absurd (omega (arith, low x))

-- all clocks --------------------------------------------------------------------------------------------------------------------------

-- what turns on the kinds of n clocks' intervals alone, and is 0 where one of them is of kind 3
pub record ByKinds (n : ℕ) (κ : ℕ → ℕ → ℕ) (W : List ℕ → ℕ) : Type 0 where
  pub alike : (js js' : List ℕ) → length js ≡ n → length js' ≡ n → ((z : ℕ) → z < n → κ z (at js z) ≡ κ z (at js' z)) → W js ≡ W js'
  pub none : (js : List ℕ) (z : ℕ) → length js ≡ n → z < n → κ z (at js z) ≡ 3 → W js ≡ 0

-- the clocks after the first
abbrev later : {A : Type 0} → (ℕ → A) → ℕ → A
later f z = f (suc z)

-- .. where the first one's interval is chosen
later_kinds : (n : ℕ) (κ : ℕ → ℕ → ℕ) (W : List ℕ → ℕ) → ByKinds (suc n) κ W → (x : ℕ) → ByKinds n (later κ) (λ (js : List ℕ). W (x ∷ js))
later_kinds n κ W B x = record {
  alike = λ js js' a b h. B.alike (x ∷ js) (x ∷ js') (ap suc a) (ap suc b) (each_kind js js' h);
  none = λ js z a l e. B.none (x ∷ js) (suc z) (ap suc a) (omega arith) e;
}
  where
    each_kind : (js js' : List ℕ) → ((z : ℕ) → z < n → κ (suc z) (at js z) ≡ κ (suc z) (at js' z)) → (z : ℕ) → z < suc n → κ z (at (x ∷ js) z) ≡ κ z (at (x ∷ js') z)
    each_kind js js' h zero l = refl
    each_kind js js' h (suc z) l = h z (omega arith)

-- the intervals of the clocks, their kinds, and one interval of each kind
module _ (f : ℕ → List ℕ) (κ F : ℕ → ℕ → ℕ) where
  -- in how many ways n clocks can have intervals of the pattern, and one of these ways
  abbrev pub pattern_times : ℕ → ℕ → ℕ
  pattern_times n k = product n (λ (z : ℕ). many (κ z) (digit k z) (f z))

  abbrev pub pattern_sample : ℕ → ℕ → List ℕ
  pattern_sample n k = each n (λ (z : ℕ). F z (digit k z))

-- the first clock's kind, and the pattern of the others
module _ (n : ℕ) (f : ℕ → List ℕ) (κ F : ℕ → ℕ → ℕ) (W : List ℕ → ℕ) where
  abbrev times_first : ℕ → ℕ → ℕ
  times_first d q = many (κ 0) d (f 0) * (pattern_times (later f) (later κ) (later F) n q * W (F 0 d ∷ pattern_sample (later f) (later κ) (later F) n q))

  split : (k q d : ℕ) → k ≡ 3 * q + d → d < 3 → pattern_times f κ F (suc n) k * W (pattern_sample f κ F (suc n) k) ≡ times_first d q
  unfolding product digit digits_from
  split k q d e l =
      let a : k % 3 ≡ d = omega arith in
      let b : k / 3 ≡ q = omega arith in
      rw (a, b) (mul_assoc _ _ _)

  split_sum : (m : ℕ) → sum_below (3 * m) (λ (k : ℕ). pattern_times f κ F (suc n) k * W (pattern_sample f κ F (suc n) k))
      ≡ sum_below m (times_first 0) + sum_below m (times_first 1) + sum_below m (times_first 2)
  split_sum m =
      sum_thirds m _
      ∙ sum_same m _ (λ (q : ℕ). times_first 0 q + times_first 1 q + times_first 2 q) (λ q l. three q)
      ∙ sum_add m (λ (q : ℕ). times_first 0 q + times_first 1 q) (times_first 2)
      ∙ ap (λ (x : ℕ). x + sum_below m (times_first 2)) (sum_add m (times_first 0) (times_first 1))
    where
      whole : ℕ → ℕ
      whole k = pattern_times f κ F (suc n) k * W (pattern_sample f κ F (suc n) k)

      three : (q : ℕ) → whole (3 * q) + whole (3 * q + 1) + whole (3 * q + 2) ≡ times_first 0 q + times_first 1 q + times_first 2 q
      three q = rw (split (3 * q) q 0 (omega arith) (omega arith), split (3 * q + 1) q 1 refl (omega arith), split (3 * q + 2) q 2 refl (omega arith))

pub total_patterns : (n : ℕ) (f : ℕ → List ℕ) (κ F : ℕ → ℕ → ℕ) (W : List ℕ → ℕ) → ((z x : ℕ) → κ z x ≤ 3)
    → ((z d x : ℕ) → z < n → d < 3 → Mem x (f z) → κ z x ≡ d → κ z (F z d) ≡ d) → ByKinds n κ W
    → total W (choices f n) ≡ sum_below (patterns n) (λ (k : ℕ). pattern_times f κ F n k * W (pattern_sample f κ F n k))
unfolding sum_below product patterns
total_patterns zero f κ F W low valid B = omega arith
total_patterns (suc n) f κ F W low valid B =
    let on = on (λ (x : ℕ). total_patterns n (later f) (later κ) (later F) (λ (js : List ℕ). W (x ∷ js)) (λ z. low (suc z)) (λ z d x l. valid (suc z) d x (omega arith)) (later_kinds n κ W B x)) in
    total_gather W (λ (x : ℕ). map (λ (xs : List ℕ). x ∷ xs) rest) (f 0)
    ∙ total_same _ given (f 0) (λ x m. total_map W (λ (xs : List ℕ). x ∷ xs) rest)
    ∙ by_kind (κ 0) given (λ (d : ℕ). given (F 0 d)) (f 0) (low 0) alike none
    ∙ rw (on 0 (omega arith), on 1 (omega arith), on 2 (omega arith)) (sym (split_sum n f κ F W (patterns n)))
  where
    rest : List (List ℕ)
    rest = choices (later f) n

    given : ℕ → ℕ
    given x = total (λ (js : List ℕ). W (x ∷ js)) rest

    alike : (x : ℕ) → Mem x (f 0) → κ 0 x < 3 → given x ≡ given (F 0 (κ 0 x))
    alike x m l =
        total_same _ _ rest (λ js i. let e = (choices_out (later f) n js i).0 in B.alike (x ∷ js) (F 0 (κ 0 x) ∷ js) (ap suc e) (ap suc e) (kinds js))
      where
        kinds : (js : List ℕ) (z : ℕ) → z < suc n → κ z (at (x ∷ js) z) ≡ κ z (at (F 0 (κ 0 x) ∷ js) z)
        kinds js zero h = sym (valid 0 (κ 0 x) x (omega arith) l m refl)
        kinds js (suc z) h = refl

    none : (x : ℕ) → Mem x (f 0) → κ 0 x ≡ 3 → given x ≡ 0
    none x m e = total_none _ rest (λ js i. B.none (x ∷ js) 0 (ap suc (choices_out (later f) n js i).0) (omega arith) e)

    -- with the first clock's interval chosen
    on : ((x : ℕ) → given x ≡ sum_below (patterns n) (λ (q : ℕ). pattern_times (later f) (later κ) (later F) n q * W (x ∷ pattern_sample (later f) (later κ) (later F) n q)))
        → (d : ℕ) → d < 3 → many (κ 0) d (f 0) * given (F 0 d) ≡ sum_below (patterns n) (times_first n f κ F W d)
    on below d l =
        ap (λ (x : ℕ). many (κ 0) d (f 0) * x) (below (F 0 d))
        ∙ sym (sum_scale (patterns n) (many (κ 0) d (f 0)) (λ (q : ℕ). pattern_times (later f) (later κ) (later F) n q * W (F 0 d ∷ pattern_sample (later f) (later κ) (later F) n q)))
