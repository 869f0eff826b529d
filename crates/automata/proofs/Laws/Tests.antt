-- What a test that passes says, and a test that fails: the laws of tests, built as the tests are. Assumes nothing.
use Prim.Native.Nat.{ℕ, zero, suc, ◌≤◌, ◌<◌}
use native.Mathlib.Decide.{ℕ_discrete}
use native.Mathlib.Omega.{arith}
use mathlib.Core.Path.{◌≡◌, refl, sym, ◌∙◌}
use mathlib.Core.Bool.{Bool, true, false, not, ◌&&◌, ◌||◌}
use mathlib.Core.Logic.{◌⊎◌, inl, inr, ◌↔◌}
use lib.Dec.{eqb, leb, ltb}
use borrow.Author.Tests.{eqb-true, leb-true, ltb-true, eq-eqb, le-leb, lt-ltb}
use Rattle.automata.specs.Clocks.{allb, someb}

pub never : {X : Type 0} → false ≡ true → X
never e = let z : ◌≡◌ {A = ℕ} 0 1 = cc in absurd (omega arith)

pub true_or_false : (b : Bool) → (b ≡ true) ⊎ (b ≡ false)
true_or_false true = inl refl
true_or_false false = inr refl

-- the test b passes just where P holds
abbrev pub Says : Bool → Type 0 → Type 0
Says b P = (b ≡ true) ↔ P

module _ {P : Type 0} where
  pub fails : (b : Bool) → Says b P → (P → ⊥) → b ≡ false
  fails true l n = absurd (n (l.0 refl))
  fails false l n = refl

  pub refutes : (b : Bool) → Says b P → b ≡ false → P → ⊥
  refutes b l e p = never (sym e ∙ l.1 p)

  pub either : (b : Bool) → Says b P → (P → ⊥) ⊎ P
  either true l = inr (l.0 refl)
  either false l = inl (λ p. never (l.1 p))

pub eqb_law : (a b : ℕ) → Says (eqb a b) (a ≡ b)
eqb_law a b = (eqb-true a b, eq-eqb a b)

pub leb_law : (a b : ℕ) → Says (leb a b) (a ≤ b)
leb_law a b = (leb-true a b, le-leb a b)

pub ltb_law : (a b : ℕ) → Says (ltb a b) (a < b)
ltb_law a b = (ltb-true a b, lt-ltb a b)

pub not_law : (b : Bool) → Says (not b) (b ≡ false)
not_law true = (λ h. never h, λ e. sym e)
not_law false = (λ h. refl, λ e. refl)

module _ {P Q : Type 0} where
  pub and_law : (a b : Bool) → Says a P → Says b Q → Says (a && b) (P × Q)
  and_law true b p q = (λ h. (p.0 refl, q.0 h), λ h. q.1 h.1)
  and_law false b p q = (λ h. never h, λ h. p.1 h.0)

  pub or_law : (a b : Bool) → Says a P → Says b Q → Says (a || b) (P ⊎ Q)
  or_law true b p q = (λ h. inl (p.0 refl), λ t. refl)
  or_law false b p q = (λ h. inr (q.0 h), λ t. go t)
    where
      go : P ⊎ Q → b ≡ true
      go (inl x) = never (p.1 x)
      go (inr y) = q.1 y

  pub implies_law : (a b : Bool) → Says a P → Says b Q → Says (not a || b) (P → Q)
  implies_law true b p q = (λ h x. q.0 h, λ f. q.1 (f (p.0 refl)))
  implies_law false b p q = (λ h x. never (p.1 x), λ f. refl)

  -- a test that says P says what P is the same as
  pub says : (b : Bool) → Says b P → P ↔ Q → Says b Q
  says b l e = (λ h. e.0 (l.0 h), λ q. l.1 (e.1 q))

-- all clocks, some clock ------------------------------------------------------------------------------------------------------------

pub allb_law : {P : ℕ → Type 0} (n : ℕ) (f : ℕ → Bool) → ((z : ℕ) → Says (f z) (P z)) → Says (allb n f) ((z : ℕ) → z < n → P z)
unfolding allb
allb_law zero f l = (λ h z k. absurd (omega arith), λ h. refl)
allb_law {P} (suc n) f l = says (allb n f && f n) (and_law (allb n f) (f n) (allb_law n f l) (l n)) (λ p z h. go p z h (ℕ_discrete z n), λ h. (λ z k. h z (omega arith), h n (omega arith)))
  where
    go : ((z : ℕ) → z < n → P z) × P n → (z : ℕ) → z < suc n → Dec (z ≡ n) → P z
    go p z h (yes e) = rw e p.1
    go p z h (no e) = p.0 z (omega arith)

pub someb_law : {P : ℕ → Type 0} (n : ℕ) (f : ℕ → Bool) → ((z : ℕ) → Says (f z) (P z)) → Says (someb n f) ((z : ℕ) × (z < n) × P z)
unfolding someb
someb_law zero f l = (λ h. never h, λ t. absurd (let h : t.0 < 0 = t.1 in omega arith))
someb_law {P} (suc n) f l = go (f n) (l n) (someb_law n f l)
  where
    shorter : (z : ℕ) → z < suc n → P z → (P n → ⊥) → Dec (z ≡ n) → (z : ℕ) × (z < n) × P z
    shorter z h p out (yes e) = absurd (out (rw e at p))
    shorter z h p out (no e) = (z, omega arith, p)

    go : (b : Bool) → Says b (P n) → Says (someb n f) ((z : ℕ) × (z < n) × P z) → Says (b || someb n f) ((z : ℕ) × (z < suc n) × P z)
    go true p ih = (λ h. (n, omega arith, p.0 refl), λ t. refl)
    go false p ih = (λ h. let (z, k, q) = ih.0 h in (z, omega arith, q), λ t. ih.1 (shorter t.0 t.1 t.2 (λ q. never (p.1 q)) (ℕ_discrete t.0 n)))

-- two tests that say the same
pub same_test : {P : Type 0} (a b : Bool) → Says a P → Says b P → a ≡ b
same_test true true p q = refl
same_test true false p q = sym (q.1 (p.0 refl))
same_test false true p q = p.1 (q.0 refl)
same_test false false p q = refl

pub and_false : (b : Bool) → (b && false) ≡ false
and_false true = refl
and_false false = refl
