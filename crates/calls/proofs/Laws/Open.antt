-- Refusal 17 stands at the first row that lacks a next row. Assumes nothing.
use Prim.Native.Nat.{ℕ, zero, suc, ◌+◌, ◌<◌}
use native.Mathlib.Omega.{arith}
use mathlib.Core.Path.{◌≡◌, refl, sym, ap, ◌∙◌}
use mathlib.Core.Bool.{Bool, true, false, ◌&&◌}
use mathlib.Core.List.Memᴰ
use mathlib.Core.List.{List, [], ◌∷◌}
use lib.ListN.{length, get_or}
use Rattle.automata.specs.Row.{Row}
use Rattle.automata.specs.Automaton.{Table}
use Rattle.automata.specs.Closed.{Mem}
use Rattle.automata.specs.Next.{next_rows}
use Rattle.automata.specs.Checks.{every, has}
use Rattle.automata.proofs.Laws.Tests.{Says, never}
use Rattle.automata.proofs.Laws.Checks.{has_law, every_law}
use Rattle.table_files.specs.Reading.{good, bad, carry, require}
use Rattle.table_files.proofs.Laws.Reading.{cons_all, tested, goes, passes, fails}
use Rattle.calls.specs.RegionFile.{none_open}
use Rattle.calls.proofs.Laws.Refusals.{not_bad}

pub not_every : {A : Type 0} (p : A → Bool) (xs : List A) → every p xs ≡ false → (a : A) × Mem a xs × (p a ≡ false)
not_every p [] h = never (sym h)
not_every {A} p (x ∷ xs) h = go (p x) refl h (not_every p xs)
  where
    go : (b : Bool) → p x ≡ b → (b && every p xs) ≡ false → (every p xs ≡ false → (a : A) × Mem a xs × (p a ≡ false)) → (a : A) × Mem a (x ∷ xs) × (p a ≡ false)
    go true e k on = let (a, m, f) = on k in (a, Memᴰ.tail m, f)
    go false e k on = (x, Memᴰ.head refl, e)

pub get_or_any : {A : Type 0} (xs : List A) (i : ℕ) → i < length xs → (d d' : A) → get_or xs i d ≡ get_or xs i d'
get_or_any [] i h d d' = absurd (omega arith)
get_or_any (x ∷ xs) zero h d d' = refl
get_or_any (x ∷ xs) (suc i) h d d' = get_or_any xs i (omega arith) d d'

module _ (T : Table) (rows : List Row) where
  abbrev pub full : Row → Bool
  full r = every (has rows) (next_rows T r)

  pub full_law : (r : Row) → Says (full r) ((r' : Row) → Mem r' (next_rows T r) → Mem r' rows)
  full_law r = every_law (has rows) (has_law rows) (next_rows T r)

  pub all_full : (place : ℕ) (rest : List Row) (f : List ℕ) {u : Unit {0}} {left : List ℕ} → none_open T rows place rest f ≡ good u left → (r : Row) → Mem r rest → full r ≡ true
  unfolding none_open
  all_full place [] f h r m = absurd (Memᴰ.not-nil m)
  all_full place (s ∷ rest) f h r m =
      tested _ _ _ _ _ h λ t1 h1.
      cons_all (λ (x : Row). full x ≡ true) t1 (all_full (place + 1) rest f h1) r m

  pub full_passes : (place : ℕ) (rest : List Row) (f : List ℕ) → ((r : Row) → Mem r rest → full r ≡ true) → none_open T rows place rest f ≡ good tt f
  unfolding none_open
  full_passes place [] f h = refl
  full_passes place (r ∷ rest) f h =
      goes _ _ tt f (passes 17 place (full r) f (h r (Memᴰ.head refl)))
      ∙ full_passes (place + 1) rest f (λ s m. h s (Memᴰ.tail m))

  -- the row of this number is the first that is not full
  pub record LeastOpen (d : Row) (rest : List Row) (i : ℕ) : Type 0 where
    pub within : i < length rest
    pub here : full (get_or rest i d) ≡ false
    pub before : (j : ℕ) → j < i → full (get_or rest j d) ≡ true

  pub least_refused : (d : Row) (place : ℕ) (rest : List Row) (f : List ℕ) (i : ℕ) → LeastOpen d rest i → none_open T rows place rest f ≡ bad 17 (place + i)
  unfolding none_open
  least_refused d place [] f i L = absurd (omega (arith, L.within))
  least_refused d place (r ∷ rest) f zero L = fails 17 place (full r) f _ L.here ∙ ap (bad 17) (omega arith)
  least_refused d place (r ∷ rest) f (suc i) L =
      goes _ _ tt f (passes 17 place (full r) f (L.before 0 (omega arith)))
      ∙ least_refused d (place + 1) rest f i (record { within = omega (arith, L.within); here = L.here; before = λ j l. L.before (suc j) (omega arith) })
      ∙ ap (bad 17) (omega arith)

  pub refused_least : (d : Row) (place : ℕ) (rest : List Row) (f : List ℕ) (p : ℕ) → none_open T rows place rest f ≡ bad 17 p → (i : ℕ) × (p ≡ place + i) × LeastOpen d rest i
  unfolding none_open carry require
  refused_least d place [] f p h = not_bad h
  refused_least d place (r ∷ rest) f p h = go (full r) refl (refused_least d (place + 1) rest f p) h
    where
      earlier : full r ≡ true → (i : ℕ) → LeastOpen d rest i → (j : ℕ) → j < suc i → full (get_or (r ∷ rest) j d) ≡ true
      earlier e i L zero l = e
      earlier e i L (suc j) l = L.before j (omega arith)

      go : (b : Bool) → full r ≡ b → (none_open T rows (place + 1) rest f ≡ bad 17 p → (i : ℕ) × (p ≡ place + 1 + i) × LeastOpen d rest i)
          → carry (require 17 place b f) (λ _. none_open T rows (place + 1) rest) ≡ bad 17 p → (i : ℕ) × (p ≡ place + i) × LeastOpen d (r ∷ rest) i
      go true e on h = let (i, q, L) = on h in (suc i, omega arith, record { within = omega (arith, L.within); here = L.here; before = earlier e i L })
      go false e on h = let q : place ≡ p = cc in (0, omega arith, record { within = omega arith; here = e; before = λ j l. absurd (omega arith) })
