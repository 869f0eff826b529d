-- The first of a sorted list's rows above a floor is the least of them. Assumes nothing.
use Rattle.automata.proofs.Laws.Ordered.{not_both_below}
use mathlib.Core.Path.{◌≡◌, refl, sym, ap, ◌∙◌}
use mathlib.Core.Bool.{Bool, true, false, cond}
use mathlib.Core.Logic.{◌⊎◌, inl, inr}
use mathlib.Core.Option.{Option, none, some}
use mathlib.Core.List.Memᴰ
use mathlib.Core.List.{List, [], ◌∷◌}
use Rattle.automata.specs.Row.{Row, Below}
use Rattle.automata.specs.Closed.{Mem}
use Rattle.regions.specs.Values.{sought}
use Rattle.edge_walk.specs.Walk.{above, first_above}
use Rattle.edge_walk.specs.Choice.{First, Answers}
use Rattle.std.specs.declared.option.Option as option_code
use Rattle.regions.specs.declared.region.Region.{Region}
use Rattle.automata.proofs.Laws.Tests.{never}
use Rattle.automata.proofs.Laws.Members.{Sorted}

-- the first ---------------------------------------------------------------------------------------------------------------------------

-- what is the same rows has the same first
first_same : (Q Q' : Row → Type 0) → ((x : Row) → Q x → Q' x) → ((x : Row) → Q' x → Q x) → (o : Option Row) → First Q o → First Q' o
first_same Q Q' to back none f = λ x q. f x (back x q)
first_same Q Q' to back (some y) f = (to y f.0, λ x q. f.1 x (back x q))

module _ (floor : Option Row) where
  -- the rows of a list above the floor
  abbrev pub Among : List Row → Row → Type 0
  Among rows x = Mem x rows × (above floor x ≡ true)

  first_is : (rows : List Row) → Sorted Below rows → (o : Option Row) → First (Among rows) o → o ≡ first_above floor rows
  unfolding first_above
  first_is [] s none f = refl
  first_is [] s (some y) f = absurd (Memᴰ.not-nil f.0.0)
  first_is (r ∷ rows) s o f = go (above floor r) refl (first_is rows s.1) o f
    where
      later : (y : Row) → above floor r ≡ false → Among (r ∷ rows) y → Among rows y
      later y e (m, h) = split (Memᴰ.cases_cons m)
        where
          split : (y ≡ r) ⊎ Mem y rows → Among rows y
          split (inl q) = never (sym e ∙ ap (above floor) (sym q) ∙ h)
          split (inr k) = (k, h)

      earlier : (x : Row) → Among rows x → Among (r ∷ rows) x
      earlier x q = (Memᴰ.tail q.0, q.1)

      least : (y : Row) → Mem y (r ∷ rows) → (r ≡ y) ⊎ Below y r → some y ≡ some r
      least y m (inl q) = ap some (sym q)
      least y m (inr b) = split (Memᴰ.cases_cons m)
        where
          split : (y ≡ r) ⊎ Mem y rows → some y ≡ some r
          split (inl q) = ap some q
          split (inr k) = absurd (not_both_below y r b (s.0 y k))

      go : (b : Bool) → above floor r ≡ b → ((o : Option Row) → First (Among rows) o → o ≡ first_above floor rows)
          → (o : Option Row) → First (Among (r ∷ rows)) o → o ≡ cond b (some r) (first_above floor rows)
      go true e ih none f = absurd (f r (Memᴰ.head refl, e))
      go true e ih (some y) f = least y f.0.0 (f.1 r (Memᴰ.head refl, e))
      go false e ih o f = ih o (first_same (Among (r ∷ rows)) (Among rows) (λ x. later x e) earlier o f)

  -- an answer among the same rows
  pub answer_is : (rows : List Row) → Sorted Below rows → (Q : Row → Type 0) (r : option_code.Option Region) → ((x : Row) → Q x → Among rows x) → ((x : Row) → Among rows x → Q x)
      → Answers Q r → r ≡ sought (first_above floor rows)
  answer_is rows s Q r to back a = a.given ∙ ap sought (first_is rows s a.row (first_same Q (Among rows) to back a.row a.first))

  -- no answer
  pub no_answer : (rows : List Row) → Sorted Below rows → ((x : Row) → Among rows x → ⊥) → option_code.TheVariants.None ≡ sought (first_above floor rows)
  no_answer rows s f = ap sought (first_is rows s none f)

  -- no rows
  pub nothing_first : (rows : List Row) → [] ≡ rows → option_code.TheVariants.None ≡ sought (first_above floor rows)
  unfolding first_above
  nothing_first rows e = rw (← e) refl
