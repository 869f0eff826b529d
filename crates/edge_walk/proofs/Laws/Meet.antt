-- The walk to the next region: step by step the same rows are ahead, until one is met or the walk is over. Assumes nothing.
use Prim.Native.Nat.{ℕ, ◌+◌, ◌*◌, ◌<◌}
use native.Mathlib.Omega.{arith}
use mathlib.Core.Path.{◌≡◌, refl, sym, ap, ◌∙◌}
use mathlib.Core.Bool.{Bool, true, false, ◌&&◌}
use mathlib.Core.Logic.{◌⊎◌, inl, inr}
use mathlib.Core.Option.{none, some}
use lib.ListN.{length}
use lib.Dec.{eqb}
use Rattle.automata.specs.Row.{Row}
use Rattle.automata.specs.Rows.{isrowb}
use Rattle.regions.specs.Values.{bounds_of, row_of}
use Rattle.edge_walk.specs.Choice.{Answers, Ready}
use Rattle.edge_walk.specs.Stand.{Begun, Ahead, Advance}
use Rattle.regions.specs.declared.region.Region.{Region}
use Rattle.std.specs.declared.option.Option as option_code
use Rattle.edge_walk.specs.declared.search.Search.{Search}
use Rattle.edge_walk.specs.declared.stand.Stand.{Stand}
use Rattle.automata.proofs.Laws.Tests.{Says, eqb_law, and_law, refutes}
use Rattle.edge_walk.proofs.Laws.Stand.{none_ahead, no_region, least_met, Reached, goes_on}

-- from where a walk began it has come to b, and nothing was met
abbrev pub Unmet : Search → Stand → Stand → Type 0
Unmet s a b = Reached s (λ x. ⊥) a b

module _ (s : Search) (ready : Ready s) (four : length s.clocks.bounds ≡ 4) (a b : Stand) (u : Unmet s a b) where
  abbrev n : ℕ
  n = s.clocks.count

  still_ahead : (x : Row) → Ahead s a x → Ahead s b x
  still_ahead x q = go (u.to x q)
    where
      go : ⊥ ⊎ Ahead s b x → Ahead s b x
      go (inl d) = absurd d
      go (inr r) = r

  pub nothing_met : b.depth ≡ 0 → Answers (Ahead s a) option_code.TheVariants.None
  nothing_met e = record { row = none; given = refl; first = λ x q. none_ahead s ready four b u.standing e x (still_ahead x q) }

  -- the code's test whether the part is met
  module _ (all : ℕ) (f : all ≡ 1 + 2 * n) where
    abbrev metb : Bool
    metb = eqb b.depth all && isrowb (bounds_of s.clocks) (row_of n b.part)

    met_law : Says metb ((b.depth ≡ all) × (isrowb (bounds_of s.clocks) (row_of n b.part) ≡ true))
    met_law = and_law (eqb b.depth all) (isrowb (bounds_of s.clocks) (row_of n b.part)) (eqb_law b.depth all) (λ h. h, λ h. h)

    pub one_met : metb ≡ true → Answers (Ahead s a) (option_code.TheVariants.Some b.part)
    one_met h =
        let (e, g) = met_law.0 h in
        let (q, least) = least_met s ready four b u.standing (e ∙ f) g in
        record {
          row = some (row_of n b.part);
          given = ap (λ (v : Region). option_code.TheVariants.Some v) (sym u.standing.plain);
          first = (u.from (row_of n b.part) q, λ x p. least x (still_ahead x p));
        }

    pub not_all : eqb b.depth all ≡ false → b.depth < 1 + 2 * n
    not_all h = let d = refutes (eqb b.depth all) (eqb_law b.depth all) h in omega (arith, u.standing.within, d)

    pub unmet_on : metb ≡ false → (c : Stand) → Advance s (λ x. (eqb b.depth all ≡ true) × Begun s b x) b c → Unmet s a c
    unmet_on h c step = goes_on s (λ x. ⊥) (λ x. (eqb b.depth all ≡ true) × Begun s b x) a b c u step (λ x q (t, w). shut x q ((eqb_law b.depth all).0 t) w (isrowb (bounds_of s.clocks) (row_of n b.part)) refl)
      where
        shut : (x : Row) → Ahead s b x → b.depth ≡ all → Begun s b x → (g : Bool) → isrowb (bounds_of s.clocks) (row_of n b.part) ≡ g → ⊥
        shut x q e w true g = refutes metb met_law h (e, g)
        shut x q e w false g = no_region s ready four b u.standing (e ∙ f) g x q w
