-- A visit of all rows that are ahead, step by step: those behind have passed the test. Assumes nothing.
use Prim.Native.Nat.{◌+◌, ◌*◌}
use mathlib.Core.Path.{◌≡◌, refl, sym, ap, ◌∙◌}
use mathlib.Core.Bool.{Bool, true, false, not, ◌||◌}
use mathlib.Core.Logic.{◌⊎◌, inl, inr}
use lib.ListN.{length}
use Rattle.automata.specs.Row.{Row}
use Rattle.automata.specs.Rows.{isrowb}
use Rattle.automata.specs.Closed.{Mem}
use Rattle.automata.specs.Checks.{every}
use Rattle.regions.specs.Values.{bounds_of, row_of}
use Rattle.edge_walk.specs.Choice.{Ready}
use Rattle.edge_walk.specs.Stand.{start, Begun, Ahead, Standing, Advance}
use Rattle.edge_walk.specs.Visit.{AllPass, Seen}
use Rattle.edge_walk.specs.Way.{rows_on}
use Rattle.edge_walk.specs.declared.search.Search.{Search}
use Rattle.edge_walk.specs.declared.stand.Stand.{Stand}
use Rattle.edge_walk.specs.declared.way.Way.{Way}
use Rattle.automata.proofs.Laws.Tests.{Says, never, true_or_false, fails}
use Rattle.automata.proofs.Laws.Checks.{every_law}
use Rattle.edge_walk.proofs.Laws.Stand.{none_ahead, itself, no_region, met, Reached, goes_on}
use Rattle.edge_walk.proofs.Laws.Along.{start_on, on_start}

-- from where a visit began it has come to b, and all that is behind has passed
abbrev pub Visiting : Search → (Row → Bool) → Stand → Stand → Type 0
Visiting s p a b = Reached s (λ x. p x ≡ true) a b

module _ (s : Search) (p : Row → Bool) (a b : Stand) (v : Visiting s p a b) where
  pub visit_ends : Ready s → length s.clocks.bounds ≡ 4 → b.depth ≡ 0 → AllPass (Ahead s a) p true
  visit_ends ready four e = record { passed = λ t x q. go x (v.to x q); noticed = λ all. refl }
    where
      go : (x : Row) → (p x ≡ true) ⊎ Ahead s b x → p x ≡ true
      go x (inl h) = h
      go x (inr q) = absurd (none_ahead s ready four b v.standing e x q)

  -- a row fails
  pub visit_fails : (l done : Bool) → Seen s b p l done → l ≡ false → AllPass (Ahead s a) p false
  visit_fails l done seen f = record { passed = λ t. never t; noticed = λ all. sym f ∙ seen.noticed (λ x q. all x (v.from x q)) }

  pub visit_on : (l done : Bool) → Seen s b p l done → l ≡ true → (c : Stand) → Advance s (λ x. (done ≡ true) × Begun s b x) b c → Visiting s p a c
  visit_on l done seen t c step =
      goes_on s (λ x. p x ≡ true) (λ x. (done ≡ true) × Begun s b x) a b c v step (λ x q (d, h). seen.passed t d x q h)

-- a look where all is chosen: at the part, if it is a region
module _ (s : Search) (ready : Ready s) (four : length s.clocks.bounds ≡ 4) (a : Stand) (stand : Standing s a) (all : a.depth ≡ 1 + 2 * s.clocks.count) (p : Row → Bool) where
  abbrev part : Row
  part = row_of s.clocks.count a.part

  pub seen_all : (l : Bool) → l ≡ (not (isrowb (bounds_of s.clocks) part) || p part) → Seen s a p l true
  seen_all l e = go (isrowb (bounds_of s.clocks) part) refl e
    where
      go : (g : Bool) → isrowb (bounds_of s.clocks) part ≡ g → l ≡ (not g || p part) → Seen s a p l true
      go true g e = record {
        passed = λ t d x q h. ap p (itself s ready four a stand all x q.held h) ∙ sym e ∙ t;
        noticed = λ every. e ∙ every part (met s ready four a stand all g);
        on = λ f. never (sym f);
      }
      go false g e = record {
        passed = λ t d x q h. absurd (no_region s ready four a stand all g x q h);
        noticed = λ every. e;
        on = λ f. never (sym f);
      }

-- the whole of an edge's way --------------------------------------------------------------------------------------------------------------

module _ (w : Way) (ready : Ready w.search) (p : Row → Bool) where
  rows_law : Says (every p (rows_on w)) ((x : Row) → Mem x (rows_on w) → p x ≡ true)
  rows_law = every_law p (λ x. (λ h. h, λ h. h)) (rows_on w)

  pub visited : (b : Bool) → AllPass (Ahead w.search (start w.target)) p b → b ≡ every p (rows_on w)
  visited b a = go (true_or_false b)
    where
      go : (b ≡ true) ⊎ (b ≡ false) → b ≡ every p (rows_on w)
      go (inl t) = t ∙ sym (rows_law.1 (λ x m. a.passed t x (on_start w ready x m)))
      go (inr f) = f ∙ sym (fails (every p (rows_on w)) rows_law (λ all. never (sym f ∙ a.noticed (λ x q. all x (start_on w ready x q)))))
