-- What is said of an edge, and of where rows stand, can be said in one way alone, so that a type may keep it. Assumes nothing.
use Rattle.std.specs.Prelude.{ℕ, List}
use mathlib.Core.HLevel.{×_prop, Unit-prop, ⊥_prop}
use native.Mathlib.Bridge.{le_prop}
use native.Mathlib.Nat.{ℕ_set}
use Rattle.automata.specs.Edge.{Action, keep, constant, clock, Edge, BoundedBy, Bounded}
use Rattle.listed_rows.specs.Located.{Starts, Together, RowsIn}

pub bounded_by_prop : (c : List ℕ) (z : ℕ) (a : Action) → IsProp (BoundedBy c z a)
bounded_by_prop c z keep = Unit-prop
bounded_by_prop c z (constant k) = le_prop
bounded_by_prop c z (clock y up down) = ×_prop le_prop le_prop

pub bounded_prop : (c : List ℕ) (e : Edge) → IsProp (Bounded c e)
bounded_prop c e a b = λ i. record {
  guards_in = λ k h d. ×_prop le_prop le_prop (a.guards_in k h d) (b.guards_in k h d) i;
  updates_length = ℕ_set _ _ a.updates_length b.updates_length i;
  updates_in = λ z h. bounded_by_prop c z _ (a.updates_in z h) (b.updates_in z h) i;
}

pub starts_prop : (n : ℕ) (list : List ℕ) (count l m : ℕ) → IsProp (Starts n list count l m)
starts_prop n list count l m a b = λ i. record {
  within = le_prop a.within b.within i;
  before = λ k h. le_prop (a.before k h) (b.before k h) i;
  others = λ k h g. le_prop (a.others k h g) (b.others k h g) i;
}

pub together_prop : (n : ℕ) (list : List ℕ) (count start l m : ℕ) → IsProp (Together n list count start l m)
together_prop n list count start l m a b = λ i. record {
  «from» = le_prop a.from b.from i;
  within = le_prop a.within b.within i;
  all = λ k h g. ℕ_set _ _ (a.all k h g) (b.all k h g) i;
  next = λ h e. ⊥_prop (a.next h e) (b.next h e) i;
}

pub rows_in_prop : (n : ℕ) (list : List ℕ) (count l start end : ℕ) → IsProp (RowsIn n list count l start end)
rows_in_prop n list count l start end a b = λ i. record {
  starts = starts_prop n list count l start a.starts b.starts i;
  together = together_prop n list count start l end a.together b.together i;
}
