-- Where a walk has chosen all intervals: the rows with these that the moves allow are those that begin with them. Assumes nothing.
use Prim.Native.Nat.{ℕ, zero, suc, ◌+◌, ◌<◌}
use native.Mathlib.Omega.{arith}
use mathlib.Core.Path.{◌≡◌, sym, ap, ◌∙◌}
use mathlib.Core.Logic.{inl}
use mathlib.Core.List.{List, []}
use lib.ListN.{length, take, length-take}
use lib.Seq.{ext_get_or}
use borrow.Author.Tests.{eq-eqb, ne_eqb}
use Rattle.automata.specs.Clocks.{at}
use Rattle.automata.specs.Row.{Row}
use Rattle.automata.specs.Closed.{Mem}
use Rattle.regions.specs.Values.{row_of}
use Rattle.regions.specs.declared.region.Region.{Region}
use Rattle.edge_walk.specs.Choice.{Candidate, Ready}
use Rattle.edge_walk.specs.Stand.{Begun, Ahead, Standing}
use Rattle.edge_walk.specs.declared.search.Search.{Search}
use Rattle.edge_walk.specs.declared.stand.Stand.{Stand}
use Rattle.ranked_ways.specs.Allowed.{rows_allowed, rows_chosen}
use Rattle.regions.proofs.Laws.Values.{length_first, length_padded}
use Rattle.edge_walk.proofs.Laws.Numbers.{interval_number}
use Rattle.ranked_ways.proofs.Laws.Allowed.{allowed_in, allowed_out}

-- its part has four of them
pub four_intervals : (s : Search) → Ready s → (a : Stand) → Standing s a → length a.part.intervals ≡ 4
four_intervals s ready a standing =
    sym (ap (λ (v : Region). length v.intervals) standing.plain)
    ∙ length_padded (take s.clocks.count a.part.intervals) (omega (arith, length-take s.clocks.count a.part.intervals, ready.few.few))

module _ (s : Search) (ready : Ready s) (bounds : length s.clocks.bounds ≡ 4) (a : Stand) (four : length a.part.intervals ≡ 4)
    (all : a.depth ≡ 1 + s.clocks.count) (fresh : a.least ≡ 0) where
  abbrev n : ℕ
  n = s.clocks.count

  abbrev js : List ℕ
  js = take n a.part.intervals

  pub sized : (x : Row) → Candidate s x → (length x.intervals ≡ n) × (length x.ranks ≡ n)
  sized x q =
      let e = length_first n s.clocks.bounds ready.few.few bounds in
      (q.is_row.intervals_length ∙ e, q.is_row.ranks_length ∙ e)

  long : length js ≡ n
  long = length_first n a.part.intervals ready.few.few four

  -- what begins with them has them
  pub begun_in : (x : Row) → Candidate s x → Begun s a x → Mem x (rows_allowed s a.part)
  begun_in x q h = allowed_in s a.part x q (h 0 (omega arith)) (ext_get_or 0 x.intervals js ((sized x q).0 ∙ sym long) alike)
    where
      alike : (z : ℕ) → z < length x.intervals → at x.intervals z ≡ at js z
      alike z l =
          let i : z < n = omega (arith, (sized x q).0) in
          sym (interval_number n x (sized x q).0 z i) ∙ h (suc z) (omega arith) ∙ interval_number n (row_of n a.part) long z i

  pub in_begun : (x : Row) → Mem x (rows_allowed s a.part) → Candidate s x × (x.location ≡ a.part.location) × Begun s a x
  in_begun x m =
      let (q, d, e) = allowed_out s a.part x m in
      (q, d, begun x q d e)
    where
      begun : (x : Row) → Candidate s x → x.location ≡ a.part.location → x.intervals ≡ js → Begun s a x
      begun x q d e zero l = d
      begun x q d e (suc z) l =
          interval_number n x (sized x q).0 z (omega arith) ∙ ap (λ (us : List ℕ). at us z) e ∙ sym (interval_number n (row_of n a.part) long z (omega arith))

  pub in_ahead : (x : Row) → Mem x (rows_allowed s a.part) → Ahead s a x
  in_ahead x m = let (q, d, h) = in_begun x m in record { held = q; located = d; later = inl (h, omega (arith, fresh)) }

-- the rows where a walk stands
module _ (s : Search) (a : Stand) where
  pub chosen_none : (a.depth ≡ 1 + s.clocks.count → ⊥) → rows_chosen s a ≡ []
  unfolding rows_chosen
  chosen_none f = rw (ne_eqb a.depth (1 + s.clocks.count) f)

  pub chosen_all : a.depth ≡ 1 + s.clocks.count → rows_chosen s a ≡ rows_allowed s a.part
  unfolding rows_chosen
  chosen_all e = rw (eq-eqb a.depth (1 + s.clocks.count) e)
