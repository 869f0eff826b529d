-- An edge's way from a region: its rows are those that the edge leads to. Assumes nothing.
use Prim.Native.Nat.{ℕ, ◌+◌, ◌*◌, ◌-◌, ◌≤◌, ◌<◌}
use native.Mathlib.Omega.{arith}
use mathlib.Core.Path.{◌≡◌, refl, sym, ap, ◌∙◌}
use mathlib.Core.Bool.{Bool, true, false, ◌&&◌}
use mathlib.Core.List.Memᴰ
use mathlib.Core.List.{List, [], ◌∷◌}
use lib.ListN.{length, get_or}
use lib.Dec.{eqb}
use Rattle.automata.specs.Clocks.{at, allb, greatest}
use Rattle.automata.specs.Row.{Row, IsRow, Below}
use Rattle.automata.specs.Edge.{Action, keep, constant, clock, Update, idle, Edge, Bounded}
use Rattle.automata.specs.Closed.{Mem}
use Rattle.automata.specs.Rows.{select, rows_at}
use Rattle.automata.specs.Successors.{guardsb, least, placedb, leadsb, edge_rows}
use Rattle.regions.specs.Values.{Few, bounds_of, row_of, edge_of}
use Rattle.regions.specs.Move.{move_of, permitsb}
use Rattle.regions.specs.Placing.{still, placed_at, some_permitted, MovesOf}
use Rattle.edge_walk.specs.Choice.{allowsb}
use Rattle.edge_walk.specs.Way.{rows_on}
use Rattle.regions.specs.declared.clocks.Clocks.{Clocks}
use Rattle.regions.specs.declared.region.Region.{Region}
use Rattle.regions.specs.declared.edge.Edge as edge_code
use Rattle.regions.specs.declared.placing.Moves.{Moves}
use Rattle.edge_walk.specs.declared.search.Search.{Search}
use Rattle.automata.proofs.Laws.Tests.{Says, never, fails, refutes, eqb_law, leb_law, and_law, allb_law}
use Rattle.automata.proofs.Laws.Members.{Sorted, sorted_select}
use Rattle.automata.proofs.Laws.Ranks.{few_ranks}
use Rattle.automata.proofs.Laws.Rows.{isrowb_law, rows_at_out, rows_at_sorted}
use Rattle.automata.proofs.Laws.Leads.{least_is}
use Rattle.regions.proofs.Laws.Values.{at_take, length_first}
use Rattle.regions.proofs.Laws.Placing.{placed_permits, placed_same}

-- tests that agree on the elements of a list select the same, and one that none passes selects nothing
select_same : (p q : Row → Bool) (xs : List Row) → ((x : Row) → Mem x xs → p x ≡ q x) → select p xs ≡ select q xs
select_same p q [] f = refl
select_same p q (x ∷ xs) f = rw (f x (Memᴰ.head refl), select_same p q xs (λ y m. f y (Memᴰ.tail m)))

pub select_none : (p : Row → Bool) (xs : List Row) → ((x : Row) → Mem x xs → p x ≡ false) → select p xs ≡ []
select_none p [] f = refl
select_none p (x ∷ xs) f = rw (f x (Memᴰ.head refl)) (select_none p xs (λ y m. f y (Memᴰ.tail m)))

-- the rows that an edge leads to --------------------------------------------------------------------------------------------------------

abbrev Led : List ℕ → Edge → Row → Row → Type 0
Led c e r x =
    ((((r.location ≡ e.source) × (x.location ≡ e.target)) × (guardsb r e.guards ≡ true)) × IsRow c x) × (placedb c e r x ≡ true)

led_law : (c : List ℕ) (e : Edge) (r x : Row) → Says (leadsb c e r x) (Led c e r x)
unfolding leadsb
led_law c e r x =
    and_law _ _ (and_law _ _ (and_law _ _ (and_law _ _ (eqb_law r.location e.source) (eqb_law x.location e.target)) (λ h. h, λ h. h)) (isrowb_law c x)) (λ h. h, λ h. h)

pub led_sorted : (c : List ℕ) (e : Edge) (r : Row) → Sorted Below (edge_rows c e r)
unfolding edge_rows
led_sorted c e r = sorted_select Below (leadsb c e r) (rows_at c e.target) (rows_at_sorted c e.target)

move_top : (c : List ℕ) (r : Row) (z : ℕ) (u : Update) → (move_of c r z u).top ≡ 2 * at c z + 1
move_top c r z u = go u.action
  where
    go : (a : Action) → (move_of c r z (record { action = a; comparison = u.comparison })).top ≡ 2 * at c z + 1
    go keep = refl
    go (constant k) = refl
    go (clock y up down) = refl

-- the code's way --------------------------------------------------------------------------------------------------------------------------

module _ (k : Clocks) (few : Few k) (four : length k.bounds ≡ 4) (v : Region) (row : IsRow (bounds_of k) (row_of k.count v))
    (d : edge_code.Edge) (B : Bounded (bounds_of k) (edge_of k.count d)) where
  abbrev n : ℕ
  n = k.count

  abbrev c : List ℕ
  c = bounds_of k

  abbrev e : Edge
  e = edge_of n d

  abbrev r : Row
  r = row_of n v

  clocks_count : length c ≡ n
  clocks_count = length_first n k.bounds few.few four

  -- it does not leave from the region
  pub no_way : eqb v.location d.source && guardsb r e.guards ≡ false → [] ≡ edge_rows c e r
  unfolding edge_rows
  no_way f = sym (select_none (leadsb c e r) (rows_at c e.target) (λ x m. fails (leadsb c e r x) (led_law c e r x) (λ l. shut l.0.0.0.0 l.0.0.1)))
    where
      shut : v.location ≡ d.source → guardsb r e.guards ≡ true → ⊥
      shut p q = refutes (eqb v.location d.source && guardsb r e.guards) (and_law _ _ (eqb_law v.location d.source) (λ h. h, λ h. h)) f (p, q)

  -- it leaves from it
  pub taken : eqb v.location d.source && guardsb r e.guards ≡ true → (v.location ≡ d.source) × (guardsb r e.guards ≡ true)
  taken = (and_law _ _ (eqb_law v.location d.source) (λ h. h, λ h. h)).0

  -- with the edge's moves
  module _ (ms : Moves) (M : MovesOf c e r ms) where
    pub tops : (z : ℕ) → z < n → (get_or ms.each z still).top ≡ 2 * at k.bounds z + 1
    tops z l =
        ap (λ m. m.top) (M.each z (omega (arith, clocks_count))) ∙ move_top c r z (get_or e.updates z idle)
        ∙ ap (λ (b : ℕ). 2 * b + 1) (at_take n k.bounds z l)

    pub low_tops : (z : ℕ) → z < n → (get_or ms.each z still).top < 65535
    low_tops z l = omega (arith, tops z l, few.low z)

    pub ranks_few : ms.ranks ≤ 4
    ranks_few = omega (arith, M.ranks, few_ranks c r row, clocks_count, few.few)

  -- what is sought there, whatever the proofs that its ranks are few and what its tops are
  module _ (ms : Moves) (M : MovesOf c e r ms) (low_ranks : ms.ranks ≤ 4) (tops_are : (z : ℕ) → z < n → (get_or ms.each z still).top ≡ 2 * at k.bounds z + 1) where
    abbrev s : Search
    s = record { clocks = k; moves = ms; few_ranks = low_ranks; tops = tops_are }

    placed_is : (x : Row) → IsRow c x → allowsb s x ≡ placedb c e r x
    placed_is x i =
        ap (λ (g : ℕ). placed_at ms.each g n x.intervals x.ranks) M.ranks
        ∙ ap (λ (m : ℕ). placed_at ms.each (greatest r.ranks) m x.intervals x.ranks) (sym clocks_count)
        ∙ placed_same c e r x B i.ranks_length ms.each M.each

    -- where some clock's move permits nothing, no row is allowed
    none_allowed : allb n (some_permitted ms.each) ≡ false → (x : Row) → IsRow c x → allowsb s x ≡ true → ⊥
    none_allowed h x i a = refutes (allb n (some_permitted ms.each)) (allb_law n (some_permitted ms.each) (λ z. (λ g. g, λ g. g))) h permit
      where
        permit : (z : ℕ) → z < n → some_permitted ms.each z ≡ true
        permit z l =
            let m = get_or ms.each z still in
            let j : ℕ = at x.intervals z in
            let top : j ≤ m.top = omega (arith, i.in_range z (omega (arith, clocks_count)), at_take n k.bounds z l, tops_are z l) in
            let p : permitsb m j ≡ true = placed_permits ms.each ms.ranks n x.intervals x.ranks a z l in
            let low : least (permitsb m) (m.top + 1 - 0) 0 ≤ j = (least_is (permitsb m) (m.top + 1 - 0) 0).first j (omega arith) (omega arith) p in
            (leb_law (least (permitsb m) (m.top + 1 - 0) 0) m.top).1 (omega arith)

    module _ (leaves : v.location ≡ d.source) (guarded : guardsb r e.guards ≡ true) where
      row_out : (x : Row) → Mem x (rows_at c e.target) → (x.location ≡ e.target) × IsRow c x
      row_out = rows_at_out c e.target

      led : (x : Row) → Mem x (rows_at c e.target) → allowsb s x ≡ leadsb c e r x
      led x m = by (allowsb s x) refl
        where
          by : (b : Bool) → allowsb s x ≡ b → b ≡ leadsb c e r x
          by true a = sym ((led_law c e r x).1 ((((leaves, (row_out x m).0), guarded), (row_out x m).1), sym (placed_is x (row_out x m).1) ∙ a))
          by false a = sym (fails (leadsb c e r x) (led_law c e r x) (λ l. never (sym a ∙ placed_is x (row_out x m).1 ∙ l.1)))

      pub way_is : rows_on (record { target = d.target; search = s }) ≡ edge_rows c e r
      unfolding rows_on edge_rows
      way_is = select_same (allowsb s) (leadsb c e r) (rows_at c e.target) led

      pub way_shut : allb n (some_permitted ms.each) ≡ false → [] ≡ edge_rows c e r
      unfolding edge_rows
      way_shut f = sym (select_none (leadsb c e r) (rows_at c e.target) (λ x m. sym (led x m) ∙ fails (allowsb s x) (λ h. h, λ h. h) (none_allowed f x (row_out x m).1)))
