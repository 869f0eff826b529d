-- If no run ends in a final location, the rows that runs meet are a closed list; so exactly one holds. Assumes nothing.
use Prim.Native.Nat.{ℕ, ◌+◌, ◌*◌, ◌<◌}
use native.Mathlib.Omega.{arith}
use mathlib.Core.Path.{◌≡◌, refl, sym, ◌∙◌}
use mathlib.Core.Bool.{true, false}
use mathlib.Core.Logic.{◌⊎◌, inl, inr}
use mathlib.Core.List.{List, [], ◌∷◌, ◌++◌, map}
use lib.ListN.{length}
use Rattle.automata.specs.Clocks.{greatest}
use Rattle.automata.specs.Row.{Row, Below}
use Rattle.automata.specs.Point.{later, scaled}
use Rattle.automata.specs.Automaton.{Table, edge, final, Admitted}
use Rattle.automata.specs.Run.{Move, first, after, Step, begin, move, scaled_state, scaled_move, Reached}
use Rattle.automata.specs.Closed.{Mem, first_row, RowOf, Closed, ExactlyOne}
use Rattle.automata.specs.Rows.{from, select, gather, rows_at}
use Rattle.automata.specs.Next.{TimeSuccessor, EdgeSuccessor, Next, next_rows}
use Rattle.automata.specs.Checks.{has}
use Rattle.automata.specs.Meeting.{Met, origin, further, Successive}
use Rattle.automata.proofs.Laws.Tests.{true_or_false, either}
use Rattle.automata.proofs.Laws.Lists.{later_zero, later_later, scaled_later}
use Rattle.automata.proofs.Laws.Waiting.{wait_location}
use Rattle.automata.proofs.Laws.Time.{progress}
use Rattle.automata.proofs.Laws.Members.{gather_in, select_in, select_out, from_in, Sorted, sorted_from, sorted_select, sorted_gather, sorted_ascends}
use Rattle.automata.proofs.Laws.Rows.{rows_at_in, rows_at_out, rows_at_sorted}
use Rattle.automata.proofs.Laws.Leads.{from_any_point}
use Rattle.automata.proofs.Laws.Next.{wait_keeps, edge_keeps, next_rows_law}
use Rattle.automata.proofs.Laws.Checks.{has_law}
use Rattle.automata.proofs.Laws.Finer.{run_scaled}
use Rattle.automata.proofs.Laws.Start.{zero_is_row, zero_contains}
use Rattle.automata.proofs.Laws.Sound.{sound}
use Rattle.automata.proofs.Laws.Closure.{some_or_all, Closure, closure}

-- all rows of a table, ascending ----------------------------------------------------------------------------------------------------------

universe : Table → List Row
universe T = gather (rows_at T.bounds) (from 0 T.locations)

universe_in : (T : Table) (r : Row) → RowOf T r → Mem r (universe T)
unfolding universe
universe_in T r i = gather_in (rows_at T.bounds) (from_in 0 T.locations r.location (omega arith) (omega (arith, i.location_in))) (rows_at_in T.bounds r.location r refl i.is_row)

universe_sorted : (T : Table) → Sorted Below (universe T)
unfolding universe
universe_sorted T =
    sorted_gather ◌<◌ Below (rows_at T.bounds) (rows_at_sorted T.bounds)
    (λ l l' h r s m k. inl (rw ((rows_at_out T.bounds l r m).0, (rows_at_out T.bounds l' s k).0) h)) (from 0 T.locations) (sorted_from 0 T.locations)

module _ (T : Table) (admitted : Admitted T) where
  met_first : Met T (first_row T)
  met_first = record {
    row_of = record { location_in = admitted.initial_in; is_row = zero_is_row T.bounds T.initial };
    D = 1;
    moves = [];
    state = first T;
    run = begin (omega arith);
    located = refl;
    delay = 0;
    holds = rw later_zero (zero_contains T.bounds T.initial 1 (omega arith));
  }

  met_wait : (r r' : Row) → Met T r → TimeSuccessor T r r' → Met T r'
  met_wait r r' g e =
      let k : ℕ = 2 in
      let p : 0 < k = omega arith in
      let (t, h) = progress T.bounds g.D (later g.delay g.state.values) r r' g.row_of.is_row g.holds e.waits in
      record {
        row_of = wait_keeps T r r' g.row_of e;
        D = k * g.D;
        moves = map (scaled_move k) g.moves;
        state = scaled_state k g.state;
        run = run_scaled k p g.run;
        located = wait_location T.bounds r r' g.row_of.is_row e.waits ∙ g.located;
        delay = k * g.delay + t;
        holds = rw (scaled_later k g.delay g.state.values, later_later t (k * g.delay) (scaled k g.state.values)) at h;
      }

  met_edge : (r r' : Row) (n : ℕ) → n < length T.edges → Met T r → EdgeSuccessor T n r r' → Met T r'
  met_edge r r' n b g d =
      let k : ℕ = greatest r'.ranks + 2 in
      let p : 0 < k = omega arith in
      let (v, h, gu, al) = from_any_point T.bounds (edge T n) r r' g.row_of.is_row (admitted.bounded n b) d.leads g.D (later g.delay g.state.values) g.holds k (omega arith) (omega arith) in
      let m : Move = record { number = n; delay = k * g.delay; values = v } in
      let st : Step T (k * g.D) (scaled_state k g.state) m = record {
        number_in = b;
        leaves = sym g.located ∙ d.leads.leaves;
        sized = h.sized;
        guarded = rw (scaled_later k g.delay g.state.values) at gu;
        allowed = rw (scaled_later k g.delay g.state.values) at al;
      } in
      record {
        row_of = edge_keeps T admitted r r' n b d;
        D = k * g.D;
        moves = map (scaled_move k) g.moves ++ (m ∷ []);
        state = after T m;
        run = move m (run_scaled k p g.run) st;
        located = d.leads.enters;
        delay = 0;
        holds = rw later_zero h;
      }

  pub reach_met : (r : Row) → Successive T r → Met T r
  reach_met r origin = met_first
  reach_met r (further {a = q} h m) = let g = reach_met q h in go g ((next_rows_law T admitted q r g.row_of).0 m)
    where
      go : Met T q → Next T q r → Met T r
      go g (inl e) = met_wait q r g e
      go g (inr (n, b, l)) = met_edge q r n b g l

  -- the closure of the initial row, as a list ---------------------------------------------------------------------------------------------

  abbrev RowsMet : Type 0
  RowsMet = Closure (next_rows T) (first_row T)

  all_met : RowsMet
  all_met = closure (λ r rows. either (has rows r) (has_law rows r)) (universe T) (next_rows T) (first_row T) (λ r h. universe_in T r (reach_met r h).row_of)

  closed_rows : (g : RowsMet) → ((r : Row) → Mem r g.found → final T r.location ≡ false) → (rows : List Row) × Closed T rows
  closed_rows g no_final = (
    rows,
    record {
      ascends = sorted_ascends rows (sorted_select Below (has g.found) (universe T) (universe_sorted T));
      are_rows = λ r m. row_of r (out r m);
      starts = into (first_row T) g.starts;
      not_final = λ r m. no_final r (out r m);
      waits = λ r r' m e. follow r r' m (inl e);
      leads = λ r r' i m h l. follow r r' m (inr (i, h, l));
    },
  )
    where
      rows : List Row
      rows = select (has g.found) (universe T)

      row_of : (r : Row) → Mem r g.found → RowOf T r
      row_of r m = (reach_met r (g.reached r m)).row_of

      out : (r : Row) → Mem r rows → Mem r g.found
      out r m = (has_law g.found r).0 (select_out (has g.found) (universe T) m).1

      into : (r : Row) → Mem r g.found → Mem r rows
      into r m = select_in (has g.found) (universe_in T r (row_of r m)) ((has_law g.found r).1 m)

      follow : (r r' : Row) → Mem r rows → Next T r r' → Mem r' rows
      follow r r' m n = into r' (g.closed r r' (out r m) ((next_rows_law T admitted r r' (row_of r (out r m))).1 n))

  pub reached_by : (r : Row) → Met T r → final T r.location ≡ true → Reached T
  reached_by r g f = record {
    D = g.D;
    positive = g.holds.positive;
    moves = g.moves;
    state = g.state;
    run = g.run;
    ends = rw (← g.located) f;
  }

  pub complete : Reached T ⊎ ((rows : List Row) × Closed T rows)
  complete = go all_met (some_or_all (λ (r : Row). true_or_false (final T r.location)) all_met.found)
    where
      go : (g : RowsMet) → ((r : Row) × Mem r g.found × (final T r.location ≡ true)) ⊎ ((r : Row) → Mem r g.found → final T r.location ≡ false)
          → Reached T ⊎ ((rows : List Row) × Closed T rows)
      go g (inl h) = inl (reached_by h.0 (reach_met h.0 (g.reached h.0 h.1)) h.2)
      go g (inr no_final) = inr (closed_rows g no_final)

-- EXACTLY ONE
pub exactly_one : (T : Table) → Admitted T → ExactlyOne (Reached T) ((rows : List Row) × Closed T rows)
exactly_one T admitted = record { one = complete T admitted; not_both = λ g h. sound T h.0 h.1 g }
