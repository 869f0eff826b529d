-- A closed list of rows keeps every run out of the final locations. Assumes nothing.
use Prim.Native.Nat.{ℕ, ◌<◌}
use mathlib.Core.Path.{◌≡◌, refl, sym, ap, ◌∙◌}
use mathlib.Core.List.{List}
use Rattle.automata.specs.Row.{Row}
use Rattle.automata.specs.Point.{Contains, later}
use Rattle.automata.specs.Wait.{Waits, stop, on}
use Rattle.automata.specs.Edge.{Leads}
use Rattle.automata.specs.Automaton.{Table, edge, final}
use Rattle.automata.specs.Run.{State, Move, after, Step, Run, begin, move, Reached}
use Rattle.automata.specs.Closed.{Mem, first_row, Closed}
use Rattle.automata.proofs.Laws.Tests.{never}
use Rattle.automata.proofs.Laws.Waiting.{waits_location}
use Rattle.automata.proofs.Laws.Time.{coverage}
use Rattle.automata.specs.Meeting.{Met}
use Rattle.automata.proofs.Laws.Exists.{existence}
use Rattle.automata.proofs.Laws.Unique.{row_unique}
use Rattle.automata.proofs.Laws.Start.{zero_contains}

module _ (T : Table) (rows : List Row) (closed : Closed T rows) where
  waits_in : {r r' : Row} → Waits T.bounds r r' → Mem r rows → Mem r' rows
  waits_in stop m = m
  waits_in (on {r = r} {s = s} e w) m = waits_in w (closed.waits r s m (record { waits = e }))

  -- a row of the list holds the state
  pub record Held (D : ℕ) (s : State) : Type 0 where
    pub row : Row
    pub listed : Mem row rows
    pub located : row.location ≡ s.location
    pub holds : Contains T.bounds D s.values row

  held_step : (D : ℕ) → 0 < D → (s : State) (m : Move) → Held D s → Step T D s m → Held D (after T m)
  held_step D p s m h st =
      let c = T.bounds in
      let e = edge T m.number in
      let i = (closed.are_rows h.row h.listed).is_row in
      let (r, w, k) = coverage c D m.delay s.values h.row i h.holds in
      let (r', l, i', k') = existence c D m.values e.target p st.sized in
      let d : Leads c e r r' = record {
        D = D;
        before = later m.delay s.values;
        after = m.values;
        from = k;
        to = k';
        is_row = i';
        leaves = waits_location c i w ∙ h.located ∙ st.leaves;
        enters = l;
        guarded = st.guarded;
        allowed = st.allowed;
      } in
      record { row = r'; listed = closed.leads r r' m.number (waits_in w h.listed) st.number_in (record { leads = d }); located = l; holds = k' }

  held : (D : ℕ) → 0 < D → {ms : List Move} {s : State} → Run T D ms s → Held D s
  held D p (begin d) = record { row = first_row T; listed = closed.starts; located = refl; holds = zero_contains T.bounds T.initial D p }
  held D p (move {s = s} m run st) = held_step D p s m (held D p run) st

  -- every row that a run, with a wait after its last step, comes to is listed
  pub met_listed : (r : Row) → Met T r → Mem r rows
  met_listed r g =
      let c = T.bounds in
      let h = held g.D g.holds.positive g.run in
      let i = (closed.are_rows h.row h.listed).is_row in
      let (s, w, k) = coverage c g.D g.delay g.state.values h.row i h.holds in
      let m = waits_in w h.listed in
      let e : s ≡ r = row_unique c g.D (later g.delay g.state.values) s r (waits_location c i w ∙ h.located ∙ sym g.located)
      (closed.are_rows s m).is_row g.row_of.is_row k g.holds in
      rw e at m

  pub sound : Reached T → ⊥
  sound g =
      let h = held g.D g.positive g.run in
      never (sym (closed.not_final h.row h.listed) ∙ ap (final T) h.located ∙ g.ends)
