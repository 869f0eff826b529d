use Prim.Native.Nat.{ℕ, suc, ◌<◌}
use Rattle.making_turns.proofs.Laws.Standing.{edges_are, old_rows, walked_stands, walked_comes}
use Rattle.making_turns.proofs.Laws.Turning.{went_left}
use Rattle.making_turns.specs.Work.{left}
use Rattle.next_steps.proofs.Laws.Following.{step_above}
use mathlib.Core.Path.{sym, ap, subst, ◌∙◌}
use native.Mathlib.Omega.{arith}
use Rattle.making_turns.proofs.turning.walk_turn.Goals as goal

pub walk_edges-q-requires : goal.walk_edges-q-requires
walk_edges-q-requires c =
    let (before, records, ws, S) = c.requires.by_index in
    let (j, e) = step_above c.args.s.last.step (λ z. omega (arith, z, S.edge_next c.requires.walking_value)) in
    let k = c.kept-list.ensures in
    let t = c.read_by.ensures in
    record {
      clocks = rw t.head k.clocks;
      by_index = rw (k.clocks, k.bytes, k.count, t.head, t.file) (old_rows S);
      step_bound = rw t.head S.step_in;
      by_index_2 = (j, e, rw (t.head, t.file) (S.stands j e));
      mem = rw (k.clocks, k.bytes, k.count) S.walked_from;
    }

pub add-requires : goal.add-requires
add-requires c =
    let W = rw (c.kept-list.ensures.clocks, c.kept-list.ensures.bytes, c.kept-list.ensures.count, c.read_by.ensures.file) at c.walk_edges-q.ensures.walks in
    let (before, records, ws, S) = c.requires.by_index in
    (c.args.table.now, before, records, ws, rw c.went-w.ensures (walked_stands S c.requires.walking_value c.walk_edges-q.result W c.walk_edges-q.ensures.entered (rw (c.read_by.ensures.head, c.read_by.ensures.file) at c.walk_edges-q.ensures.here)), rw c.went-w.ensures (walked_comes S c.requires.walking_value c.walk_edges-q.result W c.walk_edges-q.ensures.entered c.in-Some.row c.in-Some.is))

pub returns-in-Some : goal.returns-in-Some
returns-in-Some c =
    let W = rw (c.kept-list.ensures.clocks, c.kept-list.ensures.bytes, c.kept-list.ensures.count, c.read_by.ensures.file) at c.walk_edges-q.ensures.walks in
    record {
      loops = λ before records ws S. c.add.ensures.loops c.args.table.now before records ws (rw c.went-w.ensures (walked_stands S c.requires.walking_value c.walk_edges-q.result W c.walk_edges-q.ensures.entered (rw (c.read_by.ensures.head, c.read_by.ensures.file) at c.walk_edges-q.ensures.here))) (rw c.went-w.ensures (walked_comes S c.requires.walking_value c.walk_edges-q.result W c.walk_edges-q.ensures.entered c.in-Some.row c.in-Some.is));
      falls = subst (λ (t : ℕ). left c.add.result < t) (ap left c.went-w.ensures ∙ went_left c.args.s c.walk_edges-q.result) c.add.ensures.falls;
    }

pub walk_next-requires : goal.walk_next-requires
walk_next-requires c =
    let W = rw (c.kept-list.ensures.clocks, c.kept-list.ensures.bytes, c.kept-list.ensures.count, c.read_by.ensures.file) at c.walk_edges-q.ensures.walks in
    let (before, records, ws, S) = c.requires.by_index in
    record {
      walking_value = (rw c.went-w.ensures c.requires.walking_value, rw c.went-w.ensures (W.all c.in-None.is ∙ ap suc (sym (edges_are S))));
      by_index = (c.args.table.now, before, records, ws, rw c.went-w.ensures (walked_stands S c.requires.walking_value c.walk_edges-q.result W c.walk_edges-q.ensures.entered (rw (c.read_by.ensures.head, c.read_by.ensures.file) at c.walk_edges-q.ensures.here)));
    }

pub returns-in-None : goal.returns-in-None
returns-in-None c =
    let W = rw (c.kept-list.ensures.clocks, c.kept-list.ensures.bytes, c.kept-list.ensures.count, c.read_by.ensures.file) at c.walk_edges-q.ensures.walks in
    record {
      loops = λ before records ws S. c.walk_next.ensures.loops c.args.table.now before records ws (rw c.went-w.ensures (walked_stands S c.requires.walking_value c.walk_edges-q.result W c.walk_edges-q.ensures.entered (rw (c.read_by.ensures.head, c.read_by.ensures.file) at c.walk_edges-q.ensures.here)));
      falls = subst (λ (t : ℕ). left c.walk_next.result < t) (ap left c.went-w.ensures ∙ went_left c.args.s c.walk_edges-q.result) c.walk_next.ensures.falls;
    }
