use Prim.Native.Nat.{ℕ, suc, ◌<◌}
use Rattle.making_turns.proofs.Laws.Standing.{edges_are, taken_row, followed_stands, followed_comes}
use Rattle.making_turns.proofs.Laws.Turning.{went_left}
use Rattle.making_turns.specs.Work.{left}
use mathlib.Core.Path.{sym, ap, subst, ◌∙◌}
use Rattle.making_turns.proofs.turning.follow_turn.Goals as goal

pub follow_row-q-requires : goal.follow_row-q-requires
follow_row-q-requires c =
    let (before, records, ws, S, e) = c.requires.by_index in
    let k = c.kept-list.ensures in
    let t = c.read_by.ensures in
    record {
      clocks = rw t.head k.clocks;
      row = rw k.clocks (taken_row S c.requires.walking_value c.args.r e);
      step_bound = rw t.head S.step_in;
      by_index = rw (t.head, t.file) S.stands;
    }

pub add-requires : goal.add-requires
add-requires c =
    let F = rw (c.kept-list.ensures.clocks, c.kept-list.ensures.bytes, c.kept-list.ensures.count, c.read_by.ensures.file) at c.follow_row-q.ensures.follows in
    let (before, records, ws, S, e) = c.requires.by_index in
    (c.args.table.now, before, records, ws, rw c.went-w.ensures (followed_stands S c.requires.walking_value c.args.r e c.follow_row-q.result F (rw (c.read_by.ensures.head, c.read_by.ensures.file) at c.follow_row-q.ensures.here)), rw c.went-w.ensures (followed_comes S c.requires.walking_value c.args.r e c.follow_row-q.result F c.in-Some.row c.in-Some.is))

pub returns-in-Some : goal.returns-in-Some
returns-in-Some c =
    let F = rw (c.kept-list.ensures.clocks, c.kept-list.ensures.bytes, c.kept-list.ensures.count, c.read_by.ensures.file) at c.follow_row-q.ensures.follows in
    record {
      loops = λ before records ws S e. c.add.ensures.loops c.args.table.now before records ws (rw c.went-w.ensures (followed_stands S c.requires.walking_value c.args.r e c.follow_row-q.result F (rw (c.read_by.ensures.head, c.read_by.ensures.file) at c.follow_row-q.ensures.here))) (rw c.went-w.ensures (followed_comes S c.requires.walking_value c.args.r e c.follow_row-q.result F c.in-Some.row c.in-Some.is));
      falls = subst (λ (t : ℕ). left c.add.result < t) (ap left c.went-w.ensures ∙ went_left c.args.s c.follow_row-q.result) c.add.ensures.falls;
    }

pub follow_next-requires : goal.follow_next-requires
follow_next-requires c =
    let F = rw (c.kept-list.ensures.clocks, c.kept-list.ensures.bytes, c.kept-list.ensures.count, c.read_by.ensures.file) at c.follow_row-q.ensures.follows in
    let (before, records, ws, S, e) = c.requires.by_index in
    record {
      walking_value = (rw c.went-w.ensures c.requires.walking_value, rw c.went-w.ensures (F.all c.in-None.is ∙ ap suc (sym (edges_are S))));
      by_index = (c.args.table.now, before, records, c.args.out.now, ws, rw c.went-w.ensures (followed_stands S c.requires.walking_value c.args.r e c.follow_row-q.result F (rw (c.read_by.ensures.head, c.read_by.ensures.file) at c.follow_row-q.ensures.here)));
    }

pub returns-in-None : goal.returns-in-None
returns-in-None c =
    let F = rw (c.kept-list.ensures.clocks, c.kept-list.ensures.bytes, c.kept-list.ensures.count, c.read_by.ensures.file) at c.follow_row-q.ensures.follows in
    record {
      loops = λ before records ws S e. c.follow_next.ensures.loops c.args.table.now before records c.args.out.now ws (rw c.went-w.ensures (followed_stands S c.requires.walking_value c.args.r e c.follow_row-q.result F (rw (c.read_by.ensures.head, c.read_by.ensures.file) at c.follow_row-q.ensures.here)));
      falls = subst (λ (t : ℕ). left c.follow_next.result < t) (ap left c.went-w.ensures ∙ went_left c.args.s c.follow_row-q.result) c.follow_next.ensures.falls;
    }
