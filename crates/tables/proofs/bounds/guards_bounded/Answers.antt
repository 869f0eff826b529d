use Rattle.regions.specs.Values.{guard_of}
use Rattle.regions.specs.declared.edge.Guard as guard_code
use Rattle.std.proofs.lemmas.Iterator.{YieldsList-from_slice, YieldsList-from_take}
use Rattle.std.proofs.lemmas.Iterator.Search.{all_from_yields_List}
use Rattle.std.specs.Slice.Iter.{iter_rest}
use Rattle.table_files.specs.Admission.{guard_bounded}
use Rattle.table_records.proofs.Laws.Loops.{every_map}
use Rattle.tables.proofs.Laws.Bounds.{all_every}
use borrow.Author.Rules.{rules}
use borrow.Author.Tests.{tests}
use lib.ListN.{take}
use mathlib.Core.Path.{◌≡◌, sym, ap, ◌∙◌}
use Rattle.tables.proofs.bounds.guards_bounded.Goals as goal

pub returns : goal.returns
returns c =
    let n = c.args.e.now.guard_count in
    let guards = c.args.e.now.guards in
    let test = λ (g : guard_code.Guard). guard_bounded c.args.bounds.now (guard_of g) in
    let e : iter_rest c.iter.result ≡ guards = c.iter.ensures.rest in
    all_from_yields_List test _ _ _ c.all.ensures.ran (YieldsList-from_take n (YieldsList-from_slice guards (ap iter_rest c.take.ensures.source ∙ e)) c.take.ensures.count) (λ x b q k. search (rules, tests))
    ∙ all_every test (take n guards)
    ∙ sym (every_map (guard_bounded c.args.bounds.now) guard_of (take n guards))
