use Rattle.automata.proofs.Laws.Chains.{every_from_all}
use Rattle.std.specs.Slice.Iter.{iter_rest}
use Rattle.automata.specs.Checks.{every}
use Rattle.table_records.specs.Header.{low}
use borrow.Author.Rules.{rules}
use borrow.Author.Tests.{tests}
use mathlib.Core.Path.{◌≡◌, ap, ◌∙◌}
use Rattle.table_records.proofs.header.bounds_pass.Goals as goal

pub returns : goal.returns
returns c =
    let e : iter_rest c.iter.result ≡ c.args.bytes.now = cc in
    every_from_all low _ _ _ c.all.ensures.ran (λ x b q k. search (rules, tests)) ∙ ap (every low) e
