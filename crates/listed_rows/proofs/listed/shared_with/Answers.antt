use Rattle.listed_rows.proofs.Laws.Firsts.{firsts_from_find}
use Rattle.listed_rows.proofs.Laws.ListedNumbers.{shared_firsts}
use borrow.Author.Rules.{rules}
use borrow.Author.Tests.{tests}
use mathlib.Core.Path.{◌∙◌}
use Rattle.listed_rows.proofs.listed.shared_with.Goals as goal

pub returns : goal.returns
returns c =
    c.unwrap_or.ensures
    ∙ shared_firsts c.args.n c.args.list.now c.args.i c.args.wanted (search rules) (search rules, search rules) c.row_bytes-bytes.result.now c.row_bytes-bytes.ensures.bytes _
    (firsts_from_find _ _ _ c.find.result _ _ (search rules) c.find.ensures.ran (λ x q k. search (rules, tests)) (λ x q k. search (rules, tests)))
