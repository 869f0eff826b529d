use Rattle.making_turns.proofs.Laws.Beginning.{begins_cleared}
use borrow.Author.Rules.{rules}
use Rattle.making_turns.proofs.turning.begin.Goals as goal

pub returns-then-is_err : goal.returns-then-is_err
returns-then-is_err c =
    λ ws sized. begins_cleared c.args.table.now _ _ _ _ ws _ (search rules) (c.begin_rows-begun.ensures ws sized) c.clear.ensures
