use borrow.Author.Tests.{lt-ltb, le-ltb}
use mathlib.Core.Path.{refl}
use Rattle.rows.proofs.row.byte_of.Goals as goal

pub returns-then-z-n : goal.returns-then-z-n
returns-then-z-n c =
    rw (lt-ltb _ _ c.if-z-n.true) refl

pub returns-else-z-n : goal.returns-else-z-n
returns-else-z-n c =
    rw (le-ltb _ _ c.if-z-n.false) refl
