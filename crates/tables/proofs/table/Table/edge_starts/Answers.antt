use Rattle.tables.proofs.Laws.Tables.{describes_of}
use Rattle.tables.proofs.Laws.Starts.{none_passed, few_edges, next_stands, fits_two_bytes, one_passed, all_passed}
use native.Mathlib.Omega.{arith}
use borrow.Author.Rules.{rules}
use Rattle.tables.proofs.table.Table.edge_starts.Goals as goal

pub loop-k-init : goal.loop-k-init
loop-k-init c =
    none_passed c.args.self.now.file.now c.args.self.now.head (describes_of c.args.self.now) _ c.first_edge-here.ensures

pub overflow_cast-starts : goal.overflow_cast-starts
overflow_cast-starts c =
    let e = fits_two_bytes c.args.self.now.file.now c.args.self.now.head (describes_of c.args.self.now) c.loop-k.starts c.loop-k.here c.loop-k.k c.loop-k.invariant c.loop-k-test.true in search rules

pub after_edge-here-requires : goal.after_edge-here-requires
after_edge-here-requires c =
    next_stands c.args.self.now.file.now c.args.self.now.head (describes_of c.args.self.now) c.loop-k.starts c.loop-k.here c.loop-k.k c.loop-k.invariant c.loop-k-test.true

pub loop-k-preserved : goal.loop-k-preserved
loop-k-preserved c =
    one_passed c.args.self.now.file.now c.args.self.now.head (describes_of c.args.self.now) c.loop-k.starts c.loop-k.here c.loop-k.k c.loop-k.invariant c.loop-k-test.true c.after_edge-here.ensures

pub returns : goal.returns
returns c =
    all_passed c.args.self.now.file.now c.args.self.now.head (describes_of c.args.self.now) _ _ _ c.loop-k.invariant c.loop-k-test.false

pub bounds-starts-k : goal.bounds-starts-k
bounds-starts-k c =
    omega (arith, few_edges c.args.self.now.file.now c.args.self.now.head (describes_of c.args.self.now))
