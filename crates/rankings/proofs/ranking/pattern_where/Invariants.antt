use Rattle.std.proofs.Common.{ℕ, Bool, ◌≡◌, ◌<◌}
use Rattle.rankings.specs.Ranking.{weight, pattern}
use Rattle.rankings.proofs.ranking.pattern_where.Given as goal

abbrev pub invariant-loop-z : goal.invariant-loop-z
invariant-loop-z g l =
    (l.sum < weight l.z) × ((test : ℕ → Bool) → ((z : ℕ) (b : Bool) → z < l.n → goal.F-post g l.passes z b → b ≡ test z) → l.sum ≡ pattern test l.z)
