-- One number for the answer of following. Assumes nothing.
use Rattle.std.specs.Prelude.{ℕ, ◌+◌, ◌*◌}
use Rattle.table_files.specs.Answer.{Answer, accepted, refused}

-- the count; or 2^63 plus the refusal's number times 65,536 plus its place
abbrev pub number_of : Answer → ℕ
number_of (accepted count) = count
number_of (refused number place) = 9223372036854775808 + number * 65536 + place
