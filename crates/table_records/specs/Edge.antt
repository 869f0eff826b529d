-- What the bytes of an edge record say, part by part. Assumes nothing.
use Rattle.std.specs.Prelude.{ℕ, ◌+◌, ◌*◌, ◌≤◌, Bool, ◌&&◌, List, map, length, leb, ltb}
use Rattle.automata.specs.Clocks.{at}
use Rattle.automata.specs.Edge.{Guard, Edge}
use Rattle.automata.specs.Rows.{from}
use Rattle.table_files.specs.Records.{part_at}
use Rattle.table_files.specs.TableFile.{guard, Fields, fields, update}

-- the fields before the guards are in range: source, target, guard count
unfoldable pub ends_in_range : ℕ → List ℕ → Bool
ends_in_range L b = ltb (at b 2) L && ltb (at b 3) L && leb (at b 4) 8

-- how many bytes so many guards and updates have
abbrev pub size_of : ℕ → ℕ → ℕ
size_of count n = 3 * count + 5 * n

-- so many guards, from the first byte on
abbrev pub guards_from : List ℕ → ℕ → List Guard
guards_from d count = map (λ (i : ℕ). guard d (3 * i)) (from 0 count)

-- the fields of so many updates, from byte p on
abbrev pub fields_from : List ℕ → ℕ → ℕ → List Fields
fields_from d p n = map (λ (z : ℕ). fields d (p + 5 * z)) (from 0 n)

-- the edge of n clocks: b are the bytes before its guards, d those of its guards and updates
abbrev pub edge_from : ℕ → List ℕ → List ℕ → Edge
edge_from n b d = record { source = at b 2; target = at b 3; guards = guards_from d (at b 4); updates = map update (fields_from d (3 * at b 4) n) }

-- the edge whose record stands at p, and where the record after it begins
unfoldable pub edge_at : ℕ → List ℕ → ℕ → Edge
edge_at n file p = let b : List ℕ = part_at file p 5 in edge_from n b (part_at file (p + 5) (size_of (at b 4) n))

unfoldable pub after_edge : ℕ → List ℕ → ℕ → ℕ
after_edge n file p = p + 5 + size_of (at (part_at file p 5) 4) n

-- the record that stands at p is whole, and has few guards
pub record Stands (n : ℕ) (file : List ℕ) (p : ℕ) : Type 0 where
  pub whole : after_edge n file p ≤ length file
  pub few_guards : at (part_at file p 5) 4 ≤ 8
