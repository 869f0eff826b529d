-- The edge whose record stands at a position, from its bytes. Assumes nothing.
use Prim.Native.Nat.{ℕ, ◌+◌, ◌*◌, ◌≤◌}
use native.Mathlib.Omega.{arith}
use mathlib.Core.Path.{◌≡◌, ap, ◌∙◌}
use mathlib.Core.List.{List, map}
use lib.ListN.{length, take}
use Rattle.automata.specs.Clocks.{at}
use Rattle.regions.specs.Values.{guard_of, update_of, edge_of}
use Rattle.regions.specs.declared.edge.Guard as guard_code
use Rattle.regions.specs.declared.edge.Update as update_code
use Rattle.table_files.specs.Records.{part_at}
use Rattle.table_files.specs.TableFile.{update}
use Rattle.table_records.specs.Edge.{size_of, guards_from, fields_from, edge_at, after_edge, Stands}
use Rattle.table_records.proofs.Laws.Parts.{part_there}

module _ {n : ℕ} {file : List ℕ} {p : ℕ} (stands : Stands n file p) where
  fits : p + 5 + size_of (at (part_at file p 5) 4) n ≤ length file
  unfolding after_edge
  fits = stands.whole

  pub first_fits : p + 5 ≤ length file
  first_fits = let h = fits in omega arith

  -- the first five bytes
  module _ {b : List ℕ} (is : b ≡ part_at file p 5) where
    pub first_sized : length b ≡ 5
    first_sized = ap length is ∙ (part_there file p 5 first_fits).1

    pub few_guards : at b 4 ≤ 8
    few_guards = rw is stands.few_guards

    -- the others
    module _ {size : ℕ} (sized : size ≡ size_of (at b 4) n) where
      pub rest_fits : p + 5 + size ≤ length file
      rest_fits = rw (sized, is) fits

      pub after_is : p + 5 + size ≡ after_edge n file p
      unfolding after_edge
      after_is = rw (sized, is)

      module _ {d : List ℕ} (rest : d ≡ part_at file (p + 5) size) where
        pub rest_sized : length d ≡ size_of (at b 4) n
        rest_sized = ap length rest ∙ (part_there file (p + 5) size rest_fits).1 ∙ sized

        module _ (gs : List guard_code.Guard) (us : List update_code.Update) (guards : map guard_of (take (at b 4) gs) ≡ guards_from d (at b 4))
            (updates : map update_of (take n us) ≡ map update (fields_from d (3 * at b 4) n)) where
          pub edge_is : edge_of n (record { source = at b 2; target = at b 3; guard_count = at b 4; guards = gs; updates = us }) ≡ edge_at n file p
          unfolding edge_at
          edge_is = (λ i. record { source = at b 2; target = at b 3; guards = guards i; updates = updates i }) ∙ rw (rest, sized, is)
