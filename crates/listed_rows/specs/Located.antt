-- Where the rows of a location stand in a list. Assumes nothing.
use Rattle.std.specs.Prelude.{ℕ, ◌≤◌, ◌<◌, ◌≡◌, List}
use Rattle.listed_rows.specs.Listed.{listed_row}

-- the first m of so many rows are in locations below l, and no other is
pub record Starts (n : ℕ) (list : List ℕ) (count l m : ℕ) : Type 0 where
  pub within : m ≤ count
  pub before : (i : ℕ) → i < m → (listed_row n list i).location < l
  pub others : (i : ℕ) → m ≤ i → i < count → l ≤ (listed_row n list i).location

-- of so many rows those from start to before m are in location l, and the next is not
pub record Together (n : ℕ) (list : List ℕ) (count start l m : ℕ) : Type 0 where
  pub from : start ≤ m
  pub within : m ≤ count
  pub all : (i : ℕ) → start ≤ i → i < m → (listed_row n list i).location ≡ l
  pub next : m < count → (listed_row n list m).location ≡ l → ⊥

-- the rows from start to before end are those of location l
pub record RowsIn (n : ℕ) (list : List ℕ) (count l start end : ℕ) : Type 0 where
  pub starts : Starts n list count l start
  pub together : Together n list count start l end

-- the rows from start to before end are in location l
pub record Stretch (n : ℕ) (list : List ℕ) (count l start end : ℕ) : Type 0 where
  pub from : start ≤ end
  pub within : end ≤ count
  pub all : (i : ℕ) → start ≤ i → i < end → (listed_row n list i).location ≡ l
