-- A set of constants, by their numbers: a bit for each.
use Rattle.std.specs.Prelude.{ℕ, ◌/◌, ◌<◌, ◌≡◌, Bool, ◌||◌, List, map, eqb, length}
use Rattle.basics.specs.Lists.{member}
use Rattle.basics.specs.Bits.{has_number}
use Rattle.book.specs.Book.{Book, constants, entries}
use Rattle.book.specs.Decode.{constant_of}
use Rattle.rsolver.specs.REngine.{with_constants}

-- the set's bytes, of eight bits each
abbrev pub set_size : ℕ
set_size = constants.most / 8

unfoldable pub is_excluded : List ℕ → ℕ → Bool
is_excluded set v = has_number set v

-- the set holds the constants of the list
pub record Excludes (set exclude : List ℕ) : Type 0 where
  pub long : length set ≡ set_size
  pub same : (v : ℕ) → v < constants.most → is_excluded set v ≡ member v exclude

-- the set with one more
pub record Joined (set set' : List ℕ) (v : ℕ) : Type 0 where
  pub long : length set' ≡ set_size
  pub joins : (w : ℕ) → w < constants.most → is_excluded set' w ≡ (eqb w v || is_excluded set w)

-- exclude with the constants in a range of lists
unfoldable pub with_range : Book → (start count : ℕ) → List ℕ → List ℕ
with_range b start count exclude = with_constants (map (constant_of b) (entries b start count)) exclude

-- whatever list the set holds, set' holds those of the range besides
pub record Ranged (b : Book) (start count : ℕ) (set set' : List ℕ) : Type 0 where
  pub ranges : (exclude : List ℕ) → Excludes set exclude → Excludes set' (with_range b start count exclude)
