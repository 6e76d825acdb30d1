-- What refusal 4 gives to refusal 5: the ranges that are followed end within lists, and what a quantifier lists are patterns.
use Rattle.std.specs.Prelude.{ℕ, ◌+◌, ◌<◌, ◌≤◌, ◌≡◌}
use Rattle.book.specs.Book.{Book, patterns, terms, lists, size, field}

pub record ListsPatterns (b : Book) (start count : ℕ) : Type 0 where
  pub ends : start + count ≤ size b lists
  pub known : (j : ℕ) → j < count → field b lists (start + j) 0 < size b patterns

-- by the kind of term t: built-in application, application, quantifier; and for pattern p
pub record Followed (b : Book) : Type 0 where
  pub built_in : (t : ℕ) → t < size b terms → field b terms t 0 ≡ 4 → field b terms t 2 + field b terms t 3 ≤ size b lists
  pub application : (t : ℕ) → t < size b terms → field b terms t 0 ≡ 5 → field b terms t 2 + field b terms t 3 ≤ size b lists
  pub quantifier : (t : ℕ) → t < size b terms → field b terms t 0 ≡ 8 → ListsPatterns b (field b terms t 4) (field b terms t 5)
  pub pattern : (p : ℕ) → p < size b patterns → field b patterns p 0 + field b patterns p 1 ≤ size b lists
