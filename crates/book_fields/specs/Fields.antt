-- Refusal 4, for every section but terms: each field, and each list entry that a range reaches, is in range for its use.
use Rattle.std.specs.Prelude.{ℕ, ◌+◌, Bool, ◌&&◌, ◌||◌, eqb, leb, ltb}
use Rattle.basics.specs.Lists.{all_below}
use Rattle.book.specs.Book.{Book, Section, letters, names, types, constants, functions, axioms, patterns, terms, contexts, lists, size, field, letter, user_types, no_term}

module _ (b : Book) where
  unfoldable pub within : Section → ℕ → Bool
  within s n = ltb n (size b s)

  -- type numbers are below this
  unfoldable pub type_limit : ℕ
  type_limit = user_types + size b types

  -- entry j of the range that begins at `start`
  unfoldable pub entry_below : (limit start j : ℕ) → Bool
  entry_below limit start j = ltb (field b lists (start + j) 0) limit

  -- a range of lists ends within lists, even one of no entries, and each entry that it reaches is below the limit
  unfoldable pub is_range : (limit start count : ℕ) → Bool
  is_range limit start count = leb (start + count) (size b lists) && all_below count (entry_below limit start)

  unfoldable pub letter_in_range : ℕ → Bool
  letter_in_range i = leb 0x20 (letter b i) && leb (letter b i) 0x7E

  unfoldable pub name_in_range : ℕ → Bool
  name_in_range i = leb (field b names i 0 + field b names i 1) (size b letters)

  unfoldable pub type_in_range : ℕ → Bool
  type_in_range i = within names (field b types i 0)

  unfoldable pub constant_in_range : ℕ → Bool
  constant_in_range i = within names (field b constants i 0) && ltb (field b constants i 1) type_limit

  unfoldable pub function_in_range : ℕ → Bool
  function_in_range i =
      within names (field b functions i 0)
      && ltb (field b functions i 1) type_limit
      && is_range type_limit (field b functions i 2) (field b functions i 3)
      && is_range (size b axioms) (field b functions i 4) (field b functions i 5)

  unfoldable pub axiom_in_range : ℕ → Bool
  axiom_in_range i =
      (eqb (field b axioms i 0) no_term || within terms (field b axioms i 0))
      && is_range (size b functions) (field b axioms i 1) (field b axioms i 2)

  unfoldable pub pattern_in_range : ℕ → Bool
  pattern_in_range i = is_range (size b terms) (field b patterns i 0) (field b patterns i 1)

  -- record i is node i + 1, and its parent is a smaller node; the trace is a name's number + 1, or 0
  unfoldable pub context_in_range : ℕ → Bool
  context_in_range i =
      leb (field b contexts i 0) i && within terms (field b contexts i 1) && leb (field b contexts i 2) (size b names)

  unfoldable pub fields_in_range : Bool
  fields_in_range =
      all_below (size b letters) letter_in_range
      && all_below (size b names) name_in_range
      && all_below (size b types) type_in_range
      && all_below (size b constants) constant_in_range
      && all_below (size b functions) function_in_range
      && all_below (size b axioms) axiom_in_range
      && all_below (size b patterns) pattern_in_range
      && all_below (size b contexts) context_in_range
