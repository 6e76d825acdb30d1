-- What the code appends, and the counts of a grown book as it writes them.
use Rattle.std.specs.Prelude.{ℕ, ◌+◌, List, [], ◌∷◌, ◌++◌, get_or}
use Rattle.book.specs.Book.{Book, Section, letters, names, types, constants, functions, axioms, patterns, terms, contexts, lists, size}
use Rattle.book_layout.specs.Layout.{count_of}
use Rattle.book_growth.specs.Growth.{Addition, addition, added}
use Rattle.book_growth.specs.declared.Additions.{Additions}

-- new letters and new list entries come in two parts
abbrev pub addition_by : Additions → Addition
addition_by m = addition (m.letters.now ++ m.text.now) m.names.now m.constants.now m.terms.now m.contexts.now (m.first.now ++ m.second.now)

-- what is appended to a section, in two parts
unfoldable pub part : Additions → ℕ → List ℕ
part m n = get_or (m.letters.now ∷ m.names.now ∷ [] ∷ m.constants.now ∷ [] ∷ [] ∷ [] ∷ m.terms.now ∷ m.contexts.now ∷ m.first.now ∷ []) n []

unfoldable pub rest : Additions → ℕ → List ℕ
rest m n = get_or (m.text.now ∷ [] ∷ [] ∷ [] ∷ [] ∷ [] ∷ [] ∷ [] ∷ [] ∷ m.second.now ∷ []) n []

unfoldable pub grown_count : Book → Addition → Section → ℕ
grown_count b a s = size b s + count_of (added a) s

-- the counts of a grown book
unfoldable pub grown_counts : Book → Addition → List ℕ
grown_counts b a =
    grown_count b a letters
    ∷ grown_count b a names
    ∷ grown_count b a types
    ∷ grown_count b a constants
    ∷ grown_count b a functions
    ∷ grown_count b a axioms
    ∷ grown_count b a patterns
    ∷ grown_count b a terms
    ∷ grown_count b a contexts
    ∷ grown_count b a lists
    ∷ []
