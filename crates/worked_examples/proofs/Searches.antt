-- The search for a literal by its name's text, from book bytes.
use Prim.Native.Nat.{ℕ}
use mathlib.Core.Path.{◌≡◌, refl}
use mathlib.Core.Option.{some}
use mathlib.Core.Option as option
use mathlib.Core.List.{List, [], ◌∷◌, map}
use lib.ListN.{drop}
use Rattle.basics.specs.Text.{ascii}
use Rattle.book.specs.Book.{Book}
use Rattle.book.specs.Program.{path}
use Rattle.book.specs.Decode.{literal_of, program}
use Rattle.solver_expr.specs.Lowering.{literal_name}
use Rattle.rsolver.specs.LevelState.{literal_places}
use Rattle.solvers.specs.Rule.{standing}
use Rattle.literals.specs.Search.{Searched, searched, search}
use Rattle.worked_examples.proofs.Everything.{everything}
use Rattle.worked_examples.proofs.Books.{books, written}

-- Six literals and, at 1, a term that is none. Terms 0 and 6 have one name; so have 2 and 4, whose colons stand elsewhere. Node 1 is the
-- conjunction of all.
search_book : Book
search_book =
    written (record {
      letters = ascii "a:b:c%tag&&";
      names = 0 ∷ 1 ∷ 0 ∷ 3 ∷ 4 ∷ 1 ∷ 2 ∷ 3 ∷ 5 ∷ 4 ∷ 2 ∷ 1 ∷ 9 ∷ 2 ∷ [];  -- a, a:b, c, b:c, %tag, b, &&
      types = 2 ∷ 3 ∷ [];
      constants = [];
      functions = [];
      axioms = [];
      patterns = [];
      terms =
          2 ∷ 0 ∷ 1 ∷ 0 ∷ 0 ∷ 0 ∷ 0 ∷  -- 0: a of int
          0 ∷ 1 ∷ 0 ∷ 0 ∷ 0 ∷ 0 ∷ 0 ∷  -- 1: true
          2 ∷ 1 ∷ 2 ∷ 0 ∷ 0 ∷ 0 ∷ 0 ∷  -- 2: a:b of c
          2 ∷ 4 ∷ 1 ∷ 0 ∷ 0 ∷ 0 ∷ 0 ∷  -- 3: %tag of int
          2 ∷ 0 ∷ 3 ∷ 0 ∷ 0 ∷ 0 ∷ 0 ∷  -- 4: a of b:c
          2 ∷ 5 ∷ 1 ∷ 0 ∷ 0 ∷ 0 ∷ 0 ∷  -- 5: b of int
          2 ∷ 0 ∷ 1 ∷ 0 ∷ 0 ∷ 0 ∷ 0 ∷  -- 6: a of int
          4 ∷ 6 ∷ 0 ∷ 7 ∷ 0 ∷ 0 ∷ 0 ∷ [];  -- 7: all of them
      contexts = 0 ∷ 7 ∷ 0 ∷ [];
      lists = 0 ∷ 1 ∷ 2 ∷ 3 ∷ 4 ∷ 5 ∷ 6 ∷ [];
    })

-- the name of term t is looked for in the levels
for : (t : ℕ) (levels : List ℕ) → Searched
for t levels = search (literal_name (literal_of search_book t)) (program search_book).literals levels

at : (k gone : ℕ) → Searched
at k gone = searched (some k) gone

nowhere : (gone : ℕ) → Searched
nowhere gone = searched option.none gone

-- those of the literal places at node 1
node_levels : List ℕ
node_levels = drop literal_places (standing (program search_book) (path (program search_book) 1)).levels

pub searches : List (Searched × Searched)
unfolding everything books search_book for at nowhere node_levels
searches =
    -- the first, one in the middle and the last; a term that is no literal is not counted
    (for 0 (1 ∷ 0 ∷ 0 ∷ 0 ∷ 0 ∷ 0 ∷ 0 ∷ []), at 0 1)
    ∷ (for 2 (0 ∷ 0 ∷ 2 ∷ 0 ∷ 0 ∷ 0 ∷ 0 ∷ []), at 2 2)
    ∷ (for 6 (0 ∷ 0 ∷ 0 ∷ 0 ∷ 0 ∷ 0 ∷ 1 ∷ []), at 6 6)
    -- several are declared: the lowest, whichever it is looked for by
    ∷ (for 0 (3 ∷ 0 ∷ 0 ∷ 0 ∷ 0 ∷ 0 ∷ 1 ∷ []), at 0 1)
    ∷ (for 6 (3 ∷ 0 ∷ 0 ∷ 0 ∷ 0 ∷ 0 ∷ 1 ∷ []), at 0 1)
    ∷ (for 4 (1 ∷ 0 ∷ 1 ∷ 1 ∷ 1 ∷ 1 ∷ 1 ∷ []), at 2 2)
    -- a colon that stands elsewhere
    ∷ (for 2 (0 ∷ 0 ∷ 0 ∷ 0 ∷ 1 ∷ 0 ∷ 0 ∷ []), at 4 4)
    ∷ (for 4 (0 ∷ 0 ∷ 1 ∷ 0 ∷ 0 ∷ 0 ∷ 0 ∷ []), at 2 2)
    -- nothing is declared, all else is, and what has an equal s and another type: all literals were gone through
    ∷ (for 0 (0 ∷ 0 ∷ 0 ∷ 0 ∷ 0 ∷ 0 ∷ 0 ∷ []), nowhere 6)
    ∷ (for 5 (1 ∷ 1 ∷ 1 ∷ 1 ∷ 1 ∷ 0 ∷ 1 ∷ []), nowhere 6)
    ∷ (for 0 (0 ∷ 0 ∷ 1 ∷ 0 ∷ 1 ∷ 1 ∷ 0 ∷ []), nowhere 6)
    -- a level at a term that is no literal
    ∷ (for 0 (0 ∷ 1 ∷ 0 ∷ 0 ∷ 0 ∷ 0 ∷ 0 ∷ []), nowhere 6)
    -- at node 1 each name is declared once, by the first literal that was walked; %tag is counted and never found
    ∷ (for 6 node_levels, at 0 1)
    ∷ (for 4 node_levels, at 2 2)
    ∷ (for 5 node_levels, at 5 5)
    ∷ (for 3 node_levels, nowhere 6)
    ∷ []

pub searches_hold : map (λ e. e.0) searches ≡ map (λ e. e.1) searches
unfolding searches
searches_hold = refl
