-- The book test on books that differ from a good one in one place, or two. R n is point n of 03-readings.md.
use Rattle.std.specs.Prelude.{if◌then◌else◌}
use Prim.Native.Nat.{ℕ, ◌+◌, ◌*◌}
use mathlib.Core.Path.{◌≡◌, refl}
use mathlib.Core.List.{List, [], ◌∷◌, ◌++◌, map}
use lib.ListN.{replicate, take, drop, set}
use lib.Dec.{eqb}
use Rattle.basics.specs.Text.{ascii}
use Rattle.basics.specs.Outcome.{Outcome, refused, accepted}
use Rattle.book.specs.Book.{Book, Section, letters, names, types, constants, functions, axioms, patterns, terms, contexts, lists, sections, offset, no_term}
use Rattle.book_test.specs.BookTest.{BookTested, book_test, book_test_call}
use Rattle.worked_examples.proofs.Everything.{everything}
use Rattle.worked_examples.proofs.Books.{books, bytes32, laid, written, none}
use Rattle.worked_examples.proofs.Hosts.{hosts, dirty, clean}

-- every kind of record, and every kind of term
seed : Book
seed =
    written (record {
      letters = ascii "ab";
      names = 0 ∷ 1 ∷ 2 ∷ 0 ∷ [];  -- a, and an empty one at the letters' end; b is in no name
      types = 0 ∷ [];
      constants = 0 ∷ 2 ∷ [];
      functions = 0 ∷ 1 ∷ 0 ∷ 1 ∷ 1 ∷ 1 ∷ [];
      axioms = 0 ∷ 2 ∷ 1 ∷ [];
      patterns = 3 ∷ 1 ∷ 0 ∷ 0 ∷ [];
      terms =
          0 ∷ 1 ∷ 0 ∷ 0 ∷ 0 ∷ 0 ∷ 0 ∷  -- 0: true, the axiom
          3 ∷ 0 ∷ 0 ∷ 0 ∷ 0 ∷ 0 ∷ 0 ∷  -- 1: the constant, in pattern 0
          1 ∷ 0xFFFFFFFF ∷ 0xFFFFFFFF ∷ 0 ∷ 0 ∷ 0 ∷ 0 ∷  -- 2: -1
          5 ∷ 0 ∷ 4 ∷ 1 ∷ 0 ∷ 0 ∷ 0 ∷  -- 3: the function, on 2
          2 ∷ 1 ∷ 0 ∷ 0 ∷ 0 ∷ 0 ∷ 0 ∷  -- 4: a literal
          4 ∷ 0 ∷ 9 ∷ 0 ∷ 0 ∷ 0 ∷ 0 ∷  -- 5: an operator, no arguments, at the lists' end
          6 ∷ 3 ∷ 4 ∷ 5 ∷ 0 ∷ 0 ∷ 0 ∷  -- 6: ite, of 3, 4 and 5
          0 ∷ 0 ∷ 0 ∷ 0 ∷ 0 ∷ 0 ∷ 0 ∷  -- 7: false
          7 ∷ 0 ∷ 6 ∷ 7 ∷ 0 ∷ 0 ∷ 0 ∷  -- 8: let, of 6 and 7
          8 ∷ 1 ∷ 5 ∷ 1 ∷ 6 ∷ 2 ∷ 8 ∷  -- 9: forall, the constant, both patterns, of 8
          0 ∷ 0 ∷ 0 ∷ 0 ∷ 0 ∷ 0 ∷ 0 ∷ [];  -- 10: false
      contexts = 0 ∷ 9 ∷ 2 ∷ 1 ∷ 10 ∷ 0 ∷ [];
      lists = 2 ∷ 0 ∷ 0 ∷ 1 ∷ 2 ∷ 0 ∷ 0 ∷ 1 ∷ 99 ∷ [];  -- a type, axiom, function, pattern 0's term, 3's argument, constant, patterns; and one that no range reaches
    })

-- a book with another number at a place, or in field i of record r
at : Book → ℕ → ℕ → Book
at b place v = take place b ++ bytes32 (v ∷ []) ++ drop (place + 4) b

with' : Book → Section → (r i v : ℕ) → Book
with' b s r i v = at b (offset b s + s.size * r + 4 * i) v

-- the good book, with another number in one field
one : Section → (r i v : ℕ) → Book
one s r i v = with' seed s r i v

ok : Outcome (Unit {0})
ok = accepted tt

-- refusal 4
pub fields : List (Outcome (Unit {0}) × Outcome (Unit {0}))
unfolding everything books seed at with' one ok
fields =
    (book_test seed, ok)
    -- letters, in a name or not: 0x20 and 0x7E pass, the bytes beside them do not. R 10
    ∷ (book_test (set seed 80 0x20), ok)
    ∷ (book_test (set seed 81 0x7E), ok)
    ∷ (book_test (set seed 80 0x1F), refused 4)
    ∷ (book_test (set seed 81 0x7F), refused 4)
    -- an unused field that is not 0, in each kind that has one. R 9
    ∷ (book_test (one terms 0 2 1), refused 4)
    ∷ (book_test (one terms 2 3 1), refused 4)
    ∷ (book_test (one terms 4 3 1), refused 4)
    ∷ (book_test (one terms 1 2 1), refused 4)
    ∷ (book_test (one terms 5 4 1), refused 4)
    ∷ (book_test (one terms 3 6 1), refused 4)
    ∷ (book_test (one terms 6 4 1), refused 4)
    ∷ (book_test (one terms 8 4 1), refused 4)
    -- kind 9, R 8; a Boolean and a quantifier's first field that are neither 0 nor 1
    ∷ (book_test (one terms 10 0 9), refused 4)
    ∷ (book_test (one terms 10 1 1), ok)
    ∷ (book_test (one terms 10 1 2), refused 4)
    ∷ (book_test (one terms 9 1 2), refused 4)
    -- a range of no entries that starts behind the end, of lists and of letters; one whose sum is over 2^32. R 4, 6
    ∷ (book_test (one terms 5 2 10), refused 4)
    ∷ (book_test (one names 1 0 3), refused 4)
    ∷ (book_test (one patterns 1 0 10), refused 4)
    ∷ (book_test (one patterns 0 0 0xFFFFFFFF), refused 4)
    ∷ (book_test (one names 0 0 0xFFFFFFFF), refused 4)
    -- entries reached that are out of range for their use: of the function nobody need apply, of a pattern, of a quantifier; not reached. R 7
    ∷ (book_test (one lists 0 0 3), refused 4)
    ∷ (book_test (one lists 1 0 1), refused 4)
    ∷ (book_test (one lists 2 0 1), refused 4)
    ∷ (book_test (one lists 3 0 11), refused 4)
    ∷ (book_test (one lists 5 0 1), refused 4)
    ∷ (book_test (one lists 6 0 2), refused 4)
    ∷ (book_test (one lists 8 0 0xFFFFFFFF), ok)
    -- a child over the number of terms is 4, not 5. R 2
    ∷ (book_test (one terms 6 1 11), refused 4)
    ∷ (book_test (one lists 4 0 11), refused 4)
    -- types, names, constants, functions; the axiom's term, or none; the trace. R 16
    ∷ (book_test (one constants 0 1 3), refused 4)
    ∷ (book_test (one terms 4 2 2), ok)
    ∷ (book_test (one terms 4 2 3), refused 4)
    ∷ (book_test (one types 0 0 2), refused 4)
    ∷ (book_test (one terms 1 1 1), refused 4)
    ∷ (book_test (one terms 3 1 1), refused 4)
    ∷ (book_test (one axioms 0 0 11), refused 4)
    ∷ (book_test (one axioms 0 0 no_term), ok)
    ∷ (book_test (one contexts 0 2 3), refused 4)
    -- a context's parent is a smaller node: not its own, not a later one, not one that is not there. R 2
    ∷ (book_test (one contexts 1 0 0), ok)
    ∷ (book_test (one contexts 1 0 2), refused 4)
    ∷ (book_test (one contexts 0 0 1), refused 4)
    ∷ (book_test (one contexts 0 0 2), refused 4)
    ∷ (book_test (one contexts 1 0 99), refused 4)
    ∷ []

pub fields_hold : map (λ e. e.0) fields ≡ map (λ e. e.1) fields
unfolding fields
fields_hold = refl

-- ---- REFUSALS 2 AND 3
-- a book of one section: so many records, all 0
only : Section → ℕ → Book
only s n = laid (map (λ t. (t.size, if eqb t.number s.number then replicate (t.size * n) 0 else [])) sections)

-- types that all have one name
typed : ℕ → Book
typed n =
    written (record {
      letters = ascii "T";
      names = 0 ∷ 1 ∷ [];
      types = replicate n 0;
      constants = [];
      functions = [];
      axioms = [];
      patterns = [];
      terms = [];
      contexts = [];
      lists = [];
    })

pub contents : List (Outcome (Unit {0}) × Outcome (Unit {0}))
unfolding everything books seed at with' one ok only typed
contents =
    -- too short, a byte too many, a byte too few
    (book_test [], refused 2)
    ∷ (book_test (take 79 none), refused 2)
    ∷ (book_test none, ok)
    ∷ (book_test (none ++ (0 ∷ [])), refused 2)
    ∷ (book_test (seed ++ (0 ∷ [])), refused 2)
    ∷ (book_test (take 529 seed), refused 2)
    -- a gap before names; an offset 0 for an empty section, R 3
    ∷ (book_test (at seed 8 83), refused 2)
    ∷ (book_test (at none 40 0), refused 2)
    -- 2^29 names of 8 bytes, and 2^30 types of 4: closed only modulo 2^32. R 4
    ∷ (book_test (at none 12 0x20000000), refused 2)
    ∷ (book_test (at none 20 0x40000000), refused 2)
    -- a count over its limit: 2 where the body is absent, 3 where it is there, also where every record would give 4. R 5
    ∷ (book_test (at none 20 65), refused 2)
    ∷ (book_test (typed 65), refused 3)
    ∷ (book_test (typed 64), ok)
    ∷ (book_test (typed 65 ++ (0 ∷ [])), refused 2)
    ∷ (book_test (only letters 8193), refused 3)
    ∷ (book_test (only names 513), refused 3)
    ∷ (book_test (only types 65), refused 3)
    ∷ (book_test (only constants 257), refused 3)
    ∷ (book_test (only functions 129), refused 3)
    ∷ (book_test (only axioms 129), refused 3)
    ∷ (book_test (only patterns 129), refused 3)
    ∷ (book_test (only patterns 128), ok)
    ∷ (book_test (only terms 1025), refused 3)
    ∷ (book_test (only contexts 513), refused 3)
    ∷ (book_test (only lists 2049), refused 3)
    ∷ (book_test (only lists 2048), ok)
    ∷ []

pub contents_hold : map (λ e. e.0) contents ≡ map (λ e. e.1) contents
unfolding contents
contents_hold = refl

-- ---- REFUSAL 5, AND THE ORDER OF 4 AND 5
-- the good book, with other numbers in two fields, or three
two : Section → (r i v : ℕ) → Section → (r i v : ℕ) → Book
two s r i v s' r' i' v' = with' (one s r i v) s' r' i' v'

three : Section → (r i v : ℕ) → Section → (r i v : ℕ) → Section → (r i v : ℕ) → Book
three s r i v s' r' i' v' s'' r'' i'' v'' = with' (two s r i v s' r' i' v') s'' r'' i'' v''

pub forests : List (Outcome (Unit {0}) × Outcome (Unit {0}))
unfolding everything books seed at with' one two three ok
forests =
    -- a child equal to its parent: of ite, of let, a quantifier's body, an argument
    (book_test (one terms 6 1 6), refused 5)
    ∷ (book_test (one terms 8 2 8), refused 5)
    ∷ (book_test (one terms 9 6 9), refused 5)
    ∷ (book_test (one lists 4 0 3), refused 5)
    -- a child larger than its parent, each term still referred to once
    ∷ (book_test (two terms 8 3 10 contexts 1 1 7), refused 5)
    -- a term in a listed pattern that is larger than the quantifier; the same where no quantifier lists the pattern. R 12
    ∷ (book_test (two lists 3 0 10 contexts 1 1 1), refused 5)
    ∷ (book_test (three lists 3 0 10 contexts 1 1 1 lists 6 0 1), ok)
    -- referred to twice: by two contexts, by an axiom and a context, by let twice, by an argument and a pattern. R 11
    ∷ (book_test (one contexts 1 1 9), refused 5)
    ∷ (book_test (one contexts 1 1 0), refused 5)
    ∷ (book_test (one terms 8 3 6), refused 5)
    ∷ (book_test (one lists 4 0 1), refused 5)
    -- a pattern listed twice: with a term, and without; the terms of one that nobody lists count for nothing. R 12
    ∷ (book_test (one lists 7 0 0), refused 5)
    ∷ (book_test (one lists 6 0 1), ok)
    ∷ (book_test (two lists 6 0 1 contexts 1 1 1), ok)
    -- the quantifier's constants are the entries of an axiom and of a function, once more. R 13
    ∷ (book_test (two terms 9 2 1 terms 9 3 2), ok)
    -- a 5 in an early term loses to a 4 in the last context. R 1
    ∷ (book_test (two terms 6 1 6 contexts 1 2 3), refused 4)
    -- and both to a byte too many
    ∷ (book_test (two terms 6 1 6 contexts 1 2 3 ++ (0 ∷ [])), refused 2)
    ∷ []

pub forests_hold : map (λ e. e.0) forests ≡ map (λ e. e.1) forests
unfolding forests
forests_hold = refl

-- ---- REFUSAL 28
-- the good book, whose name 0 has two letters
lettered : (first second : ℕ) → Book
lettered x y = set (set (one names 0 1 2) 80 x) 81 y

-- a term of kind 2 or 4, a literal or an operator, and a context with it whose trace is |
barred : (kind name typ : ℕ) → Book
barred kind n typ =
    written (record {
      letters = ascii "||%tag";
      names = 0 ∷ 1 ∷ 0 ∷ 2 ∷ 2 ∷ 4 ∷ 3 ∷ 3 ∷ [];  -- |, ||, %tag, tag
      types = 1 ∷ [];
      constants = [];
      functions = [];
      axioms = [];
      patterns = [];
      terms = kind ∷ n ∷ typ ∷ 0 ∷ 0 ∷ 0 ∷ 0 ∷ [];
      contexts = 0 ∷ 0 ∷ 1 ∷ [];
      lists = [];
    })

pub names28 : List (Outcome (Unit {0}) × Outcome (Unit {0}))
unfolding everything books seed at with' one two ok lettered barred
names28 =
    -- an empty name: of the type, the constant, the function; of an operator, as of the literal, it passes
    (book_test (one types 0 0 1), refused 28)
    ∷ (book_test (one constants 0 0 1), refused 28)
    ∷ (book_test (one functions 0 0 1), refused 28)
    ∷ (book_test (one terms 5 1 1), ok)
    -- a bar, a backslash; in no name
    ∷ (book_test (set seed 80 0x7C), refused 28)
    ∷ (book_test (set seed 80 0x5C), refused 28)
    ∷ (book_test (set seed 81 0x7C), ok)
    -- around the whole, at one end, and a backslash
    ∷ (book_test (lettered 0x7C 0x7C), ok)
    ∷ (book_test (lettered 0x7C 0x61), refused 28)
    ∷ (book_test (lettered 0x61 0x7C), refused 28)
    ∷ (book_test (lettered 0x61 0x5C), refused 28)
    -- a literal: a bar in its text, also around it, or in its type's name, also around that; but %tag
    ∷ (book_test (barred 2 0 0), refused 28)
    ∷ (book_test (barred 2 1 0), refused 28)
    ∷ (book_test (barred 2 3 0), ok)
    ∷ (book_test (barred 2 3 2), refused 28)
    ∷ (book_test (barred 2 2 2), ok)
    -- an operator, and the trace of each of these books
    ∷ (book_test (barred 4 0 0), ok)
    -- behind 5 and 4
    ∷ (book_test (two types 0 0 1 contexts 1 1 9), refused 5)
    ∷ (book_test (two types 0 0 1 contexts 1 2 3), refused 4)
    ∷ []

pub names28_hold : map (λ e. e.0) names28 ≡ map (λ e. e.1) names28
unfolding names28
names28_hold = refl

-- ---- THE CALL book test: the answer and the scratch. R 18
tested : Book → BookTested
tested b = book_test_call b dirty

gives : Outcome (Unit {0}) → BookTested
gives answer = record { answer = answer; scratch = clean }

pub calls : List (BookTested × BookTested)
unfolding everything books hosts seed at with' one ok tested gives
calls =
    (tested none, gives ok)
    ∷ (tested (one contexts 1 1 9), gives (refused 5))
    ∷ (tested (one types 0 0 1), gives (refused 28))
    -- 1 before all others, and the scratch not touched
    ∷ (book_test_call [] (replicate 127 0x55), record { answer = refused 1; scratch = replicate 127 0x55 })
    ∷ (book_test_call none [], record { answer = refused 1; scratch = [] })
    -- one that is long enough is zero to its end: the least, one byte more, and as much as a byte for each term
    ∷ (book_test_call none (replicate 128 0x55), record { answer = ok; scratch = replicate 128 0 })
    ∷ (book_test_call [] (replicate 129 0x55), record { answer = refused 2; scratch = replicate 129 0 })
    ∷ (book_test_call (one contexts 1 1 9) (replicate 1024 0x55), record { answer = refused 5; scratch = replicate 1024 0 })
    ∷ []

pub calls_hold : map (λ e. e.0) calls ≡ map (λ e. e.1) calls
unfolding calls
calls_hold = refl
