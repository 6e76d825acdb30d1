-- The books of the worked examples, written section by section.
use Prim.Native.Nat.{ℕ, ◌+◌, ◌/◌, ◌%◌}
use mathlib.Core.List.{List, [], ◌∷◌, ◌++◌}
use lib.ListN.{length}
use Rattle.basics.specs.Text.{Text, ascii}
use Rattle.book.specs.Book.{Book}

-- numbers as unsigned 32-bit, little-endian
unfoldable pub bytes32 : List ℕ → Book
bytes32 [] = []
bytes32 (w ∷ ws) = w % 256 ∷ w / 256 % 256 ∷ w / 65536 % 256 ∷ w / 16777216 ∷ bytes32 ws

-- the table of contents of sections whose records have the given sizes, the first at `at`
unfoldable pub contents : ℕ → List (ℕ × List ℕ) → List ℕ
contents at [] = []
contents at (s ∷ ss) = at ∷ length s.1 / s.0 ∷ contents (at + length s.1) ss

unfoldable pub bodies : List (ℕ × List ℕ) → Book
bodies [] = []
bodies (s ∷ ss) = s.1 ++ bodies ss

-- a book's sections: the letters, and for each other section its records' fields in a row
pub record Sections : Type 0 where
  pub letters : Text
  pub names : List ℕ
  pub types : List ℕ
  pub constants : List ℕ
  pub functions : List ℕ
  pub axioms : List ℕ
  pub patterns : List ℕ
  pub terms : List ℕ
  pub contexts : List ℕ
  pub lists : List ℕ

-- sections as the size of a record and the body
unfoldable pub laid : List (ℕ × List ℕ) → Book
laid all = bytes32 (contents 80 all) ++ bodies all

unfoldable pub written : Sections → Book
written s =
    laid
    ((1, s.letters) ∷ (8, bytes32 s.names) ∷ (4, bytes32 s.types) ∷ (8, bytes32 s.constants) ∷ (24, bytes32 s.functions)
    ∷ (12, bytes32 s.axioms) ∷ (8, bytes32 s.patterns) ∷ (28, bytes32 s.terms) ∷ (12, bytes32 s.contexts) ∷ (4, bytes32 s.lists) ∷ [])

-- x, y, z of Int; f, its axiom (term 4); nodes 1 to 3 (terms 7, 11, 14); the goal (term 18)
unfoldable pub sample : Book
sample =
    written (record {
      letters = ascii "xyzf=<";
      names = 0 ∷ 1 ∷ 1 ∷ 1 ∷ 2 ∷ 1 ∷ 3 ∷ 1 ∷ 4 ∷ 1 ∷ 5 ∷ 1 ∷ [];
      types = [];
      constants = 0 ∷ 1 ∷ 1 ∷ 1 ∷ 2 ∷ 1 ∷ [];
      functions = 3 ∷ 1 ∷ 0 ∷ 1 ∷ 1 ∷ 1 ∷ [];
      axioms = 4 ∷ 2 ∷ 1 ∷ [];
      patterns = [];
      terms =
          3 ∷ 2 ∷ 0 ∷ 0 ∷ 0 ∷ 0 ∷ 0 ∷  -- 0: z
          5 ∷ 0 ∷ 3 ∷ 1 ∷ 0 ∷ 0 ∷ 0 ∷  -- 1: (f z)
          3 ∷ 2 ∷ 0 ∷ 0 ∷ 0 ∷ 0 ∷ 0 ∷  -- 2: z
          4 ∷ 4 ∷ 4 ∷ 2 ∷ 0 ∷ 0 ∷ 0 ∷  -- 3: (= (f z) z)
          8 ∷ 1 ∷ 6 ∷ 1 ∷ 0 ∷ 0 ∷ 3 ∷  -- 4: (forall ((z Int)) ..)
          1 ∷ 0 ∷ 0 ∷ 0 ∷ 0 ∷ 0 ∷ 0 ∷  -- 5: 0
          3 ∷ 0 ∷ 0 ∷ 0 ∷ 0 ∷ 0 ∷ 0 ∷  -- 6: x
          4 ∷ 5 ∷ 7 ∷ 2 ∷ 0 ∷ 0 ∷ 0 ∷  -- 7: (< 0 x)
          3 ∷ 1 ∷ 0 ∷ 0 ∷ 0 ∷ 0 ∷ 0 ∷  -- 8: y
          3 ∷ 0 ∷ 0 ∷ 0 ∷ 0 ∷ 0 ∷ 0 ∷  -- 9: x
          5 ∷ 0 ∷ 9 ∷ 1 ∷ 0 ∷ 0 ∷ 0 ∷  -- 10: (f x)
          4 ∷ 4 ∷ 10 ∷ 2 ∷ 0 ∷ 0 ∷ 0 ∷  -- 11: (= y (f x))
          3 ∷ 0 ∷ 0 ∷ 0 ∷ 0 ∷ 0 ∷ 0 ∷  -- 12: x
          1 ∷ 9 ∷ 0 ∷ 0 ∷ 0 ∷ 0 ∷ 0 ∷  -- 13: 9
          4 ∷ 5 ∷ 12 ∷ 2 ∷ 0 ∷ 0 ∷ 0 ∷  -- 14: (< x 9)
          1 ∷ 0 ∷ 0 ∷ 0 ∷ 0 ∷ 0 ∷ 0 ∷  -- 15: 0
          3 ∷ 1 ∷ 0 ∷ 0 ∷ 0 ∷ 0 ∷ 0 ∷  -- 16: y
          5 ∷ 0 ∷ 14 ∷ 1 ∷ 0 ∷ 0 ∷ 0 ∷  -- 17: (f y)
          4 ∷ 5 ∷ 15 ∷ 2 ∷ 0 ∷ 0 ∷ 0 ∷ [];  -- 18: (< 0 (f y))
      contexts = 0 ∷ 7 ∷ 0 ∷ 1 ∷ 11 ∷ 0 ∷ 1 ∷ 14 ∷ 0 ∷ [];
      lists = 1 ∷ 0 ∷ 0 ∷ 0 ∷ 1 ∷ 2 ∷ 2 ∷ 5 ∷ 6 ∷ 9 ∷ 8 ∷ 10 ∷ 12 ∷ 13 ∷ 16 ∷ 15 ∷ 17 ∷ [];
    })

-- the terms of P1 to P8; nodes 1 and 2 (terms 13 and 16) are below the root, node 3 (term 3) below node 1. Nodes 1 and 3 have traces, T and an empty one
unfoldable pub small : Book
small =
    written (record {
      letters = ascii "andnotbvT=%tag";
      names = 0 ∷ 3 ∷ 3 ∷ 3 ∷ 0 ∷ 1 ∷ 6 ∷ 1 ∷ 7 ∷ 1 ∷ 8 ∷ 1 ∷ 5 ∷ 1 ∷ 9 ∷ 1 ∷ 10 ∷ 4 ∷ 0 ∷ 0 ∷ [];  -- and, not, a, b, v, T, t, =, %tag, (empty)
      types = 5 ∷ [];
      constants = 2 ∷ 0 ∷ 3 ∷ 0 ∷ 4 ∷ 1 ∷ 6 ∷ 2 ∷ [];  -- a and b of Bool, v of Int, t of T
      functions = [];
      axioms = [];
      patterns = 2 ∷ 1 ∷ [];
      terms =
          1 ∷ 0 ∷ 0 ∷ 0 ∷ 0 ∷ 0 ∷ 0 ∷  -- 0: 0
          1 ∷ 0xFFFFFFFB ∷ 0xFFFFFFFF ∷ 0 ∷ 0 ∷ 0 ∷ 0 ∷  -- 1: -5
          1 ∷ 0 ∷ 0x80000000 ∷ 0 ∷ 0 ∷ 0 ∷ 0 ∷  -- 2: the least number
          4 ∷ 0 ∷ 0 ∷ 0 ∷ 0 ∷ 0 ∷ 0 ∷  -- 3: and
          3 ∷ 0 ∷ 0 ∷ 0 ∷ 0 ∷ 0 ∷ 0 ∷  -- 4: a
          3 ∷ 1 ∷ 0 ∷ 0 ∷ 0 ∷ 0 ∷ 0 ∷  -- 5: b
          4 ∷ 1 ∷ 3 ∷ 1 ∷ 0 ∷ 0 ∷ 0 ∷  -- 6: (not b)
          4 ∷ 0 ∷ 4 ∷ 2 ∷ 0 ∷ 0 ∷ 0 ∷  -- 7: (and a (not b))
          1 ∷ 3 ∷ 0 ∷ 0 ∷ 0 ∷ 0 ∷ 0 ∷  -- 8: 3
          3 ∷ 2 ∷ 0 ∷ 0 ∷ 0 ∷ 0 ∷ 0 ∷  -- 9: v
          7 ∷ 2 ∷ 8 ∷ 9 ∷ 0 ∷ 0 ∷ 0 ∷  -- 10: (let ((v 3)) v)
          3 ∷ 0 ∷ 0 ∷ 0 ∷ 0 ∷ 0 ∷ 0 ∷  -- 11: a, in the pattern
          0 ∷ 1 ∷ 0 ∷ 0 ∷ 0 ∷ 0 ∷ 0 ∷  -- 12: true
          8 ∷ 0 ∷ 0 ∷ 0 ∷ 0 ∷ 1 ∷ 12 ∷  -- 13: exists, no variables, a pattern, true
          3 ∷ 3 ∷ 0 ∷ 0 ∷ 0 ∷ 0 ∷ 0 ∷  -- 14: t
          2 ∷ 8 ∷ 1 ∷ 0 ∷ 0 ∷ 0 ∷ 0 ∷  -- 15: %tag
          4 ∷ 7 ∷ 6 ∷ 2 ∷ 0 ∷ 0 ∷ 0 ∷ [];  -- 16: (= t %tag)
      contexts = 0 ∷ 13 ∷ 6 ∷ 0 ∷ 16 ∷ 0 ∷ 1 ∷ 3 ∷ 10 ∷ [];
      lists = 0 ∷ 1 ∷ 11 ∷ 5 ∷ 4 ∷ 6 ∷ 14 ∷ 15 ∷ [];  -- entry 0: pattern 0
    })

-- no record at all: 80 bytes
unfoldable pub none : Book
none =
    written (record {
      letters = [];
      names = [];
      types = [];
      constants = [];
      functions = [];
      axioms = [];
      patterns = [];
      terms = [];
      contexts = [];
      lists = [];
    })

-- a type with an empty name
unfoldable pub nameless : Book
nameless = written (record { letters = []; names = 0 ∷ 0 ∷ []; types = 0 ∷ []; constants = []; functions = []; axioms = []; patterns = []; terms = []; contexts = []; lists = [] })

-- every kind of term; no contexts
unfoldable pub shapes : Book
shapes =
    written (record {
      letters = ascii "Tvwfa+=%tagred 40";
      names = 0 ∷ 1 ∷ 1 ∷ 1 ∷ 2 ∷ 1 ∷ 0 ∷ 0 ∷ 3 ∷ 1 ∷ 4 ∷ 1 ∷ 5 ∷ 1 ∷ 6 ∷ 1 ∷ 7 ∷ 4 ∷ 11 ∷ 6 ∷ [];  -- T, v, w, (empty), f, a, +, =, %tag, red 40
      types = 0 ∷ [];
      constants = 1 ∷ 1 ∷ 2 ∷ 2 ∷ 9 ∷ 0 ∷ [];
      functions = 4 ∷ 2 ∷ 0 ∷ 1 ∷ 0 ∷ 0 ∷ [];
      axioms = [];
      patterns = 4 ∷ 2 ∷ 0 ∷ 0 ∷ [];
      terms =
          0 ∷ 1 ∷ 0 ∷ 0 ∷ 0 ∷ 0 ∷ 0 ∷  -- 0: true
          1 ∷ 12 ∷ 0 ∷ 0 ∷ 0 ∷ 0 ∷ 0 ∷  -- 1: 12
          2 ∷ 5 ∷ 2 ∷ 0 ∷ 0 ∷ 0 ∷ 0 ∷  -- 2: |a:T|
          3 ∷ 0 ∷ 0 ∷ 0 ∷ 0 ∷ 0 ∷ 0 ∷  -- 3: v
          3 ∷ 2 ∷ 0 ∷ 0 ∷ 0 ∷ 0 ∷ 0 ∷  -- 4: red 40
          4 ∷ 6 ∷ 1 ∷ 2 ∷ 0 ∷ 0 ∷ 0 ∷  -- 5: (+ 12 v)
          5 ∷ 0 ∷ 3 ∷ 1 ∷ 0 ∷ 0 ∷ 0 ∷  -- 6: (f |a:T|)
          3 ∷ 0 ∷ 0 ∷ 0 ∷ 0 ∷ 0 ∷ 0 ∷  -- 7: v
          3 ∷ 0 ∷ 0 ∷ 0 ∷ 0 ∷ 0 ∷ 0 ∷  -- 8: v
          6 ∷ 0 ∷ 5 ∷ 7 ∷ 0 ∷ 0 ∷ 0 ∷  -- 9: (ite true (+ 12 v) v)
          7 ∷ 0 ∷ 8 ∷ 9 ∷ 0 ∷ 0 ∷ 0 ∷  -- 10: (let ((v v)) (ite ..))
          3 ∷ 1 ∷ 0 ∷ 0 ∷ 0 ∷ 0 ∷ 0 ∷  -- 11: w, in pattern 0
          3 ∷ 0 ∷ 0 ∷ 0 ∷ 0 ∷ 0 ∷ 0 ∷  -- 12: v, in pattern 0
          4 ∷ 7 ∷ 6 ∷ 2 ∷ 0 ∷ 0 ∷ 0 ∷  -- 13: (= (f |a:T|) |red 40|)
          8 ∷ 1 ∷ 8 ∷ 2 ∷ 10 ∷ 2 ∷ 13 ∷  -- 14: (forall ((v Int) (w T)) (! .. :pattern (w v) :pattern ()))
          8 ∷ 0 ∷ 0 ∷ 0 ∷ 12 ∷ 1 ∷ 10 ∷  -- 15: exists, no variables, the empty pattern, (let ..)
          0 ∷ 0 ∷ 0 ∷ 0 ∷ 0 ∷ 0 ∷ 0 ∷  -- 16: false
          8 ∷ 0 ∷ 13 ∷ 2 ∷ 15 ∷ 1 ∷ 16 ∷  -- 17: (exists ((v Int) (v Int)) (! false :pattern ()))
          3 ∷ 0 ∷ 0 ∷ 0 ∷ 0 ∷ 0 ∷ 0 ∷  -- 18: v
          4 ∷ 3 ∷ 16 ∷ 1 ∷ 0 ∷ 0 ∷ 0 ∷  -- 19: the operator with an empty name, on v
          4 ∷ 3 ∷ 0 ∷ 0 ∷ 0 ∷ 0 ∷ 0 ∷  -- 20: the same without arguments
          2 ∷ 8 ∷ 2 ∷ 0 ∷ 0 ∷ 0 ∷ 0 ∷  -- 21: the literal %tag
          4 ∷ 8 ∷ 0 ∷ 0 ∷ 0 ∷ 0 ∷ 0 ∷ [];  -- 22: the operator %tag
      contexts = [];
      lists = 1 ∷ 1 ∷ 3 ∷ 2 ∷ 11 ∷ 12 ∷ 6 ∷ 4 ∷ 0 ∷ 1 ∷ 0 ∷ 1 ∷ 1 ∷ 0 ∷ 0 ∷ 1 ∷ 18 ∷ [];
    })

-- literals: two of equal text by different splits, of Bool and Int, and %tag
unfoldable pub literals : Book
literals =
    written (record {
      letters = ascii "cb:cU|a:b:c|=%tag";
      names = 0 ∷ 1 ∷ 1 ∷ 3 ∷ 4 ∷ 1 ∷ 5 ∷ 7 ∷ 6 ∷ 3 ∷ 6 ∷ 1 ∷ 12 ∷ 1 ∷ 13 ∷ 4 ∷ [];  -- c, b:c, U, |a:b:c|, a:b, a, =, %tag
      types = 0 ∷ 1 ∷ 2 ∷ [];
      constants = 3 ∷ 1 ∷ [];
      functions = [];
      axioms = [];
      patterns = [];
      terms =
          2 ∷ 4 ∷ 2 ∷ 0 ∷ 0 ∷ 0 ∷ 0 ∷  -- 0: a:b of type c
          2 ∷ 5 ∷ 3 ∷ 0 ∷ 0 ∷ 0 ∷ 0 ∷  -- 1: a of type b:c
          4 ∷ 6 ∷ 0 ∷ 2 ∷ 0 ∷ 0 ∷ 0 ∷  -- 2: (= |a:b:c| |a:b:c|)
          2 ∷ 7 ∷ 4 ∷ 0 ∷ 0 ∷ 0 ∷ 0 ∷  -- 3: %tag of type U
          3 ∷ 0 ∷ 0 ∷ 0 ∷ 0 ∷ 0 ∷ 0 ∷  -- 4: the constant |a:b:c|
          4 ∷ 6 ∷ 2 ∷ 2 ∷ 0 ∷ 0 ∷ 0 ∷  -- 5: (= %tag |a:b:c|)
          2 ∷ 5 ∷ 3 ∷ 0 ∷ 0 ∷ 0 ∷ 0 ∷  -- 6: a of type b:c
          2 ∷ 4 ∷ 2 ∷ 0 ∷ 0 ∷ 0 ∷ 0 ∷  -- 7: a:b of type c
          4 ∷ 6 ∷ 4 ∷ 2 ∷ 0 ∷ 0 ∷ 0 ∷  -- 8: (= |a:b:c| |a:b:c|)
          2 ∷ 5 ∷ 0 ∷ 0 ∷ 0 ∷ 0 ∷ 0 ∷  -- 9: a of type Bool
          2 ∷ 5 ∷ 1 ∷ 0 ∷ 0 ∷ 0 ∷ 0 ∷  -- 10: a of type Int
          4 ∷ 6 ∷ 6 ∷ 2 ∷ 0 ∷ 0 ∷ 0 ∷  -- 11: (= |a:bool| |a:int|)
          2 ∷ 7 ∷ 0 ∷ 0 ∷ 0 ∷ 0 ∷ 0 ∷ [];  -- 12: %tag of type Bool
      contexts = 0 ∷ 2 ∷ 0 ∷ 1 ∷ 5 ∷ 0 ∷ 0 ∷ 8 ∷ 0 ∷ 0 ∷ 11 ∷ 0 ∷ 0 ∷ 12 ∷ 0 ∷ [];
      lists = 0 ∷ 1 ∷ 3 ∷ 4 ∷ 6 ∷ 7 ∷ 9 ∷ 10 ∷ [];
    })

-- axiom 0 has the given term, 2 or none, explains f and g, and is listed by f, and by g if g_lists is 1
unfoldable pub explained : (axiom_term g_lists : ℕ) → Book
explained axiom_term g_lists =
    written (record {
      letters = ascii "fg=<";
      names = 0 ∷ 1 ∷ 1 ∷ 1 ∷ 2 ∷ 1 ∷ 3 ∷ 1 ∷ [];  -- f, g, =, <
      types = [];
      constants = [];
      functions = 0 ∷ 1 ∷ 0 ∷ 0 ∷ 0 ∷ 1 ∷ 1 ∷ 1 ∷ 0 ∷ 0 ∷ 1 ∷ g_lists ∷ [];
      axioms = axiom_term ∷ 4 ∷ 2 ∷ [];
      patterns = [];
      terms =
          5 ∷ 0 ∷ 0 ∷ 0 ∷ 0 ∷ 0 ∷ 0 ∷  -- 0: f
          5 ∷ 1 ∷ 0 ∷ 0 ∷ 0 ∷ 0 ∷ 0 ∷  -- 1: g
          4 ∷ 2 ∷ 2 ∷ 2 ∷ 0 ∷ 0 ∷ 0 ∷  -- 2: (= f g)
          5 ∷ 0 ∷ 0 ∷ 0 ∷ 0 ∷ 0 ∷ 0 ∷  -- 3: f
          5 ∷ 1 ∷ 0 ∷ 0 ∷ 0 ∷ 0 ∷ 0 ∷  -- 4: g
          4 ∷ 3 ∷ 6 ∷ 2 ∷ 0 ∷ 0 ∷ 0 ∷  -- 5: (< f g)
          5 ∷ 1 ∷ 0 ∷ 0 ∷ 0 ∷ 0 ∷ 0 ∷  -- 6: g
          5 ∷ 0 ∷ 0 ∷ 0 ∷ 0 ∷ 0 ∷ 0 ∷  -- 7: f
          4 ∷ 3 ∷ 8 ∷ 2 ∷ 0 ∷ 0 ∷ 0 ∷  -- 8: (< g f)
          5 ∷ 1 ∷ 0 ∷ 0 ∷ 0 ∷ 0 ∷ 0 ∷ [];  -- 9: g
      contexts = 0 ∷ 5 ∷ 0 ∷ 0 ∷ 8 ∷ 0 ∷ 0 ∷ 9 ∷ 0 ∷ [];
      lists = 0 ∷ 0 ∷ 0 ∷ 1 ∷ 0 ∷ 1 ∷ 3 ∷ 4 ∷ 6 ∷ 7 ∷ [];
    })

-- axiom 0 explains nothing and is listed by f and g, axiom 1 explains f and g and is listed by g; v is bound in node 1 and free in axiom 0
unfoldable pub cycle : Book
cycle =
    written (record {
      letters = ascii "vfg%tag=<";
      names = 0 ∷ 1 ∷ 1 ∷ 1 ∷ 2 ∷ 1 ∷ 3 ∷ 4 ∷ 7 ∷ 1 ∷ 8 ∷ 1 ∷ [];  -- v, f, g, %tag, =, <
      types = [];
      constants = 0 ∷ 1 ∷ [];
      functions = 1 ∷ 1 ∷ 0 ∷ 1 ∷ 1 ∷ 1 ∷ 2 ∷ 1 ∷ 0 ∷ 0 ∷ 2 ∷ 2 ∷ [];
      axioms = 3 ∷ 0 ∷ 0 ∷ 7 ∷ 10 ∷ 2 ∷ [];
      patterns = [];
      terms =
          3 ∷ 0 ∷ 0 ∷ 0 ∷ 0 ∷ 0 ∷ 0 ∷  -- 0: v
          5 ∷ 1 ∷ 4 ∷ 1 ∷ 0 ∷ 0 ∷ 0 ∷  -- 1: (g v)
          2 ∷ 3 ∷ 1 ∷ 0 ∷ 0 ∷ 0 ∷ 0 ∷  -- 2: %tag
          4 ∷ 4 ∷ 5 ∷ 2 ∷ 0 ∷ 0 ∷ 0 ∷  -- 3: (= (g v) %tag)
          1 ∷ 0 ∷ 0 ∷ 0 ∷ 0 ∷ 0 ∷ 0 ∷  -- 4: 0
          5 ∷ 0 ∷ 7 ∷ 1 ∷ 0 ∷ 0 ∷ 0 ∷  -- 5: (f 0)
          2 ∷ 3 ∷ 1 ∷ 0 ∷ 0 ∷ 0 ∷ 0 ∷  -- 6: %tag
          4 ∷ 5 ∷ 8 ∷ 2 ∷ 0 ∷ 0 ∷ 0 ∷  -- 7: (< (f 0) %tag)
          3 ∷ 0 ∷ 0 ∷ 0 ∷ 0 ∷ 0 ∷ 0 ∷  -- 8: v
          5 ∷ 0 ∷ 12 ∷ 1 ∷ 0 ∷ 0 ∷ 0 ∷  -- 9: (f v)
          8 ∷ 1 ∷ 13 ∷ 1 ∷ 0 ∷ 0 ∷ 9 ∷  -- 10: (forall ((v Int)) (f v))
          2 ∷ 3 ∷ 1 ∷ 0 ∷ 0 ∷ 0 ∷ 0 ∷ [];  -- 11: %tag
      contexts = 0 ∷ 10 ∷ 0 ∷ 1 ∷ 11 ∷ 0 ∷ [];
      lists = 1 ∷ 0 ∷ 0 ∷ 1 ∷ 0 ∷ 1 ∷ 2 ∷ 4 ∷ 5 ∷ 6 ∷ 0 ∷ 1 ∷ 8 ∷ 0 ∷ [];
    })

-- what types, bindings, operators and names that are no simple symbols declare; nodes 8 and 9 are equal siblings
unfoldable pub declaring : Book
declaring =
    written (record {
      letters = ascii "TUWXcwvfred 40let|a b|";
      names =
          0 ∷ 1 ∷ 1 ∷ 1 ∷ 2 ∷ 1 ∷ 3 ∷ 1 ∷ 0 ∷ 0 ∷ 4 ∷ 1 ∷ 5 ∷ 1 ∷ 6 ∷ 1 ∷ 7 ∷ 1 ∷ 8 ∷ 6 ∷ 14 ∷ 3 ∷ 17 ∷ 5 ∷ [];  -- T, U, W, X, (empty), c, w, v, f, red 40, let, |a b|
      types = 0 ∷ 1 ∷ 2 ∷ 3 ∷ 9 ∷ [];
      constants = 5 ∷ 5 ∷ 6 ∷ 2 ∷ 7 ∷ 3 ∷ 10 ∷ 6 ∷ [];
      functions = 8 ∷ 4 ∷ 0 ∷ 2 ∷ 2 ∷ 1 ∷ 11 ∷ 1 ∷ 3 ∷ 1 ∷ 0 ∷ 0 ∷ [];
      axioms = 0 ∷ 4 ∷ 1 ∷ [];
      patterns = [];
      terms =
          0 ∷ 1 ∷ 0 ∷ 0 ∷ 0 ∷ 0 ∷ 0 ∷  -- 0: true
          3 ∷ 0 ∷ 0 ∷ 0 ∷ 0 ∷ 0 ∷ 0 ∷  -- 1: c
          5 ∷ 0 ∷ 5 ∷ 1 ∷ 0 ∷ 0 ∷ 0 ∷  -- 2: (f c)
          0 ∷ 1 ∷ 0 ∷ 0 ∷ 0 ∷ 0 ∷ 0 ∷  -- 3: true
          8 ∷ 1 ∷ 6 ∷ 1 ∷ 0 ∷ 0 ∷ 3 ∷  -- 4: (forall ((w T)) true)
          3 ∷ 1 ∷ 0 ∷ 0 ∷ 0 ∷ 0 ∷ 0 ∷  -- 5: w
          1 ∷ 3 ∷ 0 ∷ 0 ∷ 0 ∷ 0 ∷ 0 ∷  -- 6: 3
          3 ∷ 2 ∷ 0 ∷ 0 ∷ 0 ∷ 0 ∷ 0 ∷  -- 7: v
          7 ∷ 2 ∷ 6 ∷ 7 ∷ 0 ∷ 0 ∷ 0 ∷  -- 8: (let ((v 3)) v)
          3 ∷ 2 ∷ 0 ∷ 0 ∷ 0 ∷ 0 ∷ 0 ∷  -- 9: v
          3 ∷ 2 ∷ 0 ∷ 0 ∷ 0 ∷ 0 ∷ 0 ∷  -- 10: v
          7 ∷ 2 ∷ 9 ∷ 10 ∷ 0 ∷ 0 ∷ 0 ∷  -- 11: (let ((v v)) v)
          3 ∷ 3 ∷ 0 ∷ 0 ∷ 0 ∷ 0 ∷ 0 ∷  -- 12: the constant let
          2 ∷ 4 ∷ 6 ∷ 0 ∷ 0 ∷ 0 ∷ 0 ∷  -- 13: |:red 40|, a literal with an empty text
          4 ∷ 4 ∷ 7 ∷ 2 ∷ 0 ∷ 0 ∷ 0 ∷  -- 14: (() |let| |:red 40|)
          5 ∷ 1 ∷ 0 ∷ 0 ∷ 0 ∷ 0 ∷ 0 ∷  -- 15: the function |a b|
          0 ∷ 1 ∷ 0 ∷ 0 ∷ 0 ∷ 0 ∷ 0 ∷  -- 16: true
          0 ∷ 1 ∷ 0 ∷ 0 ∷ 0 ∷ 0 ∷ 0 ∷  -- 17: true
          3 ∷ 0 ∷ 0 ∷ 0 ∷ 0 ∷ 0 ∷ 0 ∷  -- 18: c
          3 ∷ 1 ∷ 0 ∷ 0 ∷ 0 ∷ 0 ∷ 0 ∷  -- 19: w
          3 ∷ 2 ∷ 0 ∷ 0 ∷ 0 ∷ 0 ∷ 0 ∷  -- 20: v
          6 ∷ 18 ∷ 19 ∷ 20 ∷ 0 ∷ 0 ∷ 0 ∷ [];  -- 21: (ite c w v)
      contexts = 0 ∷ 2 ∷ 0 ∷ 0 ∷ 4 ∷ 0 ∷ 2 ∷ 5 ∷ 0 ∷ 0 ∷ 8 ∷ 0 ∷ 0 ∷ 11 ∷ 0 ∷ 0 ∷ 14 ∷ 0 ∷ 0 ∷ 15 ∷ 0 ∷ 0 ∷ 16 ∷ 0 ∷ 0 ∷ 17 ∷ 0 ∷ 0 ∷ 21 ∷ 0 ∷ [];
      lists = 2 ∷ 3 ∷ 0 ∷ 6 ∷ 0 ∷ 1 ∷ 1 ∷ 12 ∷ 13 ∷ [];
    })

-- quantifiers with and without variables and patterns
unfoldable pub quantified : Book
quantified =
    written (record {
      letters = ascii "px";
      names = 0 ∷ 1 ∷ 1 ∷ 1 ∷ [];
      types = [];
      constants = 0 ∷ 0 ∷ 1 ∷ 1 ∷ [];  -- p of Bool, x of Int
      functions = [];
      axioms = [];
      patterns = 0 ∷ 1 ∷ 0 ∷ 0 ∷ [];
      terms =
          3 ∷ 0 ∷ 0 ∷ 0 ∷ 0 ∷ 0 ∷ 0 ∷  -- 0: p
          8 ∷ 1 ∷ 0 ∷ 0 ∷ 0 ∷ 0 ∷ 0 ∷  -- 1: forall, no variables, no patterns, p
          3 ∷ 1 ∷ 0 ∷ 0 ∷ 0 ∷ 0 ∷ 0 ∷  -- 2: x, in pattern 0
          3 ∷ 0 ∷ 0 ∷ 0 ∷ 0 ∷ 0 ∷ 0 ∷  -- 3: p
          8 ∷ 0 ∷ 0 ∷ 0 ∷ 1 ∷ 1 ∷ 3 ∷  -- 4: exists, no variables, pattern 0, p
          3 ∷ 0 ∷ 0 ∷ 0 ∷ 0 ∷ 0 ∷ 0 ∷  -- 5: p
          8 ∷ 0 ∷ 2 ∷ 1 ∷ 4 ∷ 1 ∷ 5 ∷  -- 6: exists x, the empty pattern, p
          0 ∷ 0 ∷ 0 ∷ 0 ∷ 0 ∷ 0 ∷ 0 ∷  -- 7: false
          8 ∷ 1 ∷ 2 ∷ 2 ∷ 0 ∷ 0 ∷ 7 ∷ [];  -- 8: forall x and p, false
      contexts = [];
      lists = 2 ∷ 0 ∷ 1 ∷ 0 ∷ 1 ∷ [];  -- entry 1: pattern 0; entry 4: pattern 1, which is empty
    })

unfoldable pub books : Unit {0}
unfolding bytes32 contents bodies laid written sample small none nameless shapes literals explained cycle declaring quantified
books = tt
