-- Every symbol declared once: books that are told apart, and for each clause of the hypothesis one that is not, with a live assertion whose
-- symbol has not exactly one declaration, or whose operator or type is declared.
use Prim.Native.Nat.{ℕ}
use mathlib.Core.Path.{◌≡◌, refl}
use mathlib.Core.Bool.{Bool, true, false}
use mathlib.Core.List.{List, [], ◌∷◌, ◌++◌, map}
use mathlib.Core.Option.{Option, none, some}
use Rattle.basics.specs.Text.{Text, ascii}
use Rattle.book.specs.RExpr.{RExpr}
use Rattle.book.specs.Book.{Book}
use Rattle.smt_engines.specs.Command.{Command}
use Rattle.book_writer.specs.Growths.{record_term}
use Rattle.book_writer.specs.Writing.{lent}
use Rattle.solvers.specs.Calls.{move_to, ask_for, reply_with}
use Rattle.stack_rule.specs.Events.{Event, calls, writes, Trace, run}
use Rattle.declared_once.specs.Symbols.{sorts_in, sorts_of_types, sorts_of_variables, sorts_of, with_sorts, operator_symbols, symbols_of, operator_names, operators_of, declared_by, asserted, printed_name, plain_name, is_sort, same_space, same_name, named_by, declares_name, named_as, built_in_types, named_type, declares_type, declares_operator, times}
use Rattle.declared_once.specs.ToldApart.{same_type, literals_clash, literals_alike, symbols_clash, clash, apart, sort_of, term_entry, type_entries, constant_entries, function_entries, term_entries, entries_of, told_apart, prints_apart}
use Rattle.declared_once.specs.DeclaredOnce.{path_commands, goals_commands, commands_for, live_commands, together}
use Rattle.worked_examples.proofs.Everything.{everything}
use Rattle.worked_examples.proofs.Books.{books, written, sample, small}
use Rattle.worked_examples.proofs.Hosts.{hosts, dirty, blank, host}
use Rattle.worked_examples.proofs.Growths.{writing}

unfoldable naming : Unit {0}
unfolding sorts_in sorts_of_types sorts_of_variables sorts_of with_sorts operator_symbols symbols_of operator_names operators_of declared_by asserted printed_name plain_name is_sort same_space same_name named_by declares_name named_as built_in_types named_type declares_type declares_operator times same_type literals_clash literals_alike symbols_clash clash apart sort_of term_entry type_entries constant_entries function_entries term_entries entries_of told_apart prints_apart path_commands goals_commands commands_for live_commands together
naming = tt

-- ---- WHAT IS COUNTED: of each live assertion the live declarations of each of its symbols and of each of its operators' names
of_each : (RExpr → List ℕ) → Option RExpr → List ℕ
of_each f none = []
of_each f (some e) = f e

of_asserted : (RExpr → List ℕ) → List Command → List ℕ
of_asserted f [] = []
of_asserted f (c ∷ cs) = of_each f (asserted c) ++ of_asserted f cs

-- and the live declarations of Bool and Int; beside both hypotheses
pub record Counts : Type 0 where
  pub told : Bool
  pub apart : Bool
  pub symbols : List ℕ
  pub operators : List ℕ
  pub types : List ℕ

counted : Trace → Counts
counted t =
    let all = together (live_commands t.book t.due) in
    record {
      told = told_apart t.book;
      apart = prints_apart t.book;
      symbols = of_asserted (λ e. map (λ x. times (declares_name x) all) (symbols_of e [])) all;
      operators = of_asserted (λ e. map (λ n. times (declares_operator n) all) (operators_of e)) all;
      types = map (λ n. times (declares_type n) all) built_in_types;
    }

counts : (told apart : Bool) (symbols operators types : List ℕ) → Counts
counts b a s o t = record { told = b; apart = a; symbols = s; operators = o; types = t }

-- of a book that is told apart: each symbol once, and nothing else
once : (symbols operators : List ℕ) → Counts
once s o = counts true true s o (0 ∷ 0 ∷ [])

-- of one in which names clash
clashing : (symbols operators types : List ℕ) → Counts
clashing = counts false false

-- ---- BOOKS IN WHICH NODE 1 SAYS (= t0 t1)
equates : (letters : Text) (names types constants functions term0 term1 : List ℕ) → Book
equates letters names types constants functions term0 term1 =
    written (record {
      letters = letters;
      names = names;
      types = types;
      constants = constants;
      functions = functions;
      axioms = [];
      patterns = [];
      terms = term0 ++ term1 ++ (4 ∷ 0 ∷ 0 ∷ 2 ∷ 0 ∷ 0 ∷ 0 ∷ []);
      contexts = 0 ∷ 2 ∷ 0 ∷ [];
      lists = 0 ∷ 1 ∷ [];
    })

constant : ℕ → List ℕ
constant k = 3 ∷ k ∷ 0 ∷ 0 ∷ 0 ∷ 0 ∷ 0 ∷ []

literal : (name typ : ℕ) → List ℕ
literal name typ = 2 ∷ name ∷ typ ∷ 0 ∷ 0 ∷ 0 ∷ 0 ∷ []

of_constants : (letters : Text) (names types constants : List ℕ) → Book
of_constants letters names types constants = equates letters names types constants [] (constant 0) (constant 1)

-- x and y; x twice; x and |x|; red 40 and |red 40|; of a type T each, of which there are two; of a type Int; = and x
xy : Book
xy = of_constants (ascii "=xy") (0 ∷ 1 ∷ 1 ∷ 1 ∷ 2 ∷ 1 ∷ []) [] (1 ∷ 1 ∷ 2 ∷ 1 ∷ [])

twice : Book
twice = of_constants (ascii "=x") (0 ∷ 1 ∷ 1 ∷ 1 ∷ []) [] (1 ∷ 1 ∷ 1 ∷ 1 ∷ [])

barred : Book
barred = of_constants (ascii "=|x|") (0 ∷ 1 ∷ 2 ∷ 1 ∷ 1 ∷ 3 ∷ []) [] (1 ∷ 1 ∷ 2 ∷ 1 ∷ [])

yarns : Book
yarns = of_constants (ascii "=|red 40|") (0 ∷ 1 ∷ 2 ∷ 6 ∷ 1 ∷ 8 ∷ []) [] (1 ∷ 1 ∷ 2 ∷ 1 ∷ [])

two_types : Book
two_types = of_constants (ascii "=xyT") (0 ∷ 1 ∷ 1 ∷ 1 ∷ 2 ∷ 1 ∷ 3 ∷ 1 ∷ []) (3 ∷ 3 ∷ []) (1 ∷ 2 ∷ 2 ∷ 3 ∷ [])

type_int : Book
type_int = of_constants (ascii "=xyInt") (0 ∷ 1 ∷ 1 ∷ 1 ∷ 2 ∷ 1 ∷ 3 ∷ 3 ∷ []) (3 ∷ []) (1 ∷ 2 ∷ 2 ∷ 1 ∷ [])

operator_too : Book
operator_too = of_constants (ascii "=x") (0 ∷ 1 ∷ 1 ∷ 1 ∷ []) [] (1 ∷ 1 ∷ 0 ∷ 1 ∷ [])

-- a constant and a function f
function_too : Book
function_too =
    equates (ascii "=f") (0 ∷ 1 ∷ 1 ∷ 1 ∷ []) [] (1 ∷ 1 ∷ []) (1 ∷ 1 ∷ 0 ∷ 0 ∷ 0 ∷ 0 ∷ []) (constant 0) (5 ∷ 0 ∷ 0 ∷ 0 ∷ 0 ∷ 0 ∷ 0 ∷ [])

-- a of Int twice; a constant |a:int| and a of Int; a of Int and of a type int; a:b of c and a of b:c; a of Int and of Bool, which print
-- differently
again : Book
again = equates (ascii "=a") (0 ∷ 1 ∷ 1 ∷ 1 ∷ []) [] [] [] (literal 1 1) (literal 1 1)

besides : Book
besides = equates (ascii "=|a:int|") (0 ∷ 1 ∷ 1 ∷ 7 ∷ 2 ∷ 1 ∷ []) [] (1 ∷ 1 ∷ []) [] (constant 0) (literal 2 1)

two_kinds : Book
two_kinds = equates (ascii "=aint") (0 ∷ 1 ∷ 1 ∷ 1 ∷ 2 ∷ 3 ∷ []) (2 ∷ []) [] [] (literal 1 1) (literal 1 2)

colons : Book
colons = equates (ascii "=a:b:c") (0 ∷ 1 ∷ 1 ∷ 3 ∷ 5 ∷ 1 ∷ 1 ∷ 1 ∷ 3 ∷ 3 ∷ []) (2 ∷ 4 ∷ []) [] [] (literal 1 2) (literal 3 3)

int_and_bool : Book
int_and_bool = equates (ascii "=a") (0 ∷ 1 ∷ 1 ∷ 1 ∷ []) [] [] [] (literal 1 1) (literal 1 0)

-- ---- EDGES
-- node 1 says (= (let ((x 3)) x) a), and node 2 below it (= x a): x is bound in one and free in the other, the literal a is used again
let_book : Book
let_book =
    written (record {
      letters = ascii "=xa";
      names = 0 ∷ 1 ∷ 1 ∷ 1 ∷ 2 ∷ 1 ∷ [];
      types = [];
      constants = 1 ∷ 1 ∷ [];
      functions = [];
      axioms = [];
      patterns = [];
      terms =
          1 ∷ 3 ∷ 0 ∷ 0 ∷ 0 ∷ 0 ∷ 0 ∷  -- 0: 3
          3 ∷ 0 ∷ 0 ∷ 0 ∷ 0 ∷ 0 ∷ 0 ∷  -- 1: x
          7 ∷ 0 ∷ 0 ∷ 1 ∷ 0 ∷ 0 ∷ 0 ∷  -- 2: (let ((x 3)) x)
          2 ∷ 2 ∷ 1 ∷ 0 ∷ 0 ∷ 0 ∷ 0 ∷  -- 3: a of Int
          4 ∷ 0 ∷ 0 ∷ 2 ∷ 0 ∷ 0 ∷ 0 ∷  -- 4: (= (let ..) a)
          3 ∷ 0 ∷ 0 ∷ 0 ∷ 0 ∷ 0 ∷ 0 ∷  -- 5: x
          2 ∷ 2 ∷ 1 ∷ 0 ∷ 0 ∷ 0 ∷ 0 ∷  -- 6: a of Int
          4 ∷ 0 ∷ 2 ∷ 2 ∷ 0 ∷ 0 ∷ 0 ∷ [];  -- 7: (= x a)
      contexts = 0 ∷ 4 ∷ 0 ∷ 1 ∷ 7 ∷ 0 ∷ [];
      lists = 2 ∷ 3 ∷ 5 ∷ 6 ∷ [];
    })

-- node 1 says (forall ((v T)) (! v :pattern (v))): T is declared, v is not
bound_book : Book
bound_book =
    written (record {
      letters = ascii "vT";
      names = 0 ∷ 1 ∷ 1 ∷ 1 ∷ [];
      types = 1 ∷ [];
      constants = 0 ∷ 2 ∷ [];
      functions = [];
      axioms = [];
      patterns = 2 ∷ 1 ∷ [];
      terms =
          3 ∷ 0 ∷ 0 ∷ 0 ∷ 0 ∷ 0 ∷ 0 ∷  -- 0: v, in the pattern
          3 ∷ 0 ∷ 0 ∷ 0 ∷ 0 ∷ 0 ∷ 0 ∷  -- 1: v
          8 ∷ 1 ∷ 0 ∷ 1 ∷ 1 ∷ 1 ∷ 1 ∷ [];  -- 2: (forall ..)
      contexts = 0 ∷ 2 ∷ 0 ∷ [];
      lists = 0 ∷ 0 ∷ 0 ∷ [];
    })

move : ℕ → Event
move n = calls (move_to (host 200 9) n)

asking : Event
asking = calls (ask_for (host 400 9) 3 18)

proved : Event
proved = calls (reply_with (host 200 9) true (ascii "unsat"))

-- Record of the goal below node 2, without a trace
recording : Event
recording = writes (lent (record_term 2 18 0 none) dirty (blank 2000))

at1 : Book → Counts
at1 b = counted (run b (move 1 ∷ []))

unfoldable examples : Unit {0}
unfolding everything books hosts writing naming of_each of_asserted counted counts once clashing equates constant literal of_constants xy twice barred yarns two_types type_int operator_too function_too again besides two_kinds colons int_and_bool let_book bound_book move asking proved recording at1
examples = tt

-- what is counted, and what it must be
unfoldable pub table : List (Counts × Counts)
unfolding examples
table =
    (at1 xy, once (1 ∷ 1 ∷ []) (0 ∷ []))
    ∷ (at1 again, once (1 ∷ 1 ∷ []) (0 ∷ []))
    ∷ (at1 twice, clashing (2 ∷ 2 ∷ []) (0 ∷ []) (0 ∷ 0 ∷ []))
    ∷ (at1 barred, clashing (2 ∷ 2 ∷ []) (0 ∷ []) (0 ∷ 0 ∷ []))
    ∷ (at1 yarns, clashing (2 ∷ 2 ∷ []) (0 ∷ []) (0 ∷ 0 ∷ []))
    ∷ (at1 function_too, clashing (2 ∷ 2 ∷ []) (0 ∷ []) (0 ∷ 0 ∷ []))
    ∷ (at1 besides, clashing (2 ∷ 2 ∷ []) (0 ∷ []) (0 ∷ 0 ∷ []))
    ∷ (at1 two_kinds, clashing (1 ∷ 1 ∷ 0 ∷ []) (0 ∷ []) (0 ∷ 0 ∷ []))
    ∷ (at1 colons, clashing (1 ∷ 1 ∷ 1 ∷ 0 ∷ []) (0 ∷ []) (0 ∷ 0 ∷ []))
    ∷ (at1 int_and_bool, counts false true (1 ∷ 1 ∷ []) (0 ∷ []) (0 ∷ 0 ∷ []))
    ∷ (at1 two_types, clashing (1 ∷ 2 ∷ 1 ∷ 2 ∷ []) (0 ∷ []) (0 ∷ 0 ∷ []))
    ∷ (at1 type_int, clashing (1 ∷ 1 ∷ 1 ∷ []) (0 ∷ []) (0 ∷ 1 ∷ []))
    ∷ (at1 operator_too, clashing (1 ∷ 1 ∷ []) (1 ∷ []) (0 ∷ 0 ∷ []))
    -- the sample: f with its axiom, at node 2; and of the goal at node 3, beside y
    ∷ (counted (run sample (move 2 ∷ [])), once (1 ∷ 1 ∷ 1 ∷ 1 ∷ 1 ∷ []) (0 ∷ 0 ∷ 0 ∷ []))
    ∷ (counted (run sample (move 2 ∷ asking ∷ [])), once (1 ∷ 1 ∷ 1 ∷ 1 ∷ 1 ∷ []) (0 ∷ 0 ∷ 0 ∷ 0 ∷ []))
    -- a in a pattern of no variables; %tag beside t of T
    ∷ (at1 small, once (1 ∷ []) [])
    ∷ (counted (run small (move 2 ∷ [])), once (1 ∷ 1 ∷ []) (0 ∷ []))
    ∷ (counted (run let_book (move 2 ∷ [])), once (1 ∷ 1 ∷ 1 ∷ []) (0 ∷ 0 ∷ []))
    ∷ (at1 bound_book, once (1 ∷ []) [])
    -- a question's declarations go with it and come again; a pop, and another branch declares the same again
    ∷ (counted (run sample (asking ∷ proved ∷ asking ∷ [])), once (1 ∷ 1 ∷ 1 ∷ 1 ∷ 1 ∷ []) (0 ∷ 0 ∷ 0 ∷ 0 ∷ []))
    ∷ (counted (run sample (move 2 ∷ move 3 ∷ move 2 ∷ [])), once (1 ∷ 1 ∷ 1 ∷ 1 ∷ 1 ∷ []) (0 ∷ 0 ∷ 0 ∷ []))
    -- a book that grows by Record between two calls
    ∷ (counted (run sample (move 2 ∷ recording ∷ move 4 ∷ [])), once (1 ∷ 1 ∷ 1 ∷ 1 ∷ 1 ∷ 1 ∷ 1 ∷ 1 ∷ []) (0 ∷ 0 ∷ 0 ∷ 0 ∷ 0 ∷ []))
    ∷ []

pub table_holds : map (λ e. e.0) table ≡ map (λ e. e.1) table
unfolding table
table_holds = refl
