-- Corners of the calls: layouts, full buffers, the empty book, traces; and of what is declared. R n is point n of 03-readings.md.
use Prim.Native.Nat.{ℕ, ◌+◌}
use mathlib.Core.Path.{◌≡◌, refl}
use mathlib.Core.Bool.{true, false}
use mathlib.Core.List.{List, [], ◌∷◌, map}
use lib.ListN.{replicate}
use Rattle.basics.specs.Text.{Text, ascii}
use Rattle.basics.specs.Basics.{nat2_string, comma, seq_to_string}
use Rattle.basics.specs.Outcome.{refused, accepted}
use Rattle.book.specs.Book.{Book, no_term}
use Rattle.book_test.specs.BookTest.{book_test_call}
use Rattle.solver_expr.specs.SolverExpr.{SExpr, S, []ˢ, ◌∷ˢ◌, flat, to_string, boolean, eq, negation, big_and}
use Rattle.solver_expr.specs.Print.{print_call}
use Rattle.rsolver.specs.LevelState.{constant_places, function_places, literal_places}
use Rattle.rsolver.specs.Trace.{trace_call}
use Rattle.solvers.specs.declared.Owed.{Owed}
use Rattle.solvers.specs.declared.Owed.TheVariants.{Nothing, Reply}
use Rattle.solvers.specs.declared.Session.{Session}
use Rattle.solvers.specs.Session.{session, fresh_session}
use Rattle.solvers.specs.Calls.{Call, move_to, ask_for, reply_with}
use Rattle.solvers.specs.Left.{called}
use Rattle.worked_examples.proofs.Everything.{everything}
use Rattle.worked_examples.proofs.Books.{books, small, none, shapes, literals, explained, cycle, declaring}
use Rattle.worked_examples.proofs.Hosts.{hosts, dirty, clean, blank, host, shows, hides, writes, proves, refuses, levels, Seen, test, print, call, texts, ran}

-- ---- LAYOUTS
-- a term of every kind, with newlines and an indent, or flat
lay : (t indent : ℕ) → Seen
lay t indent = print (print_call shapes dirty t 0 (record { newlines = true; indent = indent }) (blank 150))

line : (t tag indent : ℕ) → Seen
line t tag indent = print (print_call shapes dirty t tag (record { newlines = false; indent = indent }) (blank 150))

shown : Text → Seen
shown text = print (shows 150 text)

-- R 51 to 53, but for a row of parts at the largest indents: 2^64 spaces cannot be computed
pub layouts : List (Seen × Seen)
unfolding everything books hosts lay line shown
layouts =
    (lay 0 0, shown (ascii "true"))
    ∷ (lay 1 0, shown (ascii "12"))
    ∷ (lay 2 0, shown (ascii "|a:T|"))
    ∷ (lay 3 0, shown (ascii "v"))
    ∷ (lay 5 0, shown (ascii "(+\n  12\n  v)"))
    ∷ (lay 6 0, shown (ascii "(f\n  |a:T|)"))
    ∷ (lay 9 0, shown (ascii "(ite\n  true\n  (+\n    12\n    v)\n  v)"))
    ∷ (lay 10 0, shown (ascii "(let\n  ((v\n    v))\n  (ite\n    true\n    (+\n      12\n      v)\n    v))"))
    ∷ (
      lay 14 0,
      shown (ascii "(forall\n  ((v\n    Int)\n    (w\n      T))\n  (!\n    (=\n      (f\n        |a:T|)\n      |red 40|)\n    :pattern\n    (w\n      v)\n    :pattern\n    ()))"),
    )
    -- without variables the body alone; the same variable twice, and an empty pattern alone
    ∷ (lay 15 0, shown (ascii "(let\n  ((v\n    v))\n  (ite\n    true\n    (+\n      12\n      v)\n    v))"))
    ∷ (lay 17 0, shown (ascii "(exists\n  ((v\n    Int)\n    (v\n      Int))\n  (!\n    false\n    :pattern\n    ()))"))
    -- a name that is no simple symbol; an empty one, an operator's with and without arguments
    ∷ (lay 4 0, shown (ascii "|red 40|"))
    ∷ (lay 19 0, shown (ascii "(()\n  v)"))
    ∷ (lay 20 0, shown (ascii "()"))
    -- an indent of one space, and the largest: it stands only behind a newline
    ∷ (lay 5 1, shown (ascii "(+\n   12\n   v)"))
    ∷ (lay 9 1, shown (ascii "(ite\n   true\n   (+\n     12\n     v)\n   v)"))
    ∷ (lay 3 0xFFFFFFFFFFFFFFFF, shown (ascii "v"))
    ∷ (lay 4 0xFFFFFFFFFFFFFFFF, shown (ascii "|red 40|"))
    ∷ (lay 20 0xFFFFFFFFFFFFFFFF, shown (ascii "()"))
    -- flat, where the indent is ignored; and %tag, a literal and not an operator. R 45
    ∷ (line 14 0 0, shown (ascii "(forall ((v Int) (w T)) (! (= (f |a:T|) |red 40|) :pattern (w v) :pattern ()))"))
    ∷ (line 9 0 0xFFFFFFFFFFFFFFFF, shown (ascii "(ite true (+ 12 v) v)"))
    ∷ (line 21 0 0, shown (ascii "0"))
    ∷ (line 21 0xFFFFFFFFFFFFFFFF 0, shown (ascii "18446744073709551615"))
    ∷ (line 22 7 0, shown (ascii "%tag"))
    ∷ []

pub layouts_hold : map (λ e. e.0) layouts ≡ map (λ e. e.1) layouts
unfolding layouts
layouts_hold = refl

-- what no call reaches: Comma, SeqToString, Eq and BigAnd
a : SExpr
a = S (ascii "a")

comma2 : Text
comma2 = ascii ", "

pub builders : List (Text × Text)
unfolding everything a comma2
builders =
    (comma [] comma2, [])
    ∷ (comma (ascii "a" ∷ []) comma2, ascii "a")
    ∷ (comma (ascii "a" ∷ [] ∷ ascii "b" ∷ []) comma2, ascii "a, , b")
    ∷ (seq_to_string (1 ∷ 23 ∷ []) nat2_string [], ascii "123")
    ∷ (to_string (eq a (negation a)) flat, ascii "(= a (not a))")
    ∷ (to_string (big_and []ˢ) flat, ascii "true")
    ∷ (to_string (big_and (a ∷ˢ []ˢ)) flat, ascii "a")
    ∷ (to_string (big_and (a ∷ˢ boolean false ∷ˢ a ∷ˢ []ˢ)) flat, ascii "(and a false a)")
    ∷ []

pub builders_hold : map (λ e. e.0) builders ≡ map (λ e. e.1) builders
unfolding builders
builders_hold = refl

-- ---- BUFFERS, THE EMPTY BOOK, TRACES
fresh : Book → Call → Seen
fresh b c = call (called b fresh_session c)

-- term 7 of the small book is (and a (not b)), 15 bytes
print_in : (room : ℕ) → Seen
print_in room = print (print_call small dirty 7 0 flat (blank room))

trace_in : (node room : ℕ) → Seen
trace_in node room = print (trace_call small dirty node (blank room))

-- the session at node 1 of the small book: a is declared at level 1
at_a : Session
at_a = session 1 0 Nothing (levels ((constant_places + 0, 1) ∷ []))

pub limits : List (Seen × Seen)
unfolding everything books hosts fresh print_in trace_in at_a
limits =
    -- a text that fills its buffer, and one byte less; a move's too (47 bytes). R 27
    (print_in 15, print (shows 15 (ascii "(and a (not b))")))
    ∷ (print_in 14, print (hides 14 10))
    ∷ (print_in 0, print (hides 0 10))
    ∷ (fresh small (move_to (host 47 0) 1), call (writes 47 0 at_a (ascii "(push 1)\n(declare-fun a () Bool)\n(assert true)\n")))
    ∷ (fresh small (move_to (host 46 0) 1), call (refuses 46 0 fresh_session 10))
    -- a term that is not in the book, before 10
    ∷ (print (print_call small dirty 17 0 flat (blank 0)), print (hides 0 7))
    -- a bad book, before 7
    ∷ (print (print_call [] dirty 17 0 flat (blank 0)), print (hides 0 2))
    -- scratch one byte short is not touched, and a longer one is zero to its end. R 18
    ∷ (
      print (print_call small (replicate 127 0x55) 0 0 flat (blank 8)),
      print (record { answer = refused 1; text = blank 8; scratch = replicate 127 0x55 }),
    )
    ∷ (
      print (print_call small (replicate 129 0x55) 0 0 flat (blank 1)),
      print (record { answer = accepted 1; text = ascii "0"; scratch = replicate 129 0 }),
    )
    -- 80 bytes without records have only the root. R 21: a move's term is no term of the call
    ∷ (test (book_test_call none dirty), test (record { answer = accepted tt; scratch = clean }))
    ∷ (fresh none (move_to (host 0 0) 0), call (writes 0 0 fresh_session []))
    ∷ (fresh none (move_to (host 9 9) 1), call (refuses 9 9 fresh_session 7))
    ∷ (fresh none (ask_for (host 99 9) 0 0), call (refuses 99 9 fresh_session 7))
    ∷ (print (print_call none dirty 0 0 flat (blank 9)), print (hides 9 7))
    ∷ (print (trace_call none dirty 0 (blank 0)), print (shows 0 []))
    ∷ (print (trace_call none dirty 1 (blank 9)), print (hides 9 7))
    -- traces from the root down: T, then an empty name; none at node 2, nor at the root. R 54
    ∷ (trace_in 3 7, print (shows 7 (ascii "  T\n  \n")))
    ∷ (trace_in 3 6, print (hides 6 10))
    ∷ (trace_in 1 9, print (shows 9 (ascii "  T\n")))
    ∷ (trace_in 2 9, print (shows 9 []))
    ∷ (trace_in 0 9, print (shows 9 []))
    ∷ (trace_in 4 9, print (hides 9 7))
    ∷ []

pub limits_hold : map (λ e. e.0) limits ≡ map (λ e. e.1) limits
unfolding limits
limits_hold = refl

-- ---- WHAT IS DECLARED, AND WHICH AXIOMS ARE SENT
-- moves from a fresh session, one after the other: all their text
moves : Book → List ℕ → Seen
moves b nodes = texts (ran b (map (move_to (host 300 0)) nodes)).text

-- what a move leaves after others, in a buffer of 120 bytes
after : Book → List ℕ → ℕ → Seen
after b nodes node = call (called b (ran b (map (move_to (host 300 0)) nodes)).now (move_to (host 120 0) node))

-- the axiom's term is missing; only f lists it
missing : Book
missing = explained no_term 0

-- f and g declared at node 1: no session of that book, since no fresh one gets there
forged : Session
forged = session 1 0 Nothing (levels ((function_places + 0, 1) ∷ (function_places + 1, 1) ∷ []))

-- at node 3 of that book, where g is declared
at_g : (goal : ℕ) → Owed → Session
at_g goal owed = session 3 goal owed (levels ((function_places + 1, 1) ∷ []))

pub declared : List (Seen × Seen)
unfolding everything books hosts moves after fresh missing forged at_g
declared =
    -- two literals of one text: one declaration, of the first one's type alone, and its level is kept at the first term. R 34, 46
    (
      after literals [] 1,
      call (writes 120 0 (session 1 0 Nothing (levels ((0, 1) ∷ (literal_places + 0, 1) ∷ []))) (ascii "(push 1)\n(declare-sort c 0)\n(declare-fun |a:b:c| () c)\n(assert (= |a:b:c| |a:b:c|))\n")),
    )
    -- then a constant of that name, which is declared too; %tag is not, nor its type, and counts c, the name and the constant. R 45
    ∷ (
      after literals (1 ∷ []) 2,
      call (writes 120 0 (session 2 0 Nothing (levels ((0, 1) ∷ (literal_places + 0, 1) ∷ (constant_places + 0, 2) ∷ []))) (ascii "(push 1)\n(declare-fun |a:b:c| () Int)\n(assert (= 3 |a:b:c|))\n")),
    )
    -- the two literals the other way round
    ∷ (
      after literals (1 ∷ 2 ∷ []) 3,
      call (writes 120 0 (session 3 0 Nothing (levels ((1, 1) ∷ (literal_places + 6, 1) ∷ []))) (ascii "(pop 1)\n(pop 1)\n(push 1)\n(declare-sort |b:c| 0)\n(declare-fun |a:b:c| () |b:c|)\n(assert (= |a:b:c| |a:b:c|))\n")),
    )
    -- literals of Bool and Int, R 15; %tag where nothing is declared
    ∷ (
      moves literals (4 ∷ []),
      texts (ascii "(push 1)\n(declare-fun |a:bool| () Bool)\n(declare-fun |a:int| () Int)\n(assert (= |a:bool| |a:int|))\n"),
    )
    ∷ (moves literals (5 ∷ []), texts (ascii "(push 1)\n(assert 0)\n"))
    -- an axiom explains f and g, g comes later: never sent where only f lists it, sent where g does too or g comes first. R 49
    ∷ (
      texts (ran (explained 2 0) (move_to (host 99 0) 1 ∷ ask_for (host 99 0) 1 8 ∷ [])).text,
      texts (ascii "(push 1)\n(declare-fun f () Int)\n(declare-fun g () Int)\n(assert (< f g))\n(push 1)\n(push 1)\n(assert (not (< g f)))\n(check-sat)\n"),
    )
    ∷ (
      moves (explained 2 1) (1 ∷ []),
      texts (ascii "(push 1)\n(declare-fun f () Int)\n(declare-fun g () Int)\n(assert (= f g))\n(assert (< f g))\n"),
    )
    ∷ (
      moves (explained 2 0) (2 ∷ []),
      texts (ascii "(push 1)\n(declare-fun g () Int)\n(declare-fun f () Int)\n(assert (= f g))\n(assert (< g f))\n"),
    )
    -- missing, it gives 9 though it would not be sent, also before 10, also in a goal; not where g alone is declared. R 25, 26
    ∷ (fresh missing (move_to (host 300 0) 1), call (refuses 300 0 fresh_session 9))
    ∷ (fresh missing (move_to (host 0 0) 1), call (refuses 0 0 fresh_session 9))
    ∷ (fresh missing (ask_for (host 300 0) 3 3), call (refuses 300 0 fresh_session 9))
    ∷ (moves missing (3 ∷ []), texts (ascii "(push 1)\n(declare-fun g () Int)\n(assert g)\n"))
    -- so no session is there, R 30; but an open question's goal is only looked for in the book, R 31
    ∷ (call (called missing forged (move_to (host 9 0) 0)), call (refuses 9 0 forged 20))
    ∷ (
      call (called missing (at_g 3 Reply) (reply_with (host 16 0) true (ascii "unsat"))),
      call (proves 16 0 (at_g 0 Nothing) (ascii "(pop 1)\n(pop 1)\n")),
    )
    -- axioms in a cycle, the outer v not excluded in them, an axiom counts itself, no Explains, no arity. R 15, 45, 49
    ∷ (
      moves cycle (1 ∷ 2 ∷ []),
      texts (ascii "(push 1)\n(declare-fun f (Int) Int)\n(declare-fun g () Int)\n(assert (< (f 0) 4))\n(declare-fun v () Int)\n(assert (= (g v) 5))\n(assert (forall ((v Int)) (f v)))\n(push 1)\n(assert 5)\n"),
    )
    -- a function: its types, itself, its axiom, then its arguments. R 48
    ∷ (
      moves declaring (1 ∷ []),
      texts (ascii "(push 1)\n(declare-sort T 0)\n(declare-sort U 0)\n(declare-sort W 0)\n(declare-fun f (T U) W)\n(assert true)\n(declare-sort X 0)\n(declare-fun c () X)\n(assert (f c))\n"),
    )
    -- a quantified constant's own type; free below, the constant is declared there. R 50
    ∷ (
      moves declaring (2 ∷ 3 ∷ []),
      texts (ascii "(push 1)\n(declare-sort T 0)\n(assert (forall ((w T)) true))\n(push 1)\n(declare-fun w () T)\n(assert w)\n"),
    )
    -- let: the constant's type; the constant itself only for the right side
    ∷ (moves declaring (4 ∷ []), texts (ascii "(push 1)\n(declare-sort U 0)\n(assert (let ((v 3)) v))\n"))
    ∷ (moves declaring (5 ∷ []), texts (ascii "(push 1)\n(declare-sort U 0)\n(declare-fun v () U)\n(assert (let ((v v)) v))\n"))
    -- its body asked alone: v is free. R 14
    ∷ (
      texts (ran declaring (ask_for (host 99 0) 0 7 ∷ [])).text,
      texts (ascii "(push 1)\n(declare-sort U 0)\n(declare-fun v () U)\n(push 1)\n(assert (not v))\n(check-sat)\n"),
    )
    -- names that are no simple symbols go between bars, but for an operator's; the type is raw inside a literal's. An empty operator is (). R 47
    ∷ (
      moves declaring (6 ∷ []),
      texts (ascii "(push 1)\n(declare-sort |red 40| 0)\n(declare-fun |let| () |red 40|)\n(declare-fun |:red 40| () |red 40|)\n(assert (() |let| |:red 40|))\n"),
    )
    ∷ (
      moves declaring (7 ∷ []),
      texts (ascii "(push 1)\n(declare-sort |red 40| 0)\n(declare-fun |a b| (|red 40|) Int)\n(assert |a b|)\n"),
    )
    -- equal siblings are two nodes
    ∷ (moves declaring (8 ∷ 9 ∷ []), texts (ascii "(push 1)\n(assert true)\n(pop 1)\n(push 1)\n(assert true)\n"))
    -- ite: guard, then, else
    ∷ (
      moves declaring (10 ∷ []),
      texts (ascii "(push 1)\n(declare-sort X 0)\n(declare-fun c () X)\n(declare-sort T 0)\n(declare-fun w () T)\n(declare-sort U 0)\n(declare-fun v () U)\n(assert (ite c w v))\n"),
    )
    ∷ []

pub declared_hold : map (λ e. e.0) declared ≡ map (λ e. e.1) declared
unfolding declared
declared_hold = refl
