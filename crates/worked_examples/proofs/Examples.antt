-- Document 01, "A session whole, and small examples": P1 to P10 and the whole session, as one table. All of it from book bytes, by the calls.
use Prim.Native.Nat.{ℕ, ◌+◌}
use mathlib.Core.Path.{◌≡◌, refl}
use mathlib.Core.Bool.{true}
use mathlib.Core.List.{List, [], ◌∷◌, map}
use Rattle.basics.specs.Text.{ascii}
use Rattle.book.specs.Book.{Book}
use Rattle.solver_expr.specs.SolverExpr.{SExprPrintConfig, flat}
use Rattle.solver_expr.specs.Print.{print_call}
use Rattle.rsolver.specs.LevelState.{constant_places, function_places, axiom_places}
use Rattle.solvers.specs.declared.Owed.TheVariants.{Nothing, Reply}
use Rattle.solvers.specs.declared.Session.{Session}
use Rattle.solvers.specs.Session.{session, fresh_session}
use Rattle.solvers.specs.Calls.{Call, move_to, ask_for, reply_with}
use Rattle.solvers.specs.Left.{called}
use Rattle.worked_examples.proofs.Everything.{everything}
use Rattle.worked_examples.proofs.Books.{books, sample, small}
use Rattle.worked_examples.proofs.Hosts.{hosts, dirty, blank, host, shows, writes, proves, levels, Seen, print, call, texts, ran}

-- a term of the small book, in a buffer of 40 bytes
printed : ℕ → SExprPrintConfig → Seen
printed t config = print (print_call small dirty t 0 config (blank 40))

with_newlines : SExprPrintConfig
with_newlines = record { newlines = true; indent = 0 }

-- a call, after others on the same book from a fresh session
after : Book → List Call → Call → Seen
after b before c = call (called b (ran b before).now c)

-- document 01's calls, and the reply unsat to its ask
move2 : Call
move2 = move_to (host 200 9) 2

move3 : Call
move3 = move_to (host 200 9) 3

ask3 : Call
ask3 = ask_for (host 200 9) 3 18

unsat : Call
unsat = reply_with (host 200 9) true (ascii "unsat")

-- the session at node 2: x is declared at level 1; y, f and its axiom at level 2
at2 : Session
at2 =
    session 2 0 Nothing
    (levels ((constant_places + 0, 1) ∷ (constant_places + 1, 2) ∷ (function_places + 0, 2) ∷ (axiom_places + 0, 2) ∷ []))

-- at node 3, and while the reply to goal 18 is owed there: what the goal declares is not stored
at3 : Session
at3 = session 3 0 Nothing (levels ((constant_places + 0, 1) ∷ []))

asked3 : Session
asked3 = session 3 18 Reply (levels ((constant_places + 0, 1) ∷ []))

-- P7: a is declared at level 1. P8: T and t are
at_a : Session
at_a = session 1 0 Nothing (levels ((constant_places + 0, 1) ∷ []))

at_t : Session
at_t = session 2 0 Nothing (levels ((0, 1) ∷ (constant_places + 3, 1) ∷ []))

-- what is computed, and what is expected
pub table : List (Seen × Seen)
unfolding everything books hosts printed with_newlines after move2 move3 ask3 unsat at2 at3 asked3 at_a at_t
table =
    -- P1 to P6
    (printed 0 flat, print (shows 40 (ascii "0")))
    ∷ (printed 1 flat, print (shows 40 (ascii "(- 5)")))
    ∷ (printed 2 flat, print (shows 40 (ascii "(- 9223372036854775808)")))
    ∷ (printed 3 flat, print (shows 40 (ascii "and")))
    ∷ (printed 7 with_newlines, print (shows 40 (ascii "(and\n  a\n  (not\n    b))")))
    ∷ (printed 10 flat, print (shows 40 (ascii "(let ((v 3)) v)")))
    -- P7: the body alone is printed and asserted, and the pattern's a is declared
    ∷ (printed 13 flat, print (shows 40 (ascii "true")))
    ∷ (
      after small [] (move_to (host 99 0) 1),
      call (writes 99 0 at_a (ascii "(push 1)\n(declare-fun a () Bool)\n(assert true)\n")),
    )
    -- P8
    ∷ (
      after small [] (move_to (host 99 0) 2),
      call (writes 99 0 at_t (ascii "(push 1)\n(declare-sort T 0)\n(declare-fun t () T)\n(assert (= t 2))\n")),
    )
    -- P9, with no room at all
    ∷ (after sample (move2 ∷ []) (move_to (host 0 0) 2), call (writes 0 0 at2 []))
    -- P10, with just the room
    ∷ (after sample (move2 ∷ []) (move_to (host 16 0) 0), call (writes 16 0 fresh_session (ascii "(pop 1)\n(pop 1)\n")))
    -- the session, call by call
    ∷ (
      after sample [] move2,
      call (writes 200 9 at2 (ascii "(push 1)\n(declare-fun x () Int)\n(assert (< 0 x))\n(push 1)\n(declare-fun y () Int)\n(declare-fun f (Int) Int)\n(assert (forall ((z Int)) (= (f z) z)))\n(assert (= y (f x)))\n")),
    )
    ∷ (after sample (move2 ∷ []) move3, call (writes 200 9 at3 (ascii "(pop 1)\n(push 1)\n(assert (< x 9))\n")))
    ∷ (
      after sample (move2 ∷ move3 ∷ []) ask3,
      call (writes 200 9 asked3 (ascii "(push 1)\n(declare-fun f (Int) Int)\n(assert (forall ((z Int)) (= (f z) z)))\n(declare-fun y () Int)\n(push 1)\n(assert (not (< 0 (f y))))\n(check-sat)\n")),
    )
    ∷ (after sample (move2 ∷ move3 ∷ ask3 ∷ []) unsat, call (proves 200 9 at3 (ascii "(pop 1)\n(pop 1)\n")))
    -- and its text whole
    ∷ (
      texts (ran sample (move2 ∷ move3 ∷ ask3 ∷ unsat ∷ [])).text,
      texts (ascii "(push 1)\n(declare-fun x () Int)\n(assert (< 0 x))\n(push 1)\n(declare-fun y () Int)\n(declare-fun f (Int) Int)\n(assert (forall ((z Int)) (= (f z) z)))\n(assert (= y (f x)))\n(pop 1)\n(push 1)\n(assert (< x 9))\n(push 1)\n(declare-fun f (Int) Int)\n(assert (forall ((z Int)) (= (f z) z)))\n(declare-fun y () Int)\n(push 1)\n(assert (not (< 0 (f y))))\n(check-sat)\n(pop 1)\n(pop 1)\n"),
    )
    ∷ []

pub examples : map (λ e. e.0) table ≡ map (λ e. e.1) table
unfolding table
examples = refl
