-- Negative numbers in the script: a minus applied to a numeral, wherever they stand, and broken like any application. From book bytes, by the calls.
use Prim.Native.Nat.{ℕ, ◌^◌, ◌-◌}
use mathlib.Core.Path.{◌≡◌, refl}
use mathlib.Core.Bool.{true}
use mathlib.Core.List.{List, [], ◌∷◌, map}
use Rattle.basics.specs.Text.{ascii}
use Rattle.book.specs.Book.{Book}
use Rattle.solver_expr.specs.SolverExpr.{SExprPrintConfig, flat}
use Rattle.solver_expr.specs.Print.{print_call}
use Rattle.solvers.specs.Calls.{ask_for}
use Rattle.worked_examples.proofs.Everything.{everything}
use Rattle.worked_examples.proofs.Books.{books, written, small}
use Rattle.worked_examples.proofs.Hosts.{hosts, dirty, blank, host, shows, Seen, print, texts, ran}

-- v and a constant called -5, both of Int; node 1 says term 13
boxes : Book
boxes =
    written (record {
      letters = ascii "+-5v";
      names = 0 ∷ 1 ∷ 1 ∷ 1 ∷ 1 ∷ 2 ∷ 3 ∷ 1 ∷ [];  -- +, -, -5, v
      types = [];
      constants = 3 ∷ 1 ∷ 2 ∷ 1 ∷ [];
      functions = [];
      axioms = [];
      patterns = 2 ∷ 2 ∷ [];
      terms =
          1 ∷ 0 ∷ 0 ∷ 0 ∷ 0 ∷ 0 ∷ 0 ∷  -- 0: 0
          1 ∷ 1 ∷ 0 ∷ 0 ∷ 0 ∷ 0 ∷ 0 ∷  -- 1: 1
          1 ∷ 0xFFFFFFFF ∷ 0xFFFFFFFF ∷ 0 ∷ 0 ∷ 0 ∷ 0 ∷  -- 2: -1
          1 ∷ 0xFFFFFFFF ∷ 0x7FFFFFFF ∷ 0 ∷ 0 ∷ 0 ∷ 0 ∷  -- 3: the largest number
          1 ∷ 0 ∷ 0x80000000 ∷ 0 ∷ 0 ∷ 0 ∷ 0 ∷  -- 4: the least number
          1 ∷ 1 ∷ 0x80000000 ∷ 0 ∷ 0 ∷ 0 ∷ 0 ∷  -- 5: the least but one
          3 ∷ 1 ∷ 0 ∷ 0 ∷ 0 ∷ 0 ∷ 0 ∷  -- 6: the constant called -5
          4 ∷ 2 ∷ 0 ∷ 0 ∷ 0 ∷ 0 ∷ 0 ∷  -- 7: an operator called -5
          1 ∷ 5 ∷ 0 ∷ 0 ∷ 0 ∷ 0 ∷ 0 ∷  -- 8: 5
          4 ∷ 1 ∷ 4 ∷ 1 ∷ 0 ∷ 0 ∷ 0 ∷  -- 9: the operator - applied to 5
          1 ∷ 0xFFFFFFFF ∷ 0xFFFFFFFF ∷ 0 ∷ 0 ∷ 0 ∷ 0 ∷  -- 10: -1
          3 ∷ 0 ∷ 0 ∷ 0 ∷ 0 ∷ 0 ∷ 0 ∷  -- 11: v
          1 ∷ 0 ∷ 0x80000000 ∷ 0 ∷ 0 ∷ 0 ∷ 0 ∷  -- 12: the least number
          4 ∷ 0 ∷ 5 ∷ 3 ∷ 0 ∷ 0 ∷ 0 ∷  -- 13: + of these three
          1 ∷ 0xFFFFFFFB ∷ 0xFFFFFFFF ∷ 0 ∷ 0 ∷ 0 ∷ 0 ∷  -- 14: -5
          3 ∷ 0 ∷ 0 ∷ 0 ∷ 0 ∷ 0 ∷ 0 ∷  -- 15: v
          7 ∷ 0 ∷ 14 ∷ 15 ∷ 0 ∷ 0 ∷ 0 ∷  -- 16: let v be -5 in v
          1 ∷ 0xFFFFFFFF ∷ 0xFFFFFFFF ∷ 0 ∷ 0 ∷ 0 ∷ 0 ∷  -- 17: -1, first in the pattern
          3 ∷ 0 ∷ 0 ∷ 0 ∷ 0 ∷ 0 ∷ 0 ∷  -- 18: v, in the pattern
          1 ∷ 0xFFFFFFFB ∷ 0xFFFFFFFF ∷ 0 ∷ 0 ∷ 0 ∷ 0 ∷  -- 19: -5
          8 ∷ 1 ∷ 1 ∷ 1 ∷ 0 ∷ 1 ∷ 19 ∷ [];  -- 20: forall v, with the pattern, -5
      contexts = 0 ∷ 13 ∷ 0 ∷ [];
      lists = 0 ∷ 0 ∷ 17 ∷ 18 ∷ 8 ∷ 10 ∷ 11 ∷ 12 ∷ [];  -- entry 0: pattern 0, entry 1: v
    })

printed : ℕ → SExprPrintConfig → Seen
printed t config = print (print_call boxes dirty t 0 config (blank 90))

broken : ℕ → SExprPrintConfig
broken indent = record { newlines = true; indent = indent }

-- the literal %tag of the small book
tagged : ℕ → Seen
tagged tag = print (print_call small dirty 15 tag flat (blank 20))

pub negatives : List (Seen × Seen)
unfolding everything books hosts boxes printed broken tagged
negatives =
    (printed 0 flat, print (shows 90 (ascii "0")))
    ∷ (printed 1 flat, print (shows 90 (ascii "1")))
    ∷ (printed 2 flat, print (shows 90 (ascii "(- 1)")))
    ∷ (printed 3 flat, print (shows 90 (ascii "9223372036854775807")))
    ∷ (printed 4 flat, print (shows 90 (ascii "(- 9223372036854775808)")))
    ∷ (printed 5 flat, print (shows 90 (ascii "(- 9223372036854775807)")))
    ∷ (printed 2 (broken 0), print (shows 90 (ascii "(-\n  1)")))
    ∷ (printed 4 (broken 7), print (shows 90 (ascii "(-\n         9223372036854775808)")))
    -- a name that looks like a number stays, and an application of - to 5 has the text of -5
    ∷ (printed 6 flat, print (shows 90 (ascii "-5")))
    ∷ (printed 7 flat, print (shows 90 (ascii "-5")))
    ∷ (printed 9 flat, print (shows 90 (ascii "(- 5)")))
    ∷ (printed 14 flat, print (shows 90 (ascii "(- 5)")))
    -- as an argument, as a right side, and as a pattern's first term
    ∷ (printed 13 flat, print (shows 90 (ascii "(+ (- 1) v (- 9223372036854775808))")))
    ∷ (printed 13 (broken 0), print (shows 90 (ascii "(+\n  (-\n    1)\n  v\n  (-\n    9223372036854775808))")))
    ∷ (printed 16 (broken 0), print (shows 90 (ascii "(let\n  ((v\n    (-\n      5)))\n  v)")))
    ∷ (
      printed 20 (broken 0),
      print (shows 90 (ascii "(forall\n  ((v\n    Int))\n  (!\n    (-\n      5)\n    :pattern\n    ((-\n      1)\n      v)))")),
    )
    -- as a premise, and as the goal
    ∷ (
      texts (ran boxes (ask_for (host 200 0) 1 2 ∷ [])).text,
      texts (ascii "(push 1)\n(declare-fun v () Int)\n(assert (+ (- 1) v (- 9223372036854775808)))\n(push 1)\n(push 1)\n(assert (not (- 1)))\n(check-sat)\n"),
    )
    -- the number of %tag is never negative
    ∷ (tagged (2 ^ 63), print (shows 20 (ascii "9223372036854775808")))
    ∷ (tagged (2 ^ 64 - 1), print (shows 20 (ascii "18446744073709551615")))
    ∷ []

pub negatives_hold : map (λ e. e.0) negatives ≡ map (λ e. e.1) negatives
unfolding negatives
negatives_hold = refl
