-- Lists of calls on document 01's sample: refused calls in between, and the stack rule's words. R n is point n of 03-readings.md.
use Prim.Native.Nat.{ℕ, ◌+◌}
use mathlib.Core.Path.{◌≡◌, refl}
use mathlib.Core.Bool.{true, false}
use mathlib.Core.Option.{some}
use mathlib.Core.List.{List, [], ◌∷◌, ◌++◌, map}
use lib.ListN.{length, replicate, take}
use Rattle.basics.specs.Text.{Text, ascii}
use Rattle.basics.specs.Outcome.{Outcome, refused, accepted}
use Rattle.book.specs.Book.{Book}
use Rattle.smt_engines.specs.Command.{script}
use Rattle.smt_engines.specs.Reader.{Stack, first, over, Reader, live, lost, read}
use Rattle.rsolver.specs.LevelState.{constant_places}
use Rattle.solvers.specs.declared.Owed.TheVariants.{Nothing, Reply}
use Rattle.solvers.specs.declared.Session.{Session}
use Rattle.solvers.specs.Session.{session, fresh_session}
use Rattle.solvers.specs.Calls.{Call, move_to, ask_for, reply_with, model_with}
use Rattle.solvers.specs.Left.{Values, written, unproved, called}
use Rattle.solvers.specs.Rule.{present, must_live}
use Rattle.stack_rule.specs.Events.{calls, Trace, straight}
use Rattle.stack_rule.specs.Bodies.{do_all}
use Rattle.worked_examples.proofs.Everything.{everything}
use Rattle.worked_examples.proofs.Books.{books, sample}
use Rattle.worked_examples.proofs.Hosts.{hosts, blank, host, levels, ran}

-- ---- A LIST, AND THE SAME WITH REFUSED CALLS IN BETWEEN
move : ℕ → Call
move node = move_to (host 200 20) node

ask : (node goal : ℕ) → Call
ask node goal = ask_for (host 200 20) node goal

reply : Text → Call
reply text = reply_with (host 200 20) true text

model : Text → Call
model text = model_with (host 200 20) text (some (ascii "(model)"))

failed : Call
failed = reply_with (host 200 20) false (ascii "unsat")

-- move, move, ask, sat, a model, ask elsewhere, a failed check whose error text is unsat, move to the root
good : List Call
good = move 2 ∷ move 3 ∷ ask 3 18 ∷ reply (ascii "sat") ∷ model (ascii "sat") ∷ ask 2 18 ∷ failed ∷ move 0 ∷ []

mixed : List Call
mixed =
    move 4 ∷ reply (ascii "sat")  -- 7, 22
    ∷ move_to (host 167 0) 2  -- 10: the text has 168 bytes
    ∷ move 2
    ∷ model (ascii "sat")  -- 23
    ∷ move 3
    ∷ ask 3 19 ∷ ask 4 18  -- 7, 7
    ∷ ask_for (host 183 0) 2 18  -- 10: the text has 184 bytes. A refused ask does not move, R 28
    ∷ ask 3 18
    ∷ move 3 ∷ ask 3 18 ∷ model (ascii "unsat")  -- 21, 21, 23
    ∷ reply_with (host 15 20) true (ascii "unsat")  -- 10
    ∷ reply_with (record { scratch = replicate 127 0; text = blank 200; reason = blank 20 }) true (ascii "unsat")  -- 1
    ∷ reply (ascii "sat")
    ∷ reply (ascii "unsat") ∷ move 0 ∷ model (ascii "unsat")  -- 22, 21, 8
    ∷ model_with (host 16 10) (ascii "sat") (some (ascii "(model)"))  -- 10: the reason has 11 bytes
    ∷ model (ascii "sat")
    ∷ model (ascii "sat")  -- 23
    ∷ ask 2 18
    ∷ reply_with (host 16 4) false (ascii "unsat")  -- 10: the reason has 5 bytes
    ∷ failed
    ∷ failed  -- 22
    ∷ move 0
    ∷ []

-- the answers of a list of calls, each on the session that the last one left
answers : Book → Session → List Call → List (Outcome Values)
answers b s [] = []
answers b s (c ∷ cs) = let l = called b s c in l.answer ∷ answers b l.session cs

-- the lengths of the texts
wrote : Text → Outcome Values
wrote text = accepted (written (length text))

text2 : Text
text2 =
    ascii "(push 1)\n(declare-fun x () Int)\n(assert (< 0 x))\n(push 1)\n(declare-fun y () Int)\n(declare-fun f (Int) Int)\n(assert (forall ((z Int)) (= (f z) z)))\n(assert (= y (f x)))\n"

text3 : Text
text3 = ascii "(pop 1)\n(push 1)\n(assert (< x 9))\n"

asked3 : Text
asked3 =
    ascii "(push 1)\n(declare-fun f (Int) Int)\n(assert (forall ((z Int)) (= (f z) z)))\n(declare-fun y () Int)\n(push 1)\n(assert (not (< 0 (f y))))\n(check-sat)\n"

asked2 : Text
asked2 =
    ascii "(pop 1)\n(push 1)\n(declare-fun y () Int)\n(declare-fun f (Int) Int)\n(assert (forall ((z Int)) (= (f z) z)))\n(assert (= y (f x)))\n(push 1)\n(push 1)\n(assert (not (< 0 (f y))))\n(check-sat)\n"

pub answered : List (List (Outcome Values) × List (Outcome Values))
unfolding everything books hosts move ask reply model failed good mixed answers wrote text2 text3 asked3 asked2
answered = (
  answers sample fresh_session good,
  wrote text2 ∷ wrote text3 ∷ wrote asked3 ∷ wrote (ascii "(get-model)\n") ∷ accepted (unproved 16 11) ∷ wrote asked2 ∷ accepted (unproved 16 5) ∷ wrote (ascii "(pop 1)\n(pop 1)\n") ∷ [],
)
    ∷ (
      answers sample fresh_session mixed,
      refused 7 ∷ refused 22 ∷ refused 10 ∷ wrote text2 ∷ refused 23 ∷ wrote text3 ∷ refused 7 ∷ refused 7 ∷ refused 10 ∷ wrote asked3 ∷ refused 21 ∷ refused 21 ∷ refused 23 ∷ refused 10 ∷ refused 1 ∷ wrote (ascii "(get-model)\n") ∷ refused 22 ∷ refused 21 ∷ refused 8 ∷ refused 10 ∷ accepted (unproved 16 11) ∷ refused 23 ∷ wrote asked2 ∷ refused 10 ∷ accepted (unproved 16 5) ∷ refused 22 ∷ wrote (ascii "(pop 1)\n(pop 1)\n") ∷ [],
    )
    ∷ []

pub answered_hold : map (λ e. e.0) answered ≡ map (λ e. e.1) answered
unfolding answered
answered_hold = refl

-- the refused calls change nothing: the session, the text and the present are those of the list without them, before the first accepted
-- call, after the ask, and at the end
none_so_far : Trace
none_so_far = record { book = sample; now = fresh_session; text = []; due = present 0 0 Nothing }

after_ask : Trace
after_ask =
    record {
      book = sample;
      now = session 3 18 Reply (levels ((constant_places + 0, 1) ∷ []));
      text = text2 ++ text3 ++ asked3;
      due = present 3 18 Reply;
    }

at_end : Trace
at_end =
    record {
      book = sample;
      now = fresh_session;
      text = text2 ++ text3 ++ asked3 ++ ascii "(get-model)\n(pop 1)\n(pop 1)\n" ++ asked2 ++ ascii "(pop 1)\n(pop 1)\n(pop 1)\n(pop 1)\n";
      due = present 0 0 Nothing;
    }

pub traces : List (Trace × Trace)
unfolding everything books hosts move ask reply model failed good mixed text2 text3 asked3 asked2 none_so_far after_ask at_end
traces =
    (ran sample [], none_so_far)
    ∷ (ran sample (take 3 mixed), none_so_far)
    ∷ (ran sample (take 3 good), after_ask)
    ∷ (ran sample (take 15 mixed), after_ask)
    ∷ (ran sample good, at_end)
    ∷ (ran sample mixed, at_end)
    ∷ []

pub traces_hold : map (λ e. e.0) traces ≡ map (λ e. e.1) traces
unfolding traces
traces_hold = refl

-- ---- THE STACK RULE'S WORDS, after each call of the list
-- what the reader has, what the book gives for the present, and what a fresh session leaves that is brought straight there
heard : ℕ → Reader
heard n = read (ran sample (take n good)).text

given : ℕ → Reader
given n = live (must_live sample (ran sample (take n good)).due)

brought : ℕ → Reader
brought n = read (ran sample (straight (host 400 0) (ran sample (take n good)).due ∷ [])).text

root : Stack
root = first []

node1 : Stack
node1 = over (ascii "(declare-fun x () Int)" ∷ ascii "(assert (< 0 x))" ∷ []) root

node2 : Stack
node2 =
    over
    (ascii "(declare-fun y () Int)" ∷ ascii "(declare-fun f (Int) Int)" ∷ ascii "(assert (forall ((z Int)) (= (f z) z)))" ∷ ascii "(assert (= y (f x)))" ∷ [])
    node1

node3 : Stack
node3 = over (ascii "(assert (< x 9))" ∷ []) node1

-- while the goal is open at node 3: its declarations and axioms, then its negation; at node 2 nothing is left to declare
open3 : Stack
open3 =
    over (ascii "(assert (not (< 0 (f y))))" ∷ [])
    (over (ascii "(declare-fun f (Int) Int)" ∷ ascii "(assert (forall ((z Int)) (= (f z) z)))" ∷ ascii "(declare-fun y () Int)" ∷ []) node3)

open2 : Stack
open2 = over (ascii "(assert (not (< 0 (f y))))" ∷ []) (over [] node2)

pub levels_live : List (Reader × Reader)
unfolding everything books hosts move ask reply model failed good heard given brought root node1 node2 node3 open3 open2
levels_live =
    (heard 0, live root)
    ∷ (heard 1, live node2)
    ∷ (heard 2, live node3)
    ∷ (heard 3, live open3)
    ∷ (heard 4, live open3)
    ∷ (heard 5, live node3)
    ∷ (heard 6, live open2)
    ∷ (heard 7, live node2)
    ∷ (heard 8, live root)
    ∷ (given 0, live root)
    ∷ (given 1, live node2)
    ∷ (given 2, live node3)
    ∷ (given 3, live open3)
    ∷ (given 4, live open3)
    ∷ (given 5, live node3)
    ∷ (given 6, live open2)
    ∷ (given 7, live node2)
    ∷ (given 8, live root)
    ∷ (brought 1, live node2)
    ∷ (brought 2, live node3)
    ∷ (brought 4, live open3)
    ∷ (brought 6, live open2)
    ∷ (brought 8, live root)
    -- without its numeral a push or a pop is a line like any other
    ∷ (read (ascii "(push)\n(push 1)\n(pop)\n"), live (over (ascii "(pop)" ∷ []) (first (ascii "(push)" ∷ []))))
    -- a text that pops the first level loses the reader; a line that is not ended is a line too
    ∷ (read (ascii "(push 1)\n(pop 1)\n(pop 1)\n(push 1)\n"), lost)
    ∷ (read (ascii "a\n(push 1)\nb\n(check-sat)\n(pop 1)\n(get-model)\nb"), live (first (ascii "a" ∷ ascii "b" ∷ [])))
    ∷ []

pub live_hold : map (λ e. e.0) levels_live ≡ map (λ e. e.1) levels_live
unfolding levels_live
live_hold = refl

-- demand 2: the bodies on the state with sets, kept from call to call, send the same
pub sent : List (Text × Text)
unfolding everything books hosts move ask reply model failed good mixed text2 text3 asked3 asked2 at_end
sent = (script (do_all sample (map calls good)).sent, at_end.text) ∷ (script (do_all sample (map calls mixed)).sent, at_end.text) ∷ []

pub sent_hold : map (λ e. e.0) sent ≡ map (λ e. e.1) sent
unfolding sent
sent_hold = refl
