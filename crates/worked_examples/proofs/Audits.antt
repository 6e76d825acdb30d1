-- The audit of foreign scripts, from book bytes. R n is point n of 05-request-readings.md.
use Prim.Native.Nat.{ℕ}
use mathlib.Core.Path.{◌≡◌, refl}
use mathlib.Core.Bool.{true}
use mathlib.Core.List.{List, [], ◌∷◌, ◌++◌, map}
use Rattle.basics.specs.Text.{Text, ascii}
use Rattle.basics.specs.Outcome.{accepted}
use Rattle.book.specs.Book.{Book}
use Rattle.solvers.specs.Calls.{ask_for, reply_with}
use Rattle.audit.specs.Audit.{Verdict, agrees, differs_at, AuditCalled, audit_call}
use Rattle.worked_examples.proofs.Everything.{everything}
use Rattle.worked_examples.proofs.Books.{books, bytes32, written}
use Rattle.worked_examples.proofs.Hosts.{hosts, dirty, clean, host, ran}

-- f, p and q of Bool; the axiom of f is f. Node 1 is f: the axiom and the node are the same line twice. Node 2, below it, is p. The goals
-- are q (term 3) and p (term 4).
unfoldable pub stated : Book
stated =
    written (record {
      letters = ascii "fpq";
      names = 0 ∷ 1 ∷ 1 ∷ 1 ∷ 2 ∷ 1 ∷ [];
      types = [];
      constants = 1 ∷ 0 ∷ 2 ∷ 0 ∷ [];
      functions = 0 ∷ 0 ∷ 0 ∷ 0 ∷ 0 ∷ 1 ∷ [];
      axioms = 0 ∷ 0 ∷ 1 ∷ [];
      patterns = [];
      terms =
          5 ∷ 0 ∷ 0 ∷ 0 ∷ 0 ∷ 0 ∷ 0 ∷  -- 0: f
          5 ∷ 0 ∷ 0 ∷ 0 ∷ 0 ∷ 0 ∷ 0 ∷  -- 1: f
          3 ∷ 0 ∷ 0 ∷ 0 ∷ 0 ∷ 0 ∷ 0 ∷  -- 2: p
          3 ∷ 1 ∷ 0 ∷ 0 ∷ 0 ∷ 0 ∷ 0 ∷  -- 3: q
          3 ∷ 0 ∷ 0 ∷ 0 ∷ 0 ∷ 0 ∷ 0 ∷ [];  -- 4: p
      contexts = 0 ∷ 1 ∷ 0 ∷ 1 ∷ 2 ∷ 0 ∷ [];
      lists = 0 ∷ [];
    })

-- a constant that is called %tag: no literal
unfoldable pub constant_tag : Book
constant_tag =
    written (record {
      letters = ascii "%tag";
      names = 0 ∷ 4 ∷ [];
      types = [];
      constants = 0 ∷ 0 ∷ [];
      functions = [];
      axioms = [];
      patterns = [];
      terms = [];
      contexts = [];
      lists = [];
    })

-- node 1, its question, and behind a reply node 2 and its question
unfoldable pub node1 : Text
node1 = ascii "(push 1)\n(declare-fun f () Bool)\n(assert f)\n(assert f)\n"

unfoldable pub question1 : Text
question1 = ascii "(push 1)\n(declare-fun q () Bool)\n(push 1)\n(assert (not q))\n(check-sat)\n"

unfoldable pub node2 : Text
node2 = ascii "(push 1)\n(declare-fun p () Bool)\n(assert p)\n"

unfoldable pub question2 : Text
question2 = ascii "(push 1)\n(push 1)\n(assert (not p))\n(check-sat)\n"

unfoldable pub pops : Text
pops = ascii "(pop 1)\n(pop 1)\n"

unfoldable pub own : Text
own = node1 ++ question1 ++ pops ++ node2 ++ question2

unfoldable pub scripts : Unit {0}
unfolding stated constant_tag node1 question1 node2 question2 pops own
scripts = tt

-- it is what our own writer makes
pub own_holds : (ran stated (ask_for (host 400 0) 1 3 ∷ reply_with (host 400 0) true (ascii "unsat") ∷ ask_for (host 400 0) 2 4 ∷ [])).text ≡ own
unfolding everything books hosts scripts
own_holds = refl

ask : (questions : List ℕ) → Text → AuditCalled
ask questions script = audit_call stated dirty (bytes32 questions) script

says : Verdict → AuditCalled
says v = record { answer = accepted v; scratch = clean }

-- ---- ACCEPTED
pub acceptances : List (AuditCalled × AuditCalled)
unfolding everything books hosts scripts ask says
acceptances =
    -- nothing asked and nothing written, also where a constant is called %tag; our own text of one question, and of two. R 55, 62, 63
    (ask [] [], says agrees)
    ∷ (audit_call constant_tag dirty [] [], says agrees)
    ∷ (ask (1 ∷ 3 ∷ []) (node1 ++ question1), says agrees)
    ∷ (ask (1 ∷ 3 ∷ 2 ∷ 4 ∷ []) own, says agrees)
    -- a level in another order. R 61
    ∷ (ask (1 ∷ 3 ∷ []) (ascii "(push 1)\n(assert f)\n(declare-fun f () Bool)\n(assert f)\n" ++ question1), says agrees)
    -- popped to the root and built anew; the same question twice
    ∷ (ask (1 ∷ 3 ∷ 2 ∷ 4 ∷ []) (node1 ++ question1 ++ pops ++ ascii "(pop 1)\n" ++ node1 ++ node2 ++ question2), says agrees)
    ∷ (ask (1 ∷ 3 ∷ 1 ∷ 3 ∷ []) (node1 ++ question1 ++ ascii "(check-sat)\n"), says agrees)
    -- what is popped again, a model asked for, and what stands behind the last check-sat. R 60
    ∷ (ask (1 ∷ 3 ∷ []) (ascii "(push 1)\n(assert p)\n(pop 1)\n(get-model)\n" ++ node1 ++ ascii "(push 1)\n(pop 1)\n" ++ question1 ++ ascii "(assert p)\n"), says agrees)
    ∷ []

pub acceptances_hold : map (λ e. e.0) acceptances ≡ map (λ e. e.1) acceptances
unfolding acceptances
acceptances_hold = refl

-- ---- REJECTED, counted from 1
pub rejections : List (AuditCalled × AuditCalled)
unfolding everything books hosts scripts ask says
rejections =
    -- of a line that stands twice, one; three; and another line twice instead. R 61
    (ask (1 ∷ 3 ∷ []) (ascii "(push 1)\n(declare-fun f () Bool)\n(assert f)\n" ++ question1), says (differs_at 1))
    ∷ (ask (1 ∷ 3 ∷ []) (node1 ++ ascii "(assert f)\n" ++ question1), says (differs_at 1))
    ∷ (ask (1 ∷ 3 ∷ []) (ascii "(push 1)\n(declare-fun f () Bool)\n(declare-fun f () Bool)\n(assert f)\n" ++ question1), says (differs_at 1))
    -- a line at the first level, and one a level too high. R 60
    ∷ (ask (1 ∷ 3 ∷ []) (ascii "(assert f)\n" ++ node1 ++ question1), says (differs_at 1))
    ∷ (ask (1 ∷ 3 ∷ []) (node1 ++ ascii "(push 1)\n(push 1)\n(declare-fun q () Bool)\n(assert (not q))\n(check-sat)\n"), says (differs_at 1))
    -- an empty level more, and one less
    ∷ (ask (1 ∷ 3 ∷ []) (ascii "(push 1)\n" ++ node1 ++ question1), says (differs_at 1))
    ∷ (ask (1 ∷ 3 ∷ 2 ∷ 4 ∷ []) (node1 ++ question1 ++ pops ++ node2 ++ ascii "(push 1)\n(assert (not p))\n(check-sat)\n"), says (differs_at 2))
    -- the second only; both; and the questions in the other order. R 62
    ∷ (ask (1 ∷ 3 ∷ 2 ∷ 4 ∷ []) (node1 ++ question1 ++ pops ++ node2 ++ ascii "(assert p)\n" ++ question2), says (differs_at 2))
    ∷ (ask (1 ∷ 3 ∷ 2 ∷ 4 ∷ []) (ascii "(assert p)\n" ++ own), says (differs_at 1))
    ∷ (ask (2 ∷ 4 ∷ 1 ∷ 3 ∷ []) own, says (differs_at 1))
    ∷ []

pub rejections_hold : map (λ e. e.0) rejections ≡ map (λ e. e.1) rejections
unfolding rejections
rejections_hold = refl
