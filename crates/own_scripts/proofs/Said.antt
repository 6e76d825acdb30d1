-- An accepted call: the check-sats in what it says, and its question, on a book that passes the test.
use Prim.Native.Nat.{ℕ, zero, suc, ◌-◌}
use mathlib.Core.Path.{◌≡◌, refl, sym, ap, ◌∙◌}
use mathlib.Core.Bool.{Bool, true, false}
use mathlib.Core.List.{List, [], ◌∷◌, ◌++◌, map, reverse, append_assoc}
use lib.ListN.{replicate, take}
use Rattle.basics.specs.Text.{same}
use Rattle.basics.specs.Outcome.{accepted}
use Rattle.basics.proofs.All.{All, end, more, all_append}
use Rattle.book.specs.Book.{Book}
use Rattle.book.specs.Program.{path, depth, shared}
use Rattle.book.specs.Decode.{term, program}
use Rattle.book_test.specs.BookTest.{book_test}
use Rattle.smt_engines.specs.SmtEngines.{CMD_PUSH, CMD_POP, CMD_CHECK_SAT, CMD_GET_MODEL}
use Rattle.smt_engines.specs.Command.{Push, Pop, CheckSat, GetModel, command_to_string}
use Rattle.smt_engines.specs.Reader.{Stack, Reader, live, lines}
use Rattle.smt_engines.proofs.Hearing.{hears}
use Rattle.solvers.specs.declared.Owed.TheVariants.{Reply}
use Rattle.solvers.specs.Session.{Written, is_unsat}
use Rattle.solvers.specs.Calls.{Call, move_to, ask_for, reply_with, model_with}
use Rattle.solvers.specs.Rule.{goal_commands, denial_commands, move_commands, question_commands, reply_commands, Present, present, next, must_live, said}
use Rattle.solvers.proofs.Questions.{Fits, Leaves}
use Rattle.solvers.proofs.Root.{G, T}
use Rattle.own_levels.proofs.Sent.{entering_all, question_all}
use Rattle.script_checks.specs.ScriptChecks.{checks_from}
use Rattle.question_lists.specs.Questions.{Question, stack_for}
use Rattle.own_scripts.specs.OwnScripts.{asked_by}
use Rattle.own_scripts.proofs.CheckSats.{NoCheck, plain_no, checks_none, checked}

-- a question that the book can be asked
abbrev pub Open : Book → Question → Type 0
Open b q = Fits b (present q.node q.goal Reply)

-- ---- the commands that are no check-sat
push_no : NoCheck Push
unfolding same command_to_string CMD_PUSH CMD_CHECK_SAT
push_no = refl

pop_no : NoCheck Pop
unfolding same command_to_string CMD_POP CMD_CHECK_SAT
pop_no = refl

model_no : NoCheck GetModel
unfolding same command_to_string CMD_GET_MODEL CMD_CHECK_SAT
model_no = refl

pops_no : (k : ℕ) → All NoCheck (replicate k Pop)
pops_no zero = end
pops_no (suc k) = more pop_no (pops_no k)

closing_no : All NoCheck (Pop ∷ Pop ∷ [])
closing_no = more pop_no (more pop_no end)

replies_no : (unsat : Bool) → All NoCheck (reply_commands unsat)
unfolding reply_commands
replies_no true = closing_no
replies_no false = more model_no end

module _ (b : Book) (ok : book_test b ≡ accepted tt) where
  move_no : (a n : ℕ) → All NoCheck (move_commands (program b) a n)
  unfolding move_commands
  move_no a n =
      let p = program b in
      let s = shared (path p a) (path p n) in
      all_append (pops_no (depth p a - s)) (entering_all NoCheck push_no plain_no p (G b ok) (reverse (take (depth p n - s) (path p n))))

  -- ---- an accepted call
  module _ (w : Present) where
    pub call_checks : (c : Call) (x : Written) → Leaves b w c x → checks_from (live (must_live b w)) (lines (said b w c)) ≡ map (stack_for b) (asked_by c)
    unfolding said asked_by stack_for next question_commands
    call_checks (move_to h n) x k = checks_none _ (move_no w.node n)
    call_checks (ask_for h n t) x k =
        let p = program b in
        let e = term b t in
        let m = move_commands p w.node n in
        let q = (Push ∷ goal_commands p n e) ++ (Push ∷ denial_commands p n e) in
        let clean = T b ok t k.goal_in in
        let apart : m ++ (q ++ (CheckSat ∷ [])) ≡ (m ++ q) ++ (CheckSat ∷ []) = sym (append_assoc m q (CheckSat ∷ [])) in
        ap {B = List Stack} (λ cs. checks_from (live (must_live b w)) (lines cs)) apart
        ∙ checked (live (must_live b w)) _
        (all_append (move_no w.node n) (question_all NoCheck push_no plain_no p (G b ok) n e clean))
        (ap {B = Reader} (λ cs. hears (live (must_live b w)) cs) (sym apart) ∙ k.heard)
    call_checks (reply_with h false r) x k = checks_none _ closing_no
    call_checks (reply_with h true r) x k = checks_none _ (replies_no (is_unsat r))
    call_checks (model_with h r m) x k = checks_none _ closing_no

    pub call_open : (c : Call) (x : Written) → Leaves b w c x → All (Open b) (asked_by c)
    unfolding asked_by next
    call_open (move_to h n) x k = end
    call_open (ask_for h n t) x k = more k.fits end
    call_open (reply_with h ok r) x k = end
    call_open (model_with h r m) x k = end
