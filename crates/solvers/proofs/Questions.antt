-- The present as a session has it: a move from there, a question asked there, and what the reader has of it.
use Prim.Native.Nat.{ℕ, ◌≤◌, ◌<◌}
use mathlib.Core.Path.{◌≡◌, refl, sym, ap, ◌∙◌, subst}
use mathlib.Core.List.{List, [], ◌∷◌, ◌++◌}
use mathlib.Core.Bool.{Bool, true, false, not, true≢false}
use lib.Dec.{eqb, leb, ltb}
use lib.ListN.{length}
use borrow.Author.Tests.{le-leb, lt-ltb, eq-eqb}
use Rattle.basics.specs.Text.{Text, same}
use Rattle.basics.specs.Outcome.{Outcome, accepted, refused}
use Rattle.basics.proofs.All.{All, end, more, all_append}
use Rattle.basics.proofs.Texts.{same_refl}
use Rattle.book.specs.RExpr.{RExpr}
use Rattle.book.specs.Book.{Book, terms, contexts, size}
use Rattle.book.specs.Program.{Program, path}
use Rattle.book.specs.Decode.{term, program}
use Rattle.solver_expr.proofs.Clean.{CleanR}
use Rattle.smt_engines.specs.Command.{Command, Push, Pop, CheckSat}
use Rattle.smt_engines.specs.Reader.{Stack, over, live, lines}
use Rattle.smt_engines.proofs.Commands.{Plain}
use Rattle.smt_engines.proofs.Hearing.{Whole, hears, hears_append, hears_push, hears_pop, hears_check, all_whole, whole_push, whole_check}
use Rattle.rsolver.specs.LevelState.{LevelState, levelled, push, send}
use Rattle.rsolver.specs.REngine.{assume_not, set_context, ask_goal}
use Rattle.rsolver.proofs.Declares.{symbols_d, assume_not_d, sent-by, missing_down}
use Rattle.solvers.specs.declared.Owed.{Owed}
use Rattle.solvers.specs.declared.Owed.TheVariants.{Nothing, Reply, Model}
use Rattle.solvers.specs.Session.{Written, resume, moved, asked}
use Rattle.solvers.specs.Calls.{owes, goal_fits, is_session, Call, move_to, ask_for, reply_with, model_with}
use Rattle.solvers.specs.Bodies.{do_call}
use Rattle.solvers.specs.Rule.{standing, goal_state, goal_commands, denial_commands, move_commands, question_commands, open_questions, Present, next, must_live, session_at, said}
use Rattle.book.proofs.Terms.{contexts_length, literals_length}
use Rattle.solvers.proofs.Good.{Good}
use Rattle.solvers.proofs.Standing.{sending, standing_stack}
use Rattle.solvers.proofs.Contexts.{set-context, set_fresh, ask_at}

-- ---- the present, as a session has it
abbrev pub Asks : Book → Present → Owed → Type 0
Asks b w Nothing = w.goal ≡ 0
Asks b w Reply = (w.goal < size b terms) × ((goal_state (program b) w.node (term b w.goal)).missing ≡ false)
Asks b w Model = (w.goal < size b terms) × ((goal_state (program b) w.node (term b w.goal)).missing ≡ false)

pub record Fits (b : Book) (w : Present) : Type 0 where
  pub inside : w.node ≤ size b contexts
  pub clear : (standing (program b) (path (program b) w.node)).missing ≡ false
  pub asks : Asks b w w.owed

-- the solver's state at the present, with the question's declarations while one is open
unfoldable pub state_for : Book → Owed → Present → LevelState
state_for b Nothing w = standing (program b) (path (program b) w.node)
state_for b Reply w = assume_not (levelled (program b)) (term b w.goal) (goal_state (program b) w.node (term b w.goal))
state_for b Model w = assume_not (levelled (program b)) (term b w.goal) (goal_state (program b) w.node (term b w.goal))

unfoldable pub state_at : Book → Present → LevelState
state_at b w = state_for b w.owed w

-- an accepted ask's goal is in the book
abbrev pub GoalIn : Book → Call → Type 0
GoalIn b (move_to h n) = Unit {0}
GoalIn b (ask_for h n t) = t < size b terms
GoalIn b (reply_with h ok r) = Unit {0}
GoalIn b (model_with h r m) = Unit {0}

-- an accepted reply or model has a question that is open
abbrev pub OpenFor : Owed → Call → Type 0
OpenFor o (move_to h n) = Unit {0}
OpenFor o (ask_for h n t) = Unit {0}
OpenFor o (reply_with h ok r) = 0 < open_questions o
OpenFor o (model_with h r m) = 0 < open_questions o

-- what an accepted call leaves
pub record Leaves (b : Book) (w : Present) (c : Call) (x : Written) : Type 0 where
  pub commands : x.commands ≡ said b w c
  pub session : x.session ≡ session_at b (next w c)
  pub fits : Fits b (next w c)
  pub heard : hears (live (must_live b w)) (said b w c) ≡ live (must_live b (next w c))
  pub wholes : All Whole (said b w c)
  -- the bodies' methods, on a state with levels that is kept from call to call
  pub state : (l : List Command) → do_call (levelled (program b)) b c (sending l (state_at b w)) ≡ sending (l ++ said b w c) (state_at b (next w c))
  pub goal_in : GoalIn b c
  pub open_for : OpenFor w.owed c

abbrev pub Kept : Book → Present → Call → Outcome Written → Type 0
Kept b w c (refused k) = k ≡ 20 → ⊥
Kept b w c (accepted x) = Leaves b w c x

pub denial_missing : (p : Program) (e : RExpr) (s : LevelState) → (assume_not (levelled p) e s).missing ≡ s.missing
unfolding assume_not send
denial_missing p e s = refl

-- ---- what is owed
pub owes_nothing : (o : Owed) → not (owes o Nothing) ≡ false → o ≡ Nothing
unfolding owes
owes_nothing Nothing e = refl
owes_nothing Reply e = absurd (true≢false e)
owes_nothing Model e = absurd (true≢false e)

pub owes_reply : (o : Owed) → not (owes o Reply) ≡ false → o ≡ Reply
unfolding owes
owes_reply Nothing e = absurd (true≢false e)
owes_reply Reply e = refl
owes_reply Model e = absurd (true≢false e)

pub owes_model : (o : Owed) → not (owes o Model) ≡ false → o ≡ Model
unfolding owes
owes_model Nothing e = absurd (true≢false e)
owes_model Reply e = absurd (true≢false e)
owes_model Model e = refl

pub hears_pops : (l m : List Text) (st : Stack) → hears (live (over l (over m st))) (Pop ∷ Pop ∷ []) ≡ live st
hears_pops l m st = hears_append (live (over l (over m st))) (Pop ∷ []) (Pop ∷ []) ∙ ap (λ r. hears r (Pop ∷ [])) (hears_pop l (over m st)) ∙ hears_pop m st

module _ (b : Book) (G : Good (program b)) (T : (t : ℕ) → t < size b terms → CleanR (term b t)) where
  question_ok : (w : Present) (o : Owed) → Asks b w o → goal_fits o w.goal (length (program b).literals) ≡ true
  unfolding goal_fits
  question_ok w Nothing a = eq-eqb w.goal 0 a
  question_ok w Reply a = rw (literals_length b) (lt-ltb w.goal (size b terms) a.0)
  question_ok w Model a = rw (literals_length b) (lt-ltb w.goal (size b terms) a.0)

  pub is-session : (w : Present) → Fits b w → is_session (program b) (session_at b w) ≡ true
  unfolding is_session session_at
  is-session w f =
      rw (
        set_fresh (program b) G w.node,
        contexts_length b,
        le-leb w.node (size b contexts) f.inside,
        f.clear,
        same_refl (standing (program b) (path (program b) w.node)).levels,
      ) (question_ok w w.owed f.asks)

  pub resumed : (w : Present) → Fits b w → resume (program b) (session_at b w) ≡ sending [] (standing (program b) (path (program b) w.node))
  unfolding resume session_at
  resumed w f i =
      record {
        stack = sym (standing_stack (program b) G (path (program b) w.node)) i;
        levels = (standing (program b) (path (program b) w.node)).levels;
        missing = sym f.clear i;
        sent = [];
      }

  pub arrives : (w : Present) → Fits b w → (n : ℕ)
      → moved (program b) (session_at b w) n ≡ sending (move_commands (program b) w.node n) (standing (program b) (path (program b) n))
  unfolding moved
  arrives w f n = ap (set_context (levelled (program b)) (program b) n) (resumed w f) ∙ set-context (program b) G w.node n f.clear []

  pub asked_at : (w : Present) → Fits b w → (n t : ℕ) → t < size b terms
      → asked (program b) (session_at b w) n (term b t)
      ≡ sending (move_commands (program b) w.node n ++ question_commands (program b) n (term b t)) (assume_not (levelled (program b)) (term b t) (goal_state (program b) n (term b t)))
  unfolding asked
  asked_at w f n t l =
      ap (ask_goal (levelled (program b)) (program b) n (term b t)) (arrives w f n) ∙ ask_at (program b) G n (term b t) (T t l) (move_commands (program b) w.node n)

  pub goal_clear : (n : ℕ) (e : RExpr) → CleanR e → (goal_state (program b) n e).missing ≡ false → (standing (program b) (path (program b) n)).missing ≡ false
  unfolding goal_state push
  goal_clear n e h m = missing_down (symbols_d (program b) G.axioms e h) (push n (standing (program b) (path (program b) n))) m

  -- ---- the question's levels
  plain_goal : (n : ℕ) (e : RExpr) → CleanR e → All Plain (goal_commands (program b) n e)
  unfolding goal_commands
  plain_goal n e h = let D = symbols_d (program b) G.axioms e h in subst (All Plain) (sym (sent-by D _)) (D.plains _)

  plain_denial : (n : ℕ) (e : RExpr) → CleanR e → All Plain (denial_commands (program b) n e)
  unfolding denial_commands
  plain_denial n e h = let D = assume_not_d (program b) e h in subst (All Plain) (sym (sent-by D _)) (D.plains _)

  pub hears_question : (n : ℕ) (e : RExpr) → CleanR e → (st : Stack)
      → hears (live st) (question_commands (program b) n e) ≡ live (over (lines (denial_commands (program b) n e)) (over (lines (goal_commands (program b) n e)) st))
  unfolding question_commands
  hears_question n e h st =
      let d = denial_commands (program b) n e in
      let g = goal_commands (program b) n e in
      hears_append (live st) ((Push ∷ g) ++ (Push ∷ d)) (CheckSat ∷ [])
      ∙ ap (λ r. hears r (CheckSat ∷ [])) (hears_append (live st) (Push ∷ g) (Push ∷ d)
      ∙ ap (λ r. hears r (Push ∷ d)) (hears_push st (plain_goal n e h)) ∙ hears_push (over (lines g) st) (plain_denial n e h))
      ∙ hears_check (over (lines d) (over (lines g) st))

  pub whole_question : (n : ℕ) (e : RExpr) → CleanR e → All Whole (question_commands (program b) n e)
  unfolding question_commands
  whole_question n e h =
      all_append (all_append (more whole_push (all_whole (plain_goal n e h))) (more whole_push (all_whole (plain_denial n e h)))) (more whole_check end)
