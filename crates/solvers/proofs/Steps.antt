-- Each call on the session that a fresh one has at a node: it is refused, and not with 20; or it sends what the rule says, and leaves
-- such a session again.
use Prim.Native.Nat.{ℕ, ◌≤◌, ◌<◌}
use native.Mathlib.Omega.{arith}
use mathlib.Core.Path.{◌≡◌, refl, sym, ap, ◌∙◌, subst}
use mathlib.Core.List.{List, [], ◌∷◌, ◌++◌, append_assoc}
use mathlib.Core.Bool.{Bool, true, false, not, ◌||◌, true≢false}
use mathlib.Core.Option.{Option, none, some}
use lib.Dec.{leb, ltb}
use lib.ListN.{length}
use borrow.Author.Tests.{ltb-false, leb-false}
use Rattle.basics.specs.Text.{Text}
use Rattle.basics.specs.Outcome.{Outcome, accepted, refused, refuse, ◌>>◌}
use Rattle.basics.proofs.All.{All, end, more, all_append}
use Rattle.basics.proofs.Bool.{or_left, or_right}
use Rattle.basics.proofs.Refusals.{guarded, passing}
use Rattle.book.specs.Book.{Book, terms, contexts, size}
use Rattle.book.specs.Program.{path}
use Rattle.book.specs.Decode.{term, program}
use Rattle.book_test.specs.BookTest.{ready}
use Rattle.book_test.proofs.Numbers.{ready_not20}
use Rattle.solver_expr.proofs.Clean.{CleanR}
use Rattle.smt_engines.specs.Command.{Command, Pop, GetModel}
use Rattle.smt_engines.specs.Reader.{live}
use Rattle.smt_engines.proofs.Hearing.{hears, hears_append, hears_model, whole_pop, whole_model}
use Rattle.rsolver.specs.Step.{◌⨟◌}
use Rattle.rsolver.specs.LevelState.{LevelState, levelled, send}
use Rattle.rsolver.specs.REngine.{assume_not, ask_goal, ask_model, close_goal}
use Rattle.solvers.specs.declared.Owed.{Owed}
use Rattle.solvers.specs.declared.Owed.TheVariants.{Nothing, Reply, Model}
use Rattle.solvers.specs.declared.Session.{Session}
use Rattle.solvers.specs.Session.{Written, ProofResult, Proved, Unproved, session, moved, asked, move, ask, closed, replied, is_unsat, give_reply, give_model}
use Rattle.solvers.specs.Calls.{owes, is_session, Host, fitting, move_call, ask_call, reply_call, model_call, Call, move_to, ask_for, reply_with, model_with, call}
use Rattle.solvers.specs.Bodies.{do_call, on_reply}
use Rattle.solvers.specs.Rule.{levels_of, goal_levels, levels_for, goal_state, move_commands, question_commands, open_questions, Present, present, next_reply, next, must_live, session_at, reply_commands, said}
use Rattle.solvers.proofs.Good.{Good}
use Rattle.solvers.proofs.Standing.{sending, Led, travel}
use Rattle.solvers.proofs.Contexts.{set-context, ask_at, close_at}
use Rattle.solvers.proofs.Questions.{Asks, Fits, state_for, state_at, GoalIn, OpenFor, Leaves, Kept, denial_missing, owes_nothing, owes_reply, owes_model, hears_pops, is-session, arrives, asked_at, goal_clear, hears_question, whole_question}

module _ (b : Book) (G : Good (program b)) (T : (t : ℕ) → t < size b terms → CleanR (term b t)) where
  module _ (w : Present) (f : Fits b w) where
    move_leaves : (h : Host) (n : ℕ) → n ≤ size b contexts → w.owed ≡ Nothing
        → (moved (program b) (session_at b w) n).missing ≡ false → Leaves b w (move_to h n) (move (program b) (session_at b w) n)
    unfolding move said next present must_live levels_for goal_levels session_at do_call state_at state_for
    move_leaves h n i o m =
        let A = arrives b G T w f n in
        let L = travel (program b) G w.node n f.clear in
        record {
          commands = ap (λ (x : LevelState). x.sent) A;
          session = ap {B = Session} (λ (x : LevelState). session n 0 Nothing x.levels) A;
          fits = record { inside = i; clear = sym (ap (λ (x : LevelState). x.missing) A) ∙ m; asks = refl };
          heard = rw o L.heard;
          wholes = L.wholes;
          state = λ l. rw o (set-context (program b) G w.node n f.clear l);
          goal_in = tt;
          open_for = tt;
        }

    ask_leaves : (h : Host) (n t : ℕ) → n ≤ size b contexts → t < size b terms → w.owed ≡ Nothing
        → (asked (program b) (session_at b w) n (term b t)).missing ≡ false
        → Leaves b w (ask_for h n t) (ask (program b) (session_at b w) n t (term b t))
    unfolding ask said next present must_live levels_for goal_levels session_at do_call state_at state_for ◌⨟◌
    ask_leaves h n t i l o m =
        let e = term b t in
        let A = asked_at b G T w f n t l in
        let g : (goal_state (program b) n e).missing ≡ false = sym (denial_missing (program b) e (goal_state (program b) n e)) ∙ sym (ap (λ (x : LevelState). x.missing) A) ∙ m in
        let L = travel (program b) G w.node n f.clear in
        record {
          commands = ap (λ (x : LevelState). x.sent) A;
          session = ap {B = Session} (λ (x : LevelState). session n t Reply x.levels) (arrives b G T w f n);
          fits = record { inside = i; clear = goal_clear b G T n e (T t l) g; asks = (l, g) };
          heard = rw o (hears_append (live (levels_of (program b) (path (program b) w.node))) (move_commands (program b) w.node n) (question_commands (program b) n e)
              ∙ ap (λ r. hears r (question_commands (program b) n e)) L.heard ∙ hears_question b G T n e (T t l) (levels_of (program b) (path (program b) n)));
          wholes = all_append L.wholes (whole_question b G T n e (T t l));
          state = λ k.
              rw o (ap (ask_goal (levelled (program b)) (program b) n e) (set-context (program b) G w.node n f.clear k)
              ∙ ask_at (program b) G n e (T t l) (k ++ move_commands (program b) w.node n)
              ∙ ap {B = LevelState} (λ (cs : List Command). sending cs (assume_not (levelled (program b)) e (goal_state (program b) n e)))
              (append_assoc k (move_commands (program b) w.node n) (question_commands (program b) n e)));
          goal_in = l;
          open_for = tt;
        }

    -- two pops: back to the node's own levels
    settled : Fits b (present w.node 0 Nothing)
    unfolding present
    settled = record { inside = f.inside; clear = f.clear; asks = refl }

    hears_settled : (o : Owed) → owes o Nothing ≡ false → w.owed ≡ o
        → hears (live (must_live b w)) (Pop ∷ Pop ∷ []) ≡ live (must_live b (present w.node 0 Nothing))
    unfolding must_live levels_for goal_levels present owes
    hears_settled Nothing z e = absurd (true≢false z)
    hears_settled Reply z e = rw e (hears_pops _ _ _)
    hears_settled Model z e = rw e (hears_pops _ _ _)

    -- the bodies close the question
    closes : (o : Owed) → owes o Nothing ≡ false → w.owed ≡ o → Asks b w o → (l : List Command)
        → close_goal (levelled (program b)) (sending l (state_at b w)) ≡ sending (l ++ (Pop ∷ Pop ∷ [])) (state_at b (present w.node 0 Nothing))
    unfolding owes state_at state_for present
    closes Nothing z e a l = absurd (true≢false z)
    closes Reply z e a l = rw e (close_at (program b) G w.node (term b w.goal) (T w.goal a.0) a.1 l)
    closes Model z e a l = rw e (close_at (program b) G w.node (term b w.goal) (T w.goal a.0) a.1 l)

    pops_leave : (c : Call) (o : Owed) → owes o Nothing ≡ false → w.owed ≡ o → (r : ProofResult) → GoalIn b c → OpenFor w.owed c
        → said b w c ≡ Pop ∷ Pop ∷ [] → next w c ≡ present w.node 0 Nothing → do_call (levelled (program b)) b c ≡ close_goal (levelled (program b))
        → Leaves b w c (closed (session_at b w) r)
    unfolding closed session_at present
    pops_leave c o z e r g q says due does =
        record {
          commands = sym says;
          session = rw due refl;
          fits = rw due settled;
          heard = rw (says, due) (hears_settled o z e);
          wholes = rw says (more whole_pop (more whole_pop end));
          state = λ l. rw (says, due, does) (closes o z e (subst (Asks b w) e f.asks) l);
          goal_in = g;
          open_for = q;
        }

    -- the same levels, with a model owed
    owing : w.owed ≡ Reply → Fits b (present w.node w.goal Model)
    unfolding present
    owing e = record { inside = f.inside; clear = f.clear; asks = subst (λ (o : Owed). Asks b w o) e f.asks }

    hears_owing : w.owed ≡ Reply → hears (live (must_live b w)) (GetModel ∷ []) ≡ live (must_live b (present w.node w.goal Model))
    unfolding must_live levels_for goal_levels present
    hears_owing e = rw e (hears_model _)

    asks_model : w.owed ≡ Reply → (l : List Command)
        → ask_model (levelled (program b)) (sending l (state_at b w)) ≡ sending (l ++ (GetModel ∷ [])) (state_at b (present w.node w.goal Model))
    unfolding ask_model send state_at state_for present
    asks_model e l = rw e refl

    -- the question is open
    is_open : (o : Owed) → owes o Nothing ≡ false → w.owed ≡ o → 0 < open_questions w.owed
    unfolding owes open_questions
    is_open Nothing z e = absurd (true≢false z)
    is_open Reply z e = rw e (omega arith)
    is_open Model z e = rw e (omega arith)

    reply_leaves : (h : Host) (ok : Bool) (r : Text) → w.owed ≡ Reply → Leaves b w (reply_with h ok r) (give_reply (session_at b w) ok r)
    unfolding give_reply said next owes
    reply_leaves h false r e = pops_leave (reply_with h false r) Reply refl e (Unproved r) tt (is_open Reply refl e) refl refl (unfold do_call in refl)
    reply_leaves h true r e = go (is_unsat r) refl
      where
        go : (x : Bool) → is_unsat r ≡ x → Leaves b w (reply_with h true r) (replied (is_unsat r) (session_at b w))
        go true u = rw u (unfold replied in pops_leave (reply_with h true r) Reply refl e Proved tt (is_open Reply refl e) (rw u (unfold reply_commands in refl)) (rw u (unfold next_reply in refl)) (unfold do_call in rw u (unfold on_reply in refl)))
        go false u = rw u (unfold replied in (record {
          commands = rw u (unfold reply_commands in refl);
          session = rw u (unfold next_reply session_at present in refl);
          fits = rw u (unfold next_reply in owing e);
          heard = rw u (unfold next_reply reply_commands in hears_owing e);
          wholes = rw u (unfold reply_commands in more whole_model end);
          state = λ l. unfold do_call in rw u (unfold on_reply reply_commands next_reply in asks_model e l);
          goal_in = tt;
          open_for = is_open Reply refl e;
        }))

    model_leaves : (h : Host) (r : Text) (m : Option Text) → w.owed ≡ Model → Leaves b w (model_with h r m) (give_model (session_at b w) r m)
    unfolding give_model said next owes
    model_leaves h r none e = pops_leave (model_with h r none) Model refl e _ tt (is_open Model refl e) refl refl (unfold do_call in refl)
    model_leaves h r (some m) e = pops_leave (model_with h r (some m)) Model refl e _ tt (is_open Model refl e) refl refl (unfold do_call in refl)

    fitting_kept : (c : Call) (h : Host) (y : Written) → Leaves b w c y → Kept b w c (fitting h y)
    unfolding fitting
    fitting_kept c h y z = guarded (Kept b w c) (λ k h. h) 10 _ (accepted y) (omega arith) (λ e. z)

    -- ---- the refusals, in their order
    pub step_kept : (c : Call) → Kept b w c (call b (session_at b w) c)
    unfolding call move_call ask_call reply_call model_call refuse ◌>>◌ owes session_at
    step_kept (move_to h n) =
        passing (Kept b w (move_to h n)) (λ k z. z) (ready (length h.scratch) b) _ (ready_not20 (length h.scratch) b) λ e₁.
        guarded (Kept b w (move_to h n)) (λ k z. z) 7 (ltb (size b contexts) n) _ (omega arith) λ e₇.
        rw (is-session b G T w f)
        (guarded (Kept b w (move_to h n)) (λ k z. z) 21 (not (owes w.owed Nothing)) _ (omega arith) λ e₂₁.
        guarded (Kept b w (move_to h n)) (λ k z. z) 9 (moved (program b) (session_at b w) n).missing _ (omega arith) λ e₉.
        let y = move (program b) (session_at b w) n in
        fitting_kept (move_to h n) h y (move_leaves h n (ltb-false (size b contexts) n e₇) (owes_nothing w.owed e₂₁) e₉))
    step_kept (ask_for h n t) =
        passing (Kept b w (ask_for h n t)) (λ k z. z) (ready (length h.scratch) b) _ (ready_not20 (length h.scratch) b) λ e₁.
        guarded (Kept b w (ask_for h n t)) (λ k z. z) 7 (ltb (size b contexts) n || leb (size b terms) t) _ (omega arith) λ e₇.
        rw (is-session b G T w f)
        (guarded (Kept b w (ask_for h n t)) (λ k z. z) 21 (not (owes w.owed Nothing)) _ (omega arith) λ e₂₁.
        guarded (Kept b w (ask_for h n t)) (λ k z. z) 9 (asked (program b) (session_at b w) n (term b t)).missing _ (omega arith) λ e₉.
        let y = ask (program b) (session_at b w) n t (term b t) in
        let i = ltb-false (size b contexts) n (or_left (ltb (size b contexts) n) (leb (size b terms) t) e₇) in
        let l = leb-false (size b terms) t (or_right (ltb (size b contexts) n) (leb (size b terms) t) e₇) in
        fitting_kept (ask_for h n t) h y (ask_leaves h n t i l (owes_nothing w.owed e₂₁) e₉))
    step_kept (reply_with h ok r) =
        passing (Kept b w (reply_with h ok r)) (λ k z. z) (ready (length h.scratch) b) _ (ready_not20 (length h.scratch) b) λ e₁.
        rw (is-session b G T w f)
        (guarded (Kept b w (reply_with h ok r)) (λ k z. z) 22 (not (owes w.owed Reply)) _ (omega arith) λ e₂₂.
        let y = give_reply (session_at b w) ok r in
        fitting_kept (reply_with h ok r) h y (reply_leaves h ok r (owes_reply w.owed e₂₂)))
    step_kept (model_with h r m) =
        passing (Kept b w (model_with h r m)) (λ k z. z) (ready (length h.scratch) b) _ (ready_not20 (length h.scratch) b) λ e₁.
        rw (is-session b G T w f)
        (guarded (Kept b w (model_with h r m)) (λ k z. z) 23 (not (owes w.owed Model)) _ (omega arith) λ e₂₃.
        guarded (Kept b w (model_with h r m)) (λ k z. z) 8 (is_unsat r) _ (omega arith) λ e₈.
        let y = give_model (session_at b w) r m in
        fitting_kept (model_with h r m) h y (model_leaves h r m (owes_model w.owed e₂₃)))
