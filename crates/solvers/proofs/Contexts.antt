-- SetContext, as the bodies have it, is the list of operations; so it takes a state that stands at one node to one that stands at another.
use Prim.Native.Nat.{ℕ, zero, suc, ◌+◌, ◌-◌, ◌≤◌, ◌<◌}
use native.Mathlib.Omega.{arith}
use mathlib.Core.Path.{◌≡◌, refl, sym, ap, ◌∙◌, subst}
use mathlib.Core.List.{List, [], ◌∷◌, ◌++◌, tail, append_assoc}
use mathlib.Core.Bool.{Bool, true, false, cond}
use lib.Dec.{eqb, ltb}
use lib.ListN.{length}
use borrow.Author.Tests.{ltb-true, ltb-false}
use Rattle.book.specs.RExpr.{RExpr}
use Rattle.book.specs.Program.{Program, node_at, path_up, path, depth}
use Rattle.book.proofs.Paths.{Chain, chain}
use Rattle.solver_expr.proofs.Clean.{CleanR}
use Rattle.smt_engines.specs.Command.{Command, Push, Pop, CheckSat}
use Rattle.rsolver.specs.Step.{Step, skip, ◌⨟◌, do_unless, unless, do_either, either}
use Rattle.rsolver.specs.LevelState.{LevelState, levelled, fresh, forget, is_top, push, pop, send}
use Rattle.rsolver.specs.REngine.{assume_not, check, end_check, declare_new_symbols, enter, adjust_context, pop_times, set_context, ask_goal, close_goal}
use Rattle.rsolver.proofs.Declares.{Declares, sent-by, missing_down, symbols_d, assume_not_d}
use Rattle.rsolver.proofs.Levels.{Grown, forget_grown}
use Rattle.solvers.specs.Rule.{standing, move_commands, goal_state, goal_commands, denial_commands, question_commands}
use Rattle.solvers.proofs.Good.{Good}
use Rattle.solvers.proofs.Paths.{up, down, adjust, ops}
use Rattle.solvers.proofs.Standing.{sending, blind_sending, exec, exec_append, standing_stack, standing_within, travel}

regroup : (l g d : List Command) → l ++ (Push ∷ []) ++ g ++ (Push ∷ []) ++ d ++ (CheckSat ∷ []) ≡ l ++ ((Push ∷ g) ++ (Push ∷ d) ++ (CheckSat ∷ []))
regroup l g d = simp append_assoc

module _ (p : Program) (G : Good p) where
  head_is : (n : ℕ) (q : List ℕ) (node : ℕ) → n ∷ q ≡ path p node → n ≡ node
  unfolding path path_up
  head_is n q zero e = let z : ◌≡◌ {A = ℕ} 0 1 = cc in absurd (omega arith)
  head_is n q (suc k) e = cc

  adjust_step : (n : ℕ) (q : List ℕ) (s : LevelState)
      → ((t : LevelState) → adjust_context (levelled p) p (length q) (node_at p n).parent t ≡ exec p (adjust q t.stack) t)
      → adjust_context (levelled p) p (suc (length q)) n s ≡ exec p (adjust (n ∷ q) s.stack) s
  unfolding adjust_context adjust exec either unless ◌⨟◌ do_either do_unless pop
  adjust_step n q s above = short (ltb (length s.stack) (suc (length q)))
    where
      up_then : Step LevelState
      up_then t = enter (levelled p) p n (adjust_context (levelled p) p (length q) (node_at p n).parent t)

      then_down : (t : LevelState) → up_then t ≡ exec p (adjust q t.stack ++ down n ∷ []) t
      then_down t = ap (enter (levelled p) p n) (above t) ∙ sym (exec_append p (adjust q t.stack) (down n ∷ []) t)

      top : (y : Bool) → do_unless y (λ t. up_then (pop t)) s ≡ exec p (cond y [] (up ∷ (adjust q (tail s.stack) ++ down n ∷ []))) s
      top true = refl
      top false = then_down (pop s)

      short : (x : Bool)
          → do_either x up_then (λ t. do_unless (is_top n t.stack) (λ u. up_then (pop u)) t) s
          ≡ exec p (cond x (adjust q s.stack ++ down n ∷ []) (cond (is_top n s.stack) [] (up ∷ (adjust q (tail s.stack) ++ down n ∷ [])))) s
      short true = then_down s
      short false = top (is_top n s.stack)

  adjust_is : (q : List ℕ) → Chain p q → (node : ℕ) → q ≡ path p node → (s : LevelState)
      → adjust_context (levelled p) p (length q) node s ≡ exec p (adjust q s.stack) s
  unfolding adjust_context adjust exec skip
  adjust_is [] c node e s = refl
  adjust_is (n ∷ q) c node e s =
      subst (λ (m : ℕ). adjust_context (levelled p) p (suc (length q)) m s ≡ exec p (adjust (n ∷ q) s.stack) s) (head_is n q node e)
      (adjust_step n q s (λ t. adjust_is q c.3 (node_at p n).parent c.1 t))

  set_is : (q : List ℕ) → Chain p q → (node : ℕ) → q ≡ path p node → (st : List ℕ) (s : LevelState) → s.stack ≡ st
      → adjust_context (levelled p) p (length q) node (pop_times (levelled p) p (length st - length q) s) ≡ exec p (ops q st) s
  unfolding ops exec pop_times pop
  set_is q c node e [] s f =
      let z : 0 - length q ≡ 0 = omega arith in
      rw z (adjust_is q c node e s ∙ ap (λ (st : List ℕ). exec p (adjust q st) s) f)
  set_is q c node e (m ∷ st) s f = go (ltb (length q) (suc (length st))) refl (set_is q c node e st (pop s) (ap tail f))
    where
      go : (x : Bool) → ltb (length q) (suc (length st)) ≡ x
          → adjust_context (levelled p) p (length q) node (pop_times (levelled p) p (length st - length q) (pop s)) ≡ exec p (ops q st) (pop s)
          → adjust_context (levelled p) p (length q) node (pop_times (levelled p) p (suc (length st) - length q) s) ≡ exec p (cond x (up ∷ ops q st) (adjust q (m ∷ st))) s
      go true u r =
          let h = ltb-true (length q) (suc (length st)) u in
          let z : suc (length st) - length q ≡ suc (length st - length q) = omega arith in
          rw z r
      go false u r =
          let h = ltb-false (length q) (suc (length st)) u in
          let z : suc (length st) - length q ≡ 0 = omega arith in
          rw z (adjust_is q c node e s ∙ ap (λ (l : List ℕ). exec p (adjust q l) s) f)

  -- from a node where no axiom was missed
  pub set-context : (a n : ℕ) → (standing p (path p a)).missing ≡ false → (l : List Command)
      → set_context (levelled p) p n (sending l (standing p (path p a))) ≡ sending (l ++ move_commands p a n) (standing p (path p n))
  unfolding set_context depth
  set-context a n e l =
      let s = sending l (standing p (path p a)) in
      let f : (standing p (path p a)).stack ≡ path p a = standing_stack p G (path p a) in
      ap (λ (st : List ℕ). adjust_context (levelled p) p (length (path p n)) n (pop_times (levelled p) p (length st - length (path p n)) s)) f
      ∙ set_is (path p n) (chain p G.parents n) n refl (path p a) s f ∙ (travel p G a n e).runs l

  pub set_fresh : (n : ℕ) → set_context (levelled p) p n (fresh) ≡ sending (move_commands p 0 n) (standing p (path p n))
  unfolding standing path path_up fresh
  set_fresh n = set-context 0 n refl []

  -- a question, asked where a state stands
  module _ (n : ℕ) (e : RExpr) (h : CleanR e) where
    pub ask_at : (l : List Command) → ask_goal (levelled p) p n e (sending l (standing p (path p n))) ≡ sending (l ++ question_commands p n e) (assume_not (levelled p) e (goal_state p n e))
    unfolding ask_goal check ◌⨟◌ push send goal_state question_commands
    ask_at l =
        let D = symbols_d p G.axioms e h in
        let N = assume_not_d p e h in
        let t : LevelState = push n (standing p (path p n)) in
        let g : LevelState = declare_new_symbols (levelled p) p e t in
        let goal : D.more t ≡ goal_commands p n e = unfold goal_commands push in sym (sent-by D t) in
        let denial : N.more g ≡ denial_commands p n e = unfold denial_commands goal_state push in sym (sent-by N g) in
        ap (λ (x : LevelState). send CheckSat (assume_not (levelled p) e (send Push x))) (blind_sending D (l ++ (Push ∷ [])) t)
        ∙ ap (λ (x : LevelState). send CheckSat x) (blind_sending N (l ++ (Push ∷ []) ++ D.more t ++ (Push ∷ [])) g)
        ∙ ap {B = LevelState} (λ c. sending c (assume_not (levelled p) e g))
        (regroup l (D.more t) (N.more g) ∙ (λ i. l ++ ((Push ∷ goal i) ++ (Push ∷ denial i) ++ (CheckSat ∷ []))))

    -- and closed again
    pub close_at : (goal_state p n e).missing ≡ false → (l : List Command)
        → close_goal (levelled p) (sending l (assume_not (levelled p) e (goal_state p n e))) ≡ sending (l ++ (Pop ∷ Pop ∷ [])) (standing p (path p n))
    unfolding close_goal end_check ◌⨟◌ pop send assume_not goal_state push
    close_at m l =
        let D = symbols_d p G.axioms e h in
        let ns = path p n in
        let t : LevelState = push n (standing p ns) in
        let e₁ : t.stack ≡ n ∷ ns = unfold push in ap (λ (st : List ℕ). n ∷ st) (standing_stack p G ns) in
        let stack : (declare_new_symbols (levelled p) p e t).stack ≡ n ∷ ns = D.stack t ∙ e₁ in
        let grown : Grown (suc (length ns)) (standing p ns).levels (declare_new_symbols (levelled p) p e t).levels =
        unfold push in subst (λ (st : List ℕ). Grown (length st) (standing p ns).levels (declare_new_symbols (levelled p) p e t).levels) e₁ (D.grows t) in
        let levels : forget (length (declare_new_symbols (levelled p) p e t).stack) (declare_new_symbols (levelled p) p e t).levels ≡ (standing p ns).levels =
        ap (λ (st : List ℕ). forget (length st) (declare_new_symbols (levelled p) p e t).levels) stack ∙ forget_grown grown (standing_within p G ns) in
        let missing : (declare_new_symbols (levelled p) p e t).missing ≡ (standing p ns).missing = m ∙ sym (missing_down D t m) in
        λ i. record { stack = (ap tail stack ∙ sym (standing_stack p G ns)) i; levels = levels i; missing = missing i; sent = append_assoc l (Pop ∷ []) (Pop ∷ []) i }
