-- What a program gives for an old node and an old goal is the same on one that extends it: states with their levels, commands, stacks.
use Prim.Native.Nat.{ℕ, ◌-◌, ◌≤◌}
use mathlib.Core.Path.{◌≡◌, refl, ap, ap₂, ◌∙◌}
use mathlib.Core.List.{List, [], ◌∷◌, ◌++◌, reverse}
use lib.ListN.{length, replicate, take}
use Rattle.basics.proofs.All.{All, end, more}
use Rattle.book.specs.RExpr.{RExpr}
use Rattle.book.specs.Program.{Context, Program, node_at, path, depth, shared}
use Rattle.book.proofs.Every.{EveryR}
use Rattle.smt_engines.specs.Command.{Command, Push, Pop, CheckSat}
use Rattle.smt_engines.specs.Reader.{Stack, over, lines}
use Rattle.rsolver.specs.Step.{◌⨟◌}
use Rattle.rsolver.specs.LevelState.{LevelState, level_state, levelled, fresh, push, send, sent_by}
use Rattle.rsolver.specs.REngine.{assume, assume_not, declare_new_symbols, enter}
use Rattle.book.specs.Extends.{Extends}
use Rattle.rsolver.proofs.Placed.{placed, PlacedProgram}
use Rattle.rsolver.proofs.Unmarked.{Unmarked, none_unmarked}
use Rattle.rsolver.proofs.ExtendsWalk.{Along, symbols_along}
use Rattle.solvers.specs.declared.Owed.{Owed}
use Rattle.solvers.specs.declared.Owed.TheVariants.{Nothing, Reply, Model}
use Rattle.solvers.specs.Rule.{standing, settle, node_commands, levels_of, goal_state, goal_commands, denial_commands, goal_levels, levels_for, entering, move_commands, question_commands}
use Rattle.solvers.proofs.Good.{Good}
use Rattle.stack_rule.proofs.GrownPaths.{Node, all_down, path_nodes, parent_inside, node_grown, path_grown}

module _ (p q : Program) (x : Extends p q) (G : Good p) (P : PlacedProgram p) where
  -- ---- a node's commands, from any state with nothing marked behind the old literals
  settle_along : {n : ℕ} → Node p n → (s : LevelState) → Unmarked p s.levels → Along p q x (settle q n s) (settle p n s)
  unfolding settle ◌⨟◌ assume send
  settle_along {n} h s u =
      let e = (node_at p n).expr in
      let r = symbols_along p q x P e (P.node n) s u in
      record {
        same =
            ap {B = LevelState} (λ (c : Context). assume (levelled q) c.expr (declare_new_symbols (levelled q) q c.expr s)) (node_grown p G q x h)
            ∙ ap (assume (levelled p) e) r.same;
        unmarked = r.unmarked;
      }

  standing_along : {ns : List ℕ} → All (Node p) ns → Along p q x (standing q ns) (standing p ns)
  unfolding standing fresh enter ◌⨟◌ push settle
  standing_along end = record { same = refl; unmarked = none_unmarked p }
  standing_along (more {a = n} {l = ns} h hs) =
      let r = standing_along hs in
      let z = settle_along h (push n (standing p ns)) r.unmarked in
      record { same = ap (λ (s : LevelState). settle q n (push n s)) r.same ∙ z.same; unmarked = z.unmarked }

  module _ (n : ℕ) (i : n ≤ length p.contexts) where
    pub standing_grown : standing q (path q n) ≡ standing p (path p n)
    standing_grown = ap (standing q) (path_grown p G q x n i) ∙ (standing_along (path_nodes p G n i)).same

    pub standing_unmarked : Unmarked p (standing p (path p n)).levels
    standing_unmarked = (standing_along (path_nodes p G n i)).unmarked

  pub node_commands_grown : {n : ℕ} → Node p n → node_commands q n ≡ node_commands p n
  unfolding node_commands sent_by push
  node_commands_grown {n} h =
      let m = (node_at p n).parent in
      let i = parent_inside p G h in
      let s = standing p (path p m) in
      ap (λ (c : Context). sent_by (settle q n) (push n (standing q (path q c.parent)))) (node_grown p G q x h)
      ∙ ap (λ (t : LevelState). sent_by (settle q n) (push n t)) (standing_grown m i)
      ∙ ap (λ (t : LevelState). t.sent) (settle_along h (level_state (n ∷ s.stack) s.levels s.missing []) (standing_unmarked m i)).same

  levels_of_grown : {ns : List ℕ} → All (Node p) ns → levels_of q ns ≡ levels_of p ns
  unfolding levels_of
  levels_of_grown end = refl
  levels_of_grown (more h hs) = ap₂ (λ (c : List Command) (st : Stack). over (lines c) st) (node_commands_grown h) (levels_of_grown hs)

  pub node_levels_grown : (n : ℕ) → n ≤ length p.contexts → levels_of q (path q n) ≡ levels_of p (path p n)
  node_levels_grown n i = ap (levels_of q) (path_grown p G q x n i) ∙ levels_of_grown (path_nodes p G n i)

  -- ---- a goal at a node
  module _ (n : ℕ) (i : n ≤ length p.contexts) (e : RExpr) (h : EveryR (placed p) e) where
    goal_along : Along p q x (goal_state q n e) (goal_state p n e)
    unfolding goal_state push
    goal_along =
        let r = symbols_along p q x P e h (push n (standing p (path p n))) (standing_unmarked n i) in
        record {
          same = ap (λ (s : LevelState). declare_new_symbols (levelled q) q e (push n s)) (standing_grown n i) ∙ r.same;
          unmarked = r.unmarked;
        }

    pub goal_state_grown : goal_state q n e ≡ goal_state p n e
    goal_state_grown = goal_along.same

    pub goal_unmarked : Unmarked p (goal_state p n e).levels
    goal_unmarked = goal_along.unmarked

    pub goal_commands_grown : goal_commands q n e ≡ goal_commands p n e
    unfolding goal_commands sent_by push
    goal_commands_grown =
        let s = standing p (path p n) in
        ap (λ (t : LevelState). sent_by (declare_new_symbols (levelled q) q e) (push n t)) (standing_grown n i)
        ∙ ap (λ (t : LevelState). t.sent) (symbols_along p q x P e h (level_state (n ∷ s.stack) s.levels s.missing []) (standing_unmarked n i)).same

    pub denial_commands_grown : denial_commands q n e ≡ denial_commands p n e
    unfolding denial_commands sent_by assume_not
    denial_commands_grown = ap (λ (t : LevelState). sent_by (assume_not (levelled p) e) t) goal_state_grown

    pub question_commands_grown : question_commands q n e ≡ question_commands p n e
    unfolding question_commands
    question_commands_grown =
        ap₂ (λ (g d : List Command). (Push ∷ g) ++ (Push ∷ d) ++ (CheckSat ∷ [])) goal_commands_grown denial_commands_grown

    goal_levels_grown : goal_levels q n e ≡ goal_levels p n e
    unfolding goal_levels
    goal_levels_grown =
        ap₂ {C = Stack} (λ (d : List Command) (st : Stack). over (lines d) st) denial_commands_grown
        (ap₂ {C = Stack} (λ (g : List Command) (st : Stack). over (lines g) st) goal_commands_grown (node_levels_grown n i))

    pub asked_levels_grown : (o : Owed) → levels_for q o n e ≡ levels_for p o n e
    unfolding levels_for
    asked_levels_grown Nothing = node_levels_grown n i
    asked_levels_grown Reply = goal_levels_grown
    asked_levels_grown Model = goal_levels_grown

  -- ---- a move between nodes
  entering_grown : {ns : List ℕ} → All (Node p) ns → entering q ns ≡ entering p ns
  unfolding entering
  entering_grown end = refl
  entering_grown (more h hs) = ap₂ {C = List Command} (λ (c d : List Command). (Push ∷ c) ++ d) (node_commands_grown h) (entering_grown hs)

  pub move_commands_grown : (a n : ℕ) → a ≤ length p.contexts → n ≤ length p.contexts → move_commands q a n ≡ move_commands p a n
  unfolding move_commands depth
  move_commands_grown a n i j =
      ap₂ (λ (y z : List ℕ). let s = shared y z in replicate (length y - s) Pop ++ entering q (reverse (take (length z - s) z))) (path_grown p G q x a i) (path_grown p G q x n j)
      ∙ ap (λ (cs : List Command). replicate (length (path p a) - shared (path p a) (path p n)) Pop ++ cs)
      (entering_grown (all_down (length (path p n) - shared (path p a) (path p n)) (path_nodes p G n j)))
