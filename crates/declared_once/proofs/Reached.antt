-- The live commands of every present, as the log of a state with sets that agrees with the session's.
use Prim.Native.Nat.{ℕ, ◌<◌}
use native.Mathlib.Omega.{arith}
use mathlib.Core.Path.{◌≡◌, refl, sym, ap, ◌∙◌, subst}
use mathlib.Core.Bool.{Bool, true, false, ◌||◌}
use mathlib.Core.List.{List, [], ◌∷◌, ◌++◌}
use Rattle.book.specs.RExpr.{RExpr}
use Rattle.book.specs.Book.{Book, terms, size}
use Rattle.book.specs.Program.{Program, node_at, path}
use Rattle.book.specs.Decode.{term, program}
use Rattle.book.proofs.Every.{EveryR}
use Rattle.book.proofs.Paths.{Chain, chain}
use Rattle.book_test.specs.Promise.{Promise}
use Rattle.solver_expr.proofs.Clean.{CleanR}
use Rattle.smt_engines.specs.Command.{Command}
use Rattle.rsolver.specs.Step.{Step, ◌⨟◌}
use Rattle.rsolver.specs.LevelState.{LevelState, levelled, fresh, push, sent_by}
use Rattle.rsolver.specs.SolverState.{SolverState, new_solver, pushed, state, bodies}
use Rattle.rsolver.specs.REngine.{assume_not, declare_new_symbols, enter}
use Rattle.rsolver.proofs.Placed.{placed}
use Rattle.rsolver.proofs.Agree.{Agree, agree_fresh, agree_push}
use Rattle.rsolver.proofs.Related.{Keeps, then_k}
use Rattle.rsolver.proofs.AgreeWalk.{Inside, assume_k, assume_not_k, symbols_k}
use Rattle.rsolver.proofs.Declares.{put, Declares, sent-by, assume_not_d, symbols_d}
use Rattle.solvers.specs.declared.Owed.{Owed}
use Rattle.solvers.specs.declared.Owed.TheVariants.{Nothing, Reply, Model}
use Rattle.solvers.specs.Rule.{standing, settle, node_commands, goal_state, goal_commands, denial_commands, Present}
use Rattle.solvers.proofs.Good.{good, term_clean}
use Rattle.solvers.proofs.Standing.{settled}
use Rattle.solvers.proofs.Questions.{Asks}
use Rattle.solvers.proofs.PlacedBook.{term_placed, program_placed}
use Rattle.declared_once.specs.ToldApart.{prints_apart}
use Rattle.declared_once.specs.DeclaredOnce.{path_commands, goals_commands, commands_for, live_commands, together, DeclaredOnce}
use Rattle.declared_once.proofs.OfBook.{asked, term_of, node_of}
use Rattle.declared_once.proofs.Log.{Inv, inv_start}
use Rattle.declared_once.proofs.Posts.{Holds}
use Rattle.declared_once.proofs.Walk.{symbols_p, settle_p, deny_p}
use Rattle.declared_once.proofs.Present.{together_snoc, declared-once}

-- a state after a push that is not in the log
unfoldable hushed : ℕ → SolverState → SolverState
hushed memo t = state (pushed memo t).stack t.declarations t.additional_declared_names t.missing t.sent

hush : (p : Program) (l : List Command) (m : Bool) (s : LevelState) (t : SolverState) → Agree p (put l m s) t → (memo : ℕ)
    → Inside p (put l m (push memo s)) (hushed memo t)
unfolding hushed push pushed
hush p l m s t A memo =
    let a = agree_push A memo in
    record {
      agree =
          record {
            memos = a.memos;
            missing = a.missing;
            sent = A.sent;
            wide = a.wide;
            within = a.within;
            here = a.here;
            below = a.below;
          };
      deep = omega arith;
    }

module _ (b : Book) (P : Promise b) (T : prints_apart b ≡ true) where
  -- a session's state with this log has a state with sets
  data Reached (log : List Command) (s : LevelState) : Type 0 where
    reached : (t : SolverState) (missing : Bool) → Agree (program b) (put log missing s) t → Holds b t → Reached log s

  record Stepped (log : List Command) (s : LevelState) (t : SolverState) : Type 0 where
    missing : Bool
    inside : Inside (program b) (put log missing s) t
    holds : Holds b t

  reach : {log : List Command} {s : LevelState} {t : SolverState} → Stepped log s t → Reached log s
  reach {t = t} S = reached t S.missing S.inside.agree S.holds

  pushing : (log : List Command) (s : LevelState) (t : SolverState) (m : Bool) → Agree (program b) (put log m s) t → Holds b t → (memo : ℕ) → Stepped log (push memo s) (hushed memo t)
  unfolding hushed
  pushing log s t m a h memo = record { missing = m; inside = hush (program b) log m s t a memo; holds = h }

  -- a declaring step
  stepping : {log : List Command} {s : LevelState} {t : SolverState} → Stepped log s t → {f : Step LevelState} {g : Step SolverState} → Declares f → Keeps (Inside (program b)) f g
      → Holds b (g t) → Stepped (log ++ sent_by f s) (f s) (g t)
  stepping {log} {s} {t} S {f} {g} F K h =
      record {
        missing = S.missing || F.missed s;
        inside =
            rw (sent-by F s) (subst (λ (r : LevelState). Inside (program b) r (g t)) (F.blind s log S.missing) (K.keeps (put log S.missing s) t S.inside));
        holds = h;
      }

  reached_start : Reached [] fresh
  unfolding fresh new_solver
  reached_start = reached new_solver false (agree_fresh (program b)) (inv_start b)

  -- a node below a path
  reached_node : (n : ℕ) (ns : List ℕ) → ns ≡ path (program b) (node_at (program b) n).parent → (log : List Command) → Reached log (standing (program b) ns)
      → Reached (log ++ node_commands (program b) n) (settle (program b) n (push n (standing (program b) ns)))
  unfolding settle node_commands
  reached_node n ns c log (reached t m a h) =
      let e = (node_at (program b) n).expr in
      let Q = program_placed b P in
      let S = pushing log (standing (program b) ns) t m a h n in
      rw (← c)
      (reach (stepping S (settled (program b) (good b P) n) (then_k (symbols_k (program b) Q e (Q.node n)) (assume_k (program b) e)) (settle_p b P T e (node_of b P n) (hushed n t) S.holds)))

  entered : (n : ℕ) (ns : List ℕ) → standing (program b) (n ∷ ns) ≡ settle (program b) n (push n (standing (program b) ns))
  unfolding standing enter settle ◌⨟◌
  entered n ns = refl

  root_log : together (path_commands (program b) []) ≡ []
  unfolding together path_commands
  root_log = refl

  root_state : standing (program b) [] ≡ fresh
  unfolding standing
  root_state = refl

  node_log : (n : ℕ) (ns : List ℕ) → together (path_commands (program b) (n ∷ ns)) ≡ together (path_commands (program b) ns) ++ node_commands (program b) n
  unfolding path_commands
  node_log n ns = together_snoc (path_commands (program b) ns) (node_commands (program b) n)

  reached_path : (ns : List ℕ) → Chain (program b) ns → Reached (together (path_commands (program b) ns)) (standing (program b) ns)
  reached_path [] c = rw (root_log, root_state) reached_start
  reached_path (n ∷ ns) c =
      rw (node_log n ns, entered n ns) (reached_node n ns c.1 (together (path_commands (program b) ns)) (reached_path ns c.3))

  -- ---- a question at a node
  goal_log : (n : ℕ) (e : RExpr) → together (goals_commands (program b) n e) ≡ (together (path_commands (program b) (path (program b) n)) ++ goal_commands (program b) n e) ++ denial_commands (program b) n e
  unfolding goals_commands
  goal_log n e =
      together_snoc (path_commands (program b) (path (program b) n) ++ (goal_commands (program b) n e ∷ [])) (denial_commands (program b) n e)
      ∙ ap (λ (l : List Command). l ++ denial_commands (program b) n e) (together_snoc (path_commands (program b) (path (program b) n)) (goal_commands (program b) n e))

  reached_goal : (n : ℕ) (e : RExpr) → EveryR (asked b) e → EveryR (placed (program b)) e → CleanR e → (log : List Command) → Reached log (standing (program b) (path (program b) n))
      → Reached ((log ++ goal_commands (program b) n e) ++ denial_commands (program b) n e) (assume_not (levelled (program b)) e (goal_state (program b) n e))
  unfolding goal_commands denial_commands goal_state
  reached_goal n e E Q C log (reached t m a h) =
      let s = standing (program b) (path (program b) n) in
      let S = pushing log s t m a h n in
      let A = symbols_p b P T e E (hushed n t) S.holds in
      let u = declare_new_symbols bodies (program b) e (hushed n t) in
      let S2 = stepping S (symbols_d (program b) (good b P).axioms e C) (symbols_k (program b) (program_placed b P) e Q) A.holds in
      let D = deny_p b P T e E u A.holds A.there in
      reach (stepping S2 (assume_not_d (program b) e C) (assume_not_k (program b) e) D.holds)

  -- ---- what is reached is declared once
  reached_once : (levels : List (List Command)) (s : LevelState) → Reached (together levels) s → DeclaredOnce levels
  reached_once levels s (reached t m a h) =
      declared-once b P T levels (subst (λ (l : List Command). Inv b t.declarations t.additional_declared_names l) (sym a.sent) h)

  path_once : (n : ℕ) → DeclaredOnce (path_commands (program b) (path (program b) n))
  path_once n = reached_once _ _ (reached_path (path (program b) n) (chain (program b) (good b P).parents n))

  goal_once : (n g : ℕ) → g < size b terms → DeclaredOnce (goals_commands (program b) n (term b g))
  goal_once n g l =
      let log = together (path_commands (program b) (path (program b) n)) in
      let R = reached_goal n (term b g) (term_of b P g l) (term_placed b P g l) (term_clean b P g l) log (reached_path (path (program b) n) (chain (program b) (good b P).parents n)) in
      reached_once (goals_commands (program b) n (term b g)) (assume_not (levelled (program b)) (term b g) (goal_state (program b) n (term b g))) (rw (goal_log n (term b g)) R)

  -- at every present that a session can have
  pub present_once : (w : Present) → Asks b w w.owed → DeclaredOnce (live_commands b w)
  unfolding live_commands
  present_once w a = at w.owed a
    where
      at : (o : Owed) → Asks b w o → DeclaredOnce (commands_for (program b) o w.node (term b w.goal))
      at Nothing a = unfold commands_for in path_once w.node
      at Reply a = unfold commands_for in goal_once w.node w.goal a.0
      at Model a = unfold commands_for in goal_once w.node w.goal a.0
