-- A node is entered: a push, its symbols, its assertion.
use Prim.Native.Nat.{ℕ, zero, suc, ◌+◌, ◌-◌, ◌≤◌, ◌<◌}
use native.Mathlib.Omega.{arith}
use mathlib.Core.Path.{◌≡◌, sym, ap, ◌∙◌}
use mathlib.Core.Bool.{Bool}
use mathlib.Core.List.{List, [], ◌∷◌, ◌++◌}
use lib.ListN.{length, take, length-take}
use Rattle.basics.specs.Write.{MOST, WroteAt}
use Rattle.basics.proofs.Places.{at_then, at_as}
use Rattle.book.specs.Book.{Book, terms, contexts, size, field, depth_most}
use Rattle.book.specs.RExpr.{RExpr}
use Rattle.book.specs.Program.{Context, node_at, path, depth}
use Rattle.book.specs.Decode.{context_of, term, program}
use Rattle.book.proofs.Terms.{node-at}
use Rattle.book.proofs.Paths.{path_step}
use Rattle.book_test.specs.Promise.{Promise}
use Rattle.contexts.proofs.Climb.{depth_few}
use Rattle.smt_engines.specs.Command.{Command, Push, Assume, script}
use Rattle.smt_engines.proofs.Hearing.{script_append}
use Rattle.rsolver.specs.Step.{◌⨟◌}
use Rattle.rsolver.specs.LevelState.{LevelState, level_state, levelled, push, send, count, sent_by}
use Rattle.rsolver.specs.REngine.{assume, declare_new_symbols, enter}
use Rattle.levels.specs.Did.{Ready}
use Rattle.levels.specs.declared.Progress.{Progress}
use Rattle.walk.specs.Walk.{Stands, NewSymbols}
use Rattle.solvers.specs.Rule.{standing, settle, node_commands}
use Rattle.solvers.proofs.Good.{good}
use Rattle.solvers.proofs.Standing.{standing_stack}
use Rattle.solvers.proofs.Enough.{levels_length}
use Rattle.engine.specs.Engine.{state_at, IsState, Entered}

-- commands after commands
pub said_then : (x y : List Command) {o o1 o2 : List ℕ} {n r1 r : ℕ} → length o < MOST + 1 → WroteAt (script x) n o o1 r1 → WroteAt (script y) r1 o1 o2 r → WroteAt (script (x ++ y)) n o o2 r
said_then x y short w1 w2 = at_as (sym (script_append x y)) (at_then short w1 w2)

-- the assertion of a context's term
node_term : (b : Book) (node t : ℕ) → 0 < node → node ≤ size b contexts → t ≡ field b contexts (node - 1) 1 → (node_at (program b) node).expr ≡ term b t
unfolding context_of
node_term b zero t h l e = absurd (omega arith)
node_term b (suc k) t h l e =
    let j : suc k - 1 ≡ k = omega arith in
    let f : t ≡ field b contexts k 1 = rw j at e in
    ap (λ (c : Context). c.expr) (node-at b k (omega arith)) ∙ ap (term b) (sym f)

pub term_here : (b : Book) → Promise b → (node t : ℕ) → 0 < node → node ≤ size b contexts → t ≡ field b contexts (node - 1) 1 → t < size b terms
term_here b P node t h l e = rw e (P.context (node - 1) (omega arith)).term

-- the state after a push
pub pushed : (b : Book) → Promise b → (node : ℕ) (ns : List ℕ) {level : ℕ} {ls : List ℕ} {m : Bool} → level ≡ suc (length ns)
    → ls ≡ (standing (program b) ns).levels → m ≡ (standing (program b) ns).missing → (l : List Command)
    → Stands (level_state (push node (standing (program b) ns)).stack (push node (standing (program b) ns)).levels (push node (standing (program b) ns)).missing l) level ls m
unfolding push
pushed b P node ns e f g l =
    record {
      height = ap (λ (st : List ℕ). suc (length st)) (standing_stack (program b) (good b P) ns) ∙ sym e;
      levels = sym f;
      missing = sym g;
    }

module _ (b : Book) (P : Promise b) (node t : ℕ) {level : ℕ} {ls ls' : List ℕ} {start done : Progress} {o o' : List ℕ}
    (deep : 0 < node) (inside : node ≤ size b contexts) (is : t ≡ field b contexts (node - 1) 1)
    (at : level ≡ suc (length (path (program b) (node_at (program b) node).parent)))
    (state : IsState (state_at b (node_at (program b) node).parent) ls start)
    (N : NewSymbols b t level ls ls' start o o' done) where
  s0 : LevelState
  s0 = push node (standing (program b) (path (program b) (node_at (program b) node).parent))

  stands : (l : List Command) → Stands (level_state s0.stack s0.levels s0.missing l) level ls start.missing
  unfolding s0
  stands l = pushed b P node (path (program b) (node_at (program b) node).parent) at state.levels state.missing l

  arrived : state_at b node ≡ assume (levelled (program b)) (term b t) (declare_new_symbols (levelled (program b)) (program b) (term b t) s0)
  unfolding standing enter ◌⨟◌ s0
  arrived =
      ap (standing (program b)) (path_step (program b) (good b P).parents node deep)
      ∙ ap (λ (e : RExpr). assume (levelled (program b)) e (declare_new_symbols (levelled (program b)) (program b) e (push node (standing (program b) (path (program b) (node_at (program b) node).parent)))))
      (node_term b node t deep inside is)

  commands : (tag : ℕ) → tag ≡ count ls' → node_commands (program b) node ≡ sent_by (declare_new_symbols (levelled (program b)) (program b) (term b t)) s0 ++ (Assume (term b t) tag ∷ [])
  unfolding node_commands settle sent_by ◌⨟◌ assume send s0
  commands tag e =
      ap (λ (x : RExpr). (assume (levelled (program b)) x (declare_new_symbols (levelled (program b)) (program b) x (level_state s0.stack s0.levels s0.missing []))).sent) (node_term b node t deep inside is)
      ∙ ap {B = List Command} (λ (n : ℕ). (declare_new_symbols (levelled (program b)) (program b) (term b t) (level_state s0.stack s0.levels s0.missing [])).sent ++ (Assume (term b t) n ∷ []))
      (ap count (N.levels (level_state s0.stack s0.levels s0.missing []) (stands [])) ∙ sym e)

  entered_levels : ls' ≡ (state_at b node).levels
  unfolding assume send
  entered_levels = sym (N.levels s0 (stands s0.sent)) ∙ ap (λ (s : LevelState). s.levels) (sym arrived)

  entered_missing : done.missing ≡ (state_at b node).missing
  unfolding assume send
  entered_missing = sym (N.missing s0 (stands s0.sent)) ∙ ap (λ (s : LevelState). s.missing) (sym arrived)

  pub entered : (so : Progress) {r : Progress} {before after : List ℕ} {tag : ℕ} → length before < MOST + 1 → WroteAt (script (Push ∷ [])) so.at before o start.at → tag ≡ count ls'
      → WroteAt (script (Assume (term b t) tag ∷ [])) done.at o' after r.at → r.missing ≡ done.missing → Entered b node ls' so before after r
  entered so {r} {before} {after} {tag} short w1 e w2 m =
      record {
        state = record { levels = entered_levels; missing = m ∙ entered_missing };
        text = at_as (ap {B = List ℕ} (λ (x : List Command). script (Push ∷ x)) (sym (commands tag e)))
            (said_then _ (Assume (term b t) tag ∷ []) short (said_then (Push ∷ []) _ short w1 (N.text s0 (stands s0.sent))) w2);
      }

-- the levels have a place for each record
pub ready : {b : Book} (P : Promise b) (ns : List ℕ) {level k : ℕ} {ls : List ℕ} → level ≡ suc k → ls ≡ (standing (program b) ns).levels → Ready b level ls
ready {b} P ns e f = record { promise = P; deep = omega arith; wide = ap length f ∙ levels_length (program b) (good b P) ns }

-- the length of a path, as the code has it
pub depth_is : (b : Book) (node : ℕ) {nodes : List ℕ} → nodes ≡ path (program b) node → length nodes ≡ depth (program b) node
unfolding depth
depth_is b node e = ap length e

pub same_wide : {b : Book} (P : Promise b) (ns ns' : List ℕ) {ls ls' : List ℕ} → ls ≡ (standing (program b) ns).levels → ls' ≡ (standing (program b) ns').levels → length ls' ≡ length ls
same_wide {b} P ns ns' e f = ap length f ∙ levels_length (program b) (good b P) ns' ∙ sym (ap length e ∙ levels_length (program b) (good b P) ns)

pub few_deep : {b : Book} → Promise b → (node : ℕ) → node ≤ size b contexts → depth (program b) node ≤ depth_most
unfolding depth
few_deep {b} P node h = depth_few b P node h
