-- A question, up to the check.
use Prim.Native.Nat.{ℕ, suc, ◌+◌, ◌<◌}
use mathlib.Core.Path.{◌≡◌, sym, ap, ◌∙◌}
use mathlib.Core.List.{List, [], ◌∷◌, ◌++◌, append_assoc}
use lib.ListN.{length}
use Rattle.basics.specs.Write.{MOST, WroteAt}
use Rattle.basics.proofs.Places.{at_as}
use Rattle.book.specs.Book.{Book}
use Rattle.book.specs.Program.{path, depth}
use Rattle.book.specs.Decode.{term, program}
use Rattle.book_test.specs.Promise.{Promise}
use Rattle.smt_engines.specs.Command.{Command, Push, AssumeNot, CheckSat, script}
use Rattle.rsolver.specs.LevelState.{LevelState, level_count, push, send, count, sent_by}
use Rattle.rsolver.specs.REngine.{assume_not}
use Rattle.levels.specs.declared.Progress.{Progress}
use Rattle.walk.specs.Walk.{Stands, NewSymbols}
use Rattle.solvers.specs.Rule.{standing, goal_state, goal_commands, denial_commands, question_commands}
use Rattle.solvers.proofs.Good.{good}
use Rattle.solvers.proofs.Enough.{levels_length}
use Rattle.engine.specs.Engine.{state_at, Asked, Reached, Questioned}
use Rattle.engine.proofs.Entering.{said_then, pushed}

module _ {b : Book} (P : Promise b) (node t : ℕ) {level : ℕ} {ls ls' : List ℕ} {start done : Progress} {o o' : List ℕ} (at : level ≡ suc (depth (program b) node))
    (fl : ls ≡ (state_at b node).levels) (fm : start.missing ≡ (state_at b node).missing) (N : NewSymbols b t level ls ls' start o o' done) where
  s0 : LevelState
  s0 = push node (standing (program b) (path (program b) node))

  stands : Stands s0 level ls start.missing
  unfolding s0 depth
  stands = pushed b P node (path (program b) node) at fl fm (push node (standing (program b) (path (program b) node))).sent

  goal_missing : done.missing ≡ (goal_state (program b) node (term b t)).missing
  unfolding goal_state s0
  goal_missing = sym (N.missing s0 stands)

  denial : (tag : ℕ) → tag ≡ count ls' → denial_commands (program b) node (term b t) ≡ AssumeNot (term b t) tag ∷ []
  unfolding denial_commands sent_by assume_not send goal_state s0
  denial tag e = ap {B = List Command} (λ (n : ℕ). AssumeNot (term b t) n ∷ []) (ap count (N.levels s0 stands) ∙ sym e)

  said_goal : WroteAt (script (goal_commands (program b) node (term b t))) start.at o o' done.at
  unfolding goal_commands s0
  said_goal = N.text s0 stands

  pub asked : {so r : Progress} {before o1 o2 after : List ℕ} {tag r1 r2 : ℕ} → length before < MOST + 1 → WroteAt (script (Push ∷ [])) so.at before o start.at → tag ≡ count ls'
      → WroteAt (script (Push ∷ [])) done.at o' o1 r1 → WroteAt (script (AssumeNot (term b t) tag ∷ [])) r1 o1 o2 r2 → WroteAt (script (CheckSat ∷ [])) r2 o2 after r.at
      → r.missing ≡ done.missing → Asked b node t so before after r
  unfolding question_commands
  asked {r = r} {tag = tag} short w1 e w2 w3 w4 mr =
      let g = goal_commands (program b) node (term b t) in
      let d : List Command = AssumeNot (term b t) tag ∷ [] in
      record {
        missing = mr ∙ goal_missing;
        text = at_as (ap script (ap {B = List Command} (λ (l : List Command). l ++ (CheckSat ∷ [])) (append_assoc (Push ∷ g) (Push ∷ []) d)
            ∙ (λ i. (Push ∷ g) ++ (Push ∷ sym (denial tag e) i) ++ (CheckSat ∷ []))))
            (said_then _ (CheckSat ∷ []) short (said_then _ d short (said_then _ (Push ∷ []) short (said_then (Push ∷ []) g short w1 said_goal) w2) w3) w4);
      }

-- the move and the question
module _ {b : Book} (old new t : ℕ) {ls : List ℕ} {moved r : Progress} {o o1 o2 : List ℕ} where
  pub questioned : length o < MOST + 1 → Reached b old new ls o o1 moved → Asked b new t moved o1 o2 r → Questioned b old new t ls o o2 r
  questioned short m a = record { levels = m.state.levels; missing = a.missing; text = said_then _ _ short m.text a.text }

-- as many levels as a session stores
pub levels_long : {b : Book} (P : Promise b) (node : ℕ) {ls : List ℕ} → ls ≡ (state_at b node).levels → length ls ≡ level_count
levels_long {b} P node e = ap length e ∙ levels_length (program b) (good b P) (path (program b) node)
