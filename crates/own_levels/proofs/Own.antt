-- Our question from the root: its commands before the check-sat, the levels they leave, and its text in a buffer.
use Prim.Native.Nat.{ℕ, ◌+◌, ◌-◌, ◌≤◌, ◌<◌}
use native.Mathlib.Omega.{arith}
use mathlib.Core.Path.{◌≡◌, refl, sym, ap, ◌∙◌}
use mathlib.Core.Bool.{Bool, true, false}
use mathlib.Core.List.{List, [], ◌∷◌, ◌++◌, append_assoc}
use lib.ListN.{length, take, length-append}
use lib.Seq.{take-take, take_at}
use Rattle.basics.specs.Text.{Text}
use Rattle.basics.specs.Write.{WroteAt}
use Rattle.basics.proofs.All.{All, all_append}
use Rattle.basics.proofs.Places.{at_taken}
use Rattle.book.specs.Book.{Book, terms, size}
use Rattle.book.specs.Program.{path, path_up, depth, shared}
use Rattle.book.specs.Decode.{term, program}
use Rattle.book_test.specs.Promise.{Promise}
use Rattle.smt_engines.specs.SmtEngines.{CMD_CHECK_SAT}
use Rattle.smt_engines.specs.Command.{Command, Push, CheckSat, command_to_string, script}
use Rattle.smt_engines.specs.Reader.{first, live, lost, Reader, hear_all, hear, lines, read}
use Rattle.smt_engines.proofs.Hearing.{hears, hears_append, hears_check, script_append, read_script}
use Rattle.rsolver.specs.LevelState.{fresh, no_levels}
use Rattle.engine.specs.Engine.{state_at}
use Rattle.solvers.specs.declared.Owed.TheVariants.{Reply}
use Rattle.solvers.specs.Rule.{standing, levels_of, goal_commands, denial_commands, goal_levels, levels_for, move_commands, question_commands, present, must_live}
use Rattle.solvers.proofs.Good.{good, term_clean}
use Rattle.solvers.proofs.Standing.{travel}
use Rattle.solvers.proofs.Questions.{hears_question}
use Rattle.live_lines.specs.LiveLines.{script_most}
use Rattle.level_lines.specs.AsOften.{same_levels}
use Rattle.level_lines.specs.LevelLines.{stack_of}
use Rattle.level_lines.proofs.Bytes.{same_bytes}
use Rattle.own_levels.specs.OwnLevels.{check_bytes, Compared, OwnText}
use Rattle.own_levels.proofs.Sent.{entering_all, question_all}
use Rattle.own_levels.proofs.Kept.{Kept, push_kept, plain_kept, wholes, own_text, script_bytes}

-- a check-sat changes nothing
checked : (r : Reader) → hears r (CheckSat ∷ []) ≡ r
unfolding hears hear_all hear lines
checked (live st) = hears_check st
checked lost = refl

-- where a fresh session stands
pub root_levels : (b : Book) {ls : List ℕ} → ls ≡ no_levels → ls ≡ (state_at b 0).levels
unfolding standing path path_up fresh
root_levels b e = e

pub root_clear : (b : Book) → (state_at b 0).missing ≡ false
unfolding standing path path_up fresh
root_clear b = refl

-- the move to the node and the question, all and before the check-sat
abbrev asked : Book → (node goal : ℕ) → List Command
asked b node goal = move_commands (program b) 0 node ++ question_commands (program b) node (term b goal)

unfoldable before : Book → (node goal : ℕ) → List Command
before b node goal = move_commands (program b) 0 node ++ ((Push ∷ goal_commands (program b) node (term b goal)) ++ (Push ∷ denial_commands (program b) node (term b goal)))

asked_is : (b : Book) (node goal : ℕ) → asked b node goal ≡ before b node goal ++ (CheckSat ∷ [])
unfolding before question_commands
asked_is b node goal =
    sym (append_assoc (move_commands (program b) 0 node) ((Push ∷ goal_commands (program b) node (term b goal)) ++ (Push ∷ denial_commands (program b) node (term b goal))) (CheckSat ∷ []))

module _ (b : Book) (P : Promise b) (node goal : ℕ) (inside : goal < size b terms) where
  heard : hears (live (first [])) (before b node goal) ≡ live (must_live b (present node goal Reply))
  unfolding must_live levels_for goal_levels present levels_of path path_up
  heard =
      let G = good b P in
      let ask = question_commands (program b) node (term b goal) in
      sym (checked (hears (live (first [])) (before b node goal))) ∙ sym (hears_append (live (first [])) (before b node goal) (CheckSat ∷ []))
      ∙ ap (hears (live (first []))) (sym (asked_is b node goal))
      ∙ hears_append (live (first [])) (move_commands (program b) 0 node) ask ∙ ap (λ r. hears r ask) (travel (program b) G 0 node (root_clear b)).heard
      ∙ hears_question b G (term_clean b P) node (term b goal) (term_clean b P goal inside) (levels_of (program b) (path (program b) node))

  -- from the root nothing is popped
  kept : All Kept (before b node goal)
  unfolding before move_commands path path_up depth shared
  kept =
      let G = good b P in
      all_append (entering_all Kept push_kept plain_kept (program b) G _)
      (question_all Kept push_kept plain_kept (program b) G node (term b goal) (term_clean b P goal inside))

  -- ---- its text
  script_is : script (asked b node goal) ≡ script (before b node goal) ++ script (CheckSat ∷ [])
  script_is = ap script (asked_is b node goal) ∙ script_append (before b node goal) (CheckSat ∷ [])

  script_length : length (script (asked b node goal)) ≡ length (script (before b node goal)) + check_bytes
  unfolding script command_to_string CMD_CHECK_SAT
  script_length = ap length script_is ∙ length-append (script (before b node goal)) (script (CheckSat ∷ []))

  module _ {o o' : List ℕ} {r : ℕ} (W : WroteAt (script (asked b node goal)) 0 o o' r) where
    pub long_enough : check_bytes ≤ r
    long_enough = omega (arith, W.counted, script_length)

    -- longer than the script: other levels
    pub too_long : {script : Text} {at : ℕ} {starts : List ℕ} {n : ℕ} → Compared b node goal script at starts n → at + check_bytes < r
        → false ≡ same_levels (stack_of script starts n) (must_live b (present node goal Reply))
    too_long {script} {at} {starts} {n} C h = by (same_levels (stack_of script starts n) (must_live b (present node goal Reply))) refl
      where
        by : (x : Bool) → same_levels (stack_of script starts n) (must_live b (present node goal Reply)) ≡ x → false ≡ x
        by true e =
            absurd (omega (arith, same_bytes (stack_of script starts n) (must_live b (present node goal Reply)) e, script_bytes kept heard, C.few, W.counted, script_length, h))
        by false e = refl

    -- in its buffer, up to the check-sat
    module _ (room : length o ≡ script_most) (fits : r ≤ script_most) where
      shown : take (r - check_bytes) o' ≡ script (before b node goal)
      shown =
          let e : r ≡ length (script (before b node goal)) + check_bytes = omega (arith, W.counted, script_length) in
          sym (take-take (r - check_bytes) r o' (omega arith))
          ∙ ap (take (r - check_bytes)) (at_taken W (omega (arith, script_length)) (e ∙ sym script_length) ∙ script_is)
          ∙ take_at (script (before b node goal)) (script (CheckSat ∷ [])) (r - check_bytes) (omega (arith, e))

      pub own_short : OwnText (take (r - check_bytes) o')
      own_short = rw shown (own_text kept (omega (arith, W.counted, script_length)))

      pub own_read : read (take (r - check_bytes) o') ≡ live (must_live b (present node goal Reply))
      own_read = ap read shown ∙ read_script (wholes kept) ∙ heard
