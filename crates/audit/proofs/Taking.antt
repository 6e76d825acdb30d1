-- A line's step: whether it is a check-sat, and whether the live lines leave its question's levels.
use Prim.Native.Nat.{ℕ, ◌+◌}
use native.Mathlib.Numerals.{add-one}
use mathlib.Core.Path.{◌≡◌, sym}
use mathlib.Core.Bool.{Bool, true, false}
use mathlib.Core.List.{List}
use Rattle.basics.specs.Text.{Text, same}
use Rattle.book.specs.Book.{Book}
use Rattle.smt_engines.specs.SmtEngines.{CMD_CHECK_SAT}
use Rattle.solvers.specs.declared.Owed.TheVariants.{Reply}
use Rattle.solvers.specs.Rule.{present, must_live}
use Rattle.command_lines.specs.Lines.{line_at}
use Rattle.level_lines.specs.AsOften.{same_levels}
use Rattle.level_lines.specs.LevelLines.{stack_of}
use Rattle.own_levels.specs.OwnLevels.{Compared}
use Rattle.question_lists.specs.Questions.{questions_of, question_at, stack_for}
use Rattle.question_lists.proofs.Inside.{node_inside, goal_inside}
use Rattle.std.specs.Prelude.{Some, None}
use Rattle.audit.specs.Comparable.{Before, stepped, step_at}

module _ (b : Book) (ns : List ℕ) (s : Text) (starts : List ℕ) (n at k : ℕ) where
  pub no_question : same (line_at s at) CMD_CHECK_SAT ≡ false → Some k ≡ step_at b ns s starts n at k
  unfolding step_at stepped
  no_question e = rw e

  module _ (check : same (line_at s at) CMD_CHECK_SAT ≡ true) {node goal : ℕ} (node_is : node ≡ (question_at (questions_of ns) k).node) (goal-is : goal ≡ (question_at (questions_of ns) k).goal) where
    pub to_compare : Before b ns s starts n at k → Compared b node goal s at starts n
    to_compare r =
        record {
          promise = r.promise;
          inside = node_inside b (questions_of ns) r.inside (r.asked check).0 node_is;
          asked = goal_inside b (questions_of ns) r.inside (r.asked check).0 goal-is;
          held = r.held;
          few = r.few;
          room = (r.asked check).1;
        }

    module _ {x : Bool} (e : x ≡ same_levels (stack_of s starts n) (must_live b (present node goal Reply))) where
      -- of the question's own levels
      own : same_levels (stack_of s starts n) (stack_for b (question_at (questions_of ns) k)) ≡ x
      unfolding stack_for
      own = rw (← node_is, ← goal-is) (sym e)

      pub agrees_here : x ≡ true → Some (k + 1) ≡ step_at b ns s starts n at k
      unfolding step_at stepped
      agrees_here t = rw (check, own, t, add-one k)

      pub differs_here : x ≡ false → None ≡ step_at b ns s starts n at k
      unfolding step_at stepped
      differs_here t = rw (check, own, t)
