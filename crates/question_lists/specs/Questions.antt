-- Questions that are handed over as numbers: node and goal in turn.
use Rattle.std.specs.Prelude.{ℕ, Bool, not, ◌&&◌, List, [], ◌∷◌, leb, ltb, get_or}
use Rattle.book.specs.Book.{Book, terms, contexts, size}
use Rattle.book.specs.Decode.{term, program}
use Rattle.number_lists.specs.Numbers.{cut_number}
use Rattle.smt_engines.specs.Reader.{Stack}
use Rattle.solvers.specs.declared.Owed.TheVariants.{Reply}
use Rattle.solvers.specs.Rule.{goal_state, present, must_live}

pub record Question : Type 0 where
  pub node : ℕ
  pub goal : ℕ

-- a last node without its goal is a question that is cut short: its goal is in no book
unfoldable pub questions_of : (numbers : List ℕ) → List Question
questions_of [] = []
questions_of (n ∷ []) = record { node = n; goal = cut_number } ∷ []
questions_of (n ∷ g ∷ rest) = record { node = n; goal = g } ∷ questions_of rest

-- question i; anything behind the last one
unfoldable pub question_at : List Question → ℕ → Question
question_at qs i = get_or qs i (record { node = 0; goal = 0 })

unfoldable pub numbers_of : List Question → List ℕ
numbers_of [] = []
numbers_of (q ∷ qs) = q.node ∷ q.goal ∷ numbers_of qs

module _ (b : Book) (q : Question) where
  unfoldable pub is_inside : Bool
  is_inside = leb q.node (size b contexts) && ltb q.goal (size b terms)

  -- no axiom without a term is looked up on the way to the node, nor for the goal
  unfoldable pub is_complete : Bool
  is_complete = not (goal_state (program b) q.node (term b q.goal)).missing

  -- the levels that the book gives while the question is open
  unfoldable pub stack_for : Stack
  stack_for = must_live b (present q.node q.goal Reply)
