-- How many questions a list of numbers has, and which question stands at a place.
use Prim.Native.Nat.{ℕ, zero, suc, ◌+◌, ◌*◌, ◌≤◌, ◌<◌}
use native.Mathlib.Omega.{arith}
use native.Mathlib.Numerals.{unary_clauses}
use mathlib.Core.Path.{◌≡◌, refl}
use mathlib.Core.List.{List, [], ◌∷◌}
use lib.ListN.{length, get_or}
use Rattle.number_lists.specs.Numbers.{cut_number}
use Rattle.question_lists.specs.Questions.{questions_of, question_at}

-- two numbers each, but for the last
pub record Counted (ns : List ℕ) : Type 0 where
  pub reach : length ns ≤ 2 * length (questions_of ns)
  pub close : 2 * length (questions_of ns) ≤ length ns + 1

pub counted : (ns : List ℕ) → Counted ns
unfolding questions_of
counted [] = record { reach = omega arith; close = omega arith }
counted (n ∷ []) = record { reach = omega arith; close = omega arith }
counted (n ∷ g ∷ rest) = let r = counted rest in record { reach = omega (arith, r.reach); close = omega (arith, r.close) }

pub node_at : (ns : List ℕ) (i : ℕ) → i < length (questions_of ns) → get_or ns (2 * i) 0 ≡ (question_at (questions_of ns) i).node
unfolding questions_of question_at
node_at [] i l = absurd (omega arith)
node_at (n ∷ []) zero l = refl
node_at (n ∷ []) (suc i) l = absurd (omega arith)
node_at (n ∷ g ∷ rest) zero l = refl
node_at (n ∷ g ∷ rest) (suc i) l = simp unary_clauses (node_at rest i (omega arith))

pub goal_at : (ns : List ℕ) (i : ℕ) → 2 * i + 1 < length ns → get_or ns (2 * i + 1) 0 ≡ (question_at (questions_of ns) i).goal
unfolding questions_of question_at
goal_at [] i l = absurd (omega arith)
goal_at (n ∷ []) i l = absurd (omega arith)
goal_at (n ∷ g ∷ rest) zero l = refl
goal_at (n ∷ g ∷ rest) (suc i) l = simp unary_clauses (simp unary_clauses at (goal_at rest i (omega arith)))

-- one without its goal is the last
pub goal_cut : (ns : List ℕ) (i : ℕ) → i < length (questions_of ns) → length ns ≤ 2 * i + 1 → cut_number ≡ (question_at (questions_of ns) i).goal
unfolding questions_of question_at
goal_cut [] i l h = absurd (omega arith)
goal_cut (n ∷ []) zero l h = refl
goal_cut (n ∷ []) (suc i) l h = absurd (omega arith)
goal_cut (n ∷ g ∷ rest) zero l h = absurd (omega arith)
goal_cut (n ∷ g ∷ rest) (suc i) l h = goal_cut rest i (omega arith) (omega arith)
