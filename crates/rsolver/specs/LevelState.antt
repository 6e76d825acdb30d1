-- The solver state as the session stores it: for each record the level where it was declared, 0 for not declared, in one list with a
-- fixed place for each record. A literal's name is declared at its term. The stack holds the memos alone, the top first.
use Rattle.std.specs.Prelude.{ℕ, zero, suc, ◌+◌, Bool, true, false, not, ◌&&◌, ◌||◌, eqb, leb, length, get_or, drop, replicate, if◌then◌else◌}
use mathlib.Core.List.{List, [], ◌∷◌, ◌++◌, tail}
use Rattle.std.proofs.Math.Option.{Option, none, some}
use Rattle.basics.specs.Text.{Text, same}
use Rattle.book.specs.Book.{types, constants, functions, axioms, terms}
use Rattle.book.specs.RExpr.{Literal}
use Rattle.book.specs.Program.{Program}
use Rattle.solver_expr.specs.Lowering.{literal_name}
use Rattle.smt_engines.specs.Command.{Command, Push, Pop}
use Rattle.rsolver.specs.Step.{Step}
use Rattle.rsolver.specs.Methods.{Marker, type, constant, function, axiom', Methods}

-- where the records of each section begin: as many places as the section's largest count
abbrev pub constant_places : ℕ
constant_places = types.most

abbrev pub function_places : ℕ
function_places = constant_places + constants.most

abbrev pub axiom_places : ℕ
axiom_places = function_places + functions.most

abbrev pub literal_places : ℕ
literal_places = axiom_places + axioms.most

abbrev pub level_count : ℕ
level_count = literal_places + terms.most

unfoldable pub place : Marker → ℕ
place (type k) = k
place (constant k) = constant_places + k
place (function k) = function_places + k
place (axiom' k) = axiom_places + k

unfoldable pub literal_place : ℕ → ℕ
literal_place t = literal_places + t

-- a place joins those declared at level n: what is declared keeps its level
unfoldable pub join_at : List ℕ → ℕ → ℕ → List ℕ
join_at [] k n = []
join_at (zero ∷ ls) zero n = n ∷ ls
join_at (suc l ∷ ls) zero n = suc l ∷ ls
join_at (l ∷ ls) (suc k) n = l ∷ join_at ls k n

-- on leaving level n, what was declared there is not declared
unfoldable pub forget : ℕ → List ℕ → List ℕ
forget n [] = []
forget n (l ∷ ls) = (if leb n l then 0 else l) ∷ forget n ls

unfoldable pub count : List ℕ → ℕ
count [] = 0
count (zero ∷ ls) = count ls
count (suc l ∷ ls) = suc (count ls)

unfoldable pub has_name : Text → Option Literal → Bool
has_name name none = false
has_name name (some l) = same name (literal_name l)

-- some declared literal has this name
unfoldable pub name_in : Text → List (Option Literal) → List ℕ → Bool
name_in name [] ls = false
name_in name (t ∷ ts) [] = false
name_in name (t ∷ ts) (l ∷ ls) = not (eqb l 0) && has_name name t || name_in name ts ls

pub record LevelState : Type 0 where
  pub stack : List ℕ
  pub levels : List ℕ
  pub missing : Bool
  pub sent : List Command

abbrev pub level_state : List ℕ → List ℕ → Bool → List Command → LevelState
level_state st ls m c = record { stack = st; levels = ls; missing = m; sent = c }

unfoldable pub no_levels : List ℕ
no_levels = replicate level_count 0

unfoldable pub fresh : LevelState
fresh = level_state [] no_levels false []

-- stack.Cons? && stack.head.memo == memo
unfoldable pub is_top : ℕ → List ℕ → Bool
is_top memo [] = false
is_top memo (m ∷ ms) = eqb m memo

unfoldable pub is_declared_at : ℕ → LevelState → Bool
is_declared_at k s = not (eqb (get_or s.levels k 0) 0)

unfoldable pub push : ℕ → Step LevelState
push memo s = level_state (memo ∷ s.stack) s.levels s.missing (s.sent ++ (Push ∷ []))

unfoldable pub pop : Step LevelState
pop s = level_state (tail s.stack) (forget (length s.stack) s.levels) s.missing (s.sent ++ (Pop ∷ []))

unfoldable pub send : Command → Step LevelState
send c s = level_state s.stack s.levels s.missing (s.sent ++ (c ∷ []))

unfoldable pub declare_at : ℕ → Step LevelState
declare_at k s = level_state s.stack (join_at s.levels k (length s.stack)) s.missing s.sent

unfoldable pub miss : Step LevelState
miss s = level_state s.stack s.levels true s.sent

-- what a step sends
unfoldable pub sent_by : Step LevelState → LevelState → List Command
sent_by f s = (f (level_state s.stack s.levels s.missing [])).sent

abbrev pub levelled : Program → Methods LevelState
levelled p =
    record {
      stack_length = λ s. length s.stack;
      is_top_memo = λ memo s. is_top memo s.stack;
      is_declared = λ m s. is_declared_at (place m) s;
      is_named = λ name s. name_in name p.literals (drop literal_places s.levels);
      declared_count = λ s. count s.levels;
      push = push;
      pop = pop;
      send = send;
      add_declaration_marker = λ m. declare_at (place m);
      add_name = λ t name. declare_at (literal_place t);
      miss = miss;
    }
