-- Solvers.dfy: SolverState as the bodies have it, with sets of markers and names, and copies of both in the stack's items.
use Rattle.std.specs.Prelude.{ℕ, suc, ◌+◌, ◌≡◌, Bool, true, false, ◌||◌, List, [], ◌∷◌, ◌++◌, eqb, length, if◌then◌else◌}
use Rattle.basics.specs.Text.{Text, same}
use Rattle.smt_engines.specs.Command.{Command, Push, Pop, script}
use Rattle.smt_engines.specs.Reader.{Stack, live, read, height}
use Rattle.rsolver.specs.Step.{Step}
use Rattle.rsolver.specs.Methods.{Marker, type, constant, function, axiom', Methods, with_pop}

unfoldable pub same_marker : Marker → Marker → Bool
same_marker (type j) (type k) = eqb j k
same_marker (type j) (constant k) = false
same_marker (type j) (function k) = false
same_marker (type j) (axiom' k) = false
same_marker (constant j) (type k) = false
same_marker (constant j) (constant k) = eqb j k
same_marker (constant j) (function k) = false
same_marker (constant j) (axiom' k) = false
same_marker (function j) (type k) = false
same_marker (function j) (constant k) = false
same_marker (function j) (function k) = eqb j k
same_marker (function j) (axiom' k) = false
same_marker (axiom' j) (type k) = false
same_marker (axiom' j) (constant k) = false
same_marker (axiom' j) (function k) = false
same_marker (axiom' j) (axiom' k) = eqb j k

-- a set is a list in which nothing stands twice
unfoldable pub is_in : {A : Type 0} → (A → A → Bool) → A → List A → Bool
is_in eq x [] = false
is_in eq x (y ∷ ys) = eq x y || is_in eq x ys

unfoldable pub with' : {A : Type 0} → (A → A → Bool) → A → List A → List A
with' eq x xs = if is_in eq x xs then xs else x ∷ xs

pub record StackItem : Type 0 where
  pub memo : ℕ
  pub decls : List Marker
  pub names : List Text

-- `sent` is what smtEngine was told; `missing`: an axiom was looked up that is not in axiomMap
pub record SolverState : Type 0 where
  pub stack : List StackItem
  pub declarations : List Marker
  pub additional_declared_names : List Text
  pub missing : Bool
  pub sent : List Command

unfoldable pub new_solver : SolverState
new_solver = record { stack = []; declarations = []; additional_declared_names = []; missing = false; sent = [] }

unfoldable pub is_top : ℕ → List StackItem → Bool
is_top memo [] = false
is_top memo (item ∷ items) = eqb item.memo memo

abbrev pub state : List StackItem → List Marker → List Text → Bool → List Command → SolverState
state st d n m c = record { stack = st; declarations = d; additional_declared_names = n; missing = m; sent = c }

unfoldable pub pushed : ℕ → Step SolverState
pushed memo s =
    state (record { memo = memo; decls = s.declarations; names = s.additional_declared_names } ∷ s.stack) s.declarations s.additional_declared_names s.missing (s.sent ++ (Push ∷ []))

-- Pop is asked of a stack that is not empty; the first line only makes the step total, and is never met (bodies_or, below)
unfoldable pub pop_to : List StackItem → Step SolverState
pop_to [] s = state [] [] [] s.missing (s.sent ++ (Pop ∷ []))
pop_to (item ∷ items) s = state items item.decls item.names s.missing (s.sent ++ (Pop ∷ []))

unfoldable pub popped : Step SolverState
popped s = pop_to s.stack s

-- Pop with any step at all in place of that line
unfoldable pub pop_to_or : (wrong : Step SolverState) → List StackItem → Step SolverState
pop_to_or wrong [] s = wrong s
pop_to_or wrong (item ∷ items) s = pop_to (item ∷ items) s

unfoldable pub popped_or : (wrong : Step SolverState) → Step SolverState
popped_or wrong s = pop_to_or wrong s.stack s

unfoldable pub told : Command → Step SolverState
told c s = state s.stack s.declarations s.additional_declared_names s.missing (s.sent ++ (c ∷ []))

unfoldable pub marked : Marker → Step SolverState
marked m s = state s.stack (with' same_marker m s.declarations) s.additional_declared_names s.missing s.sent

unfoldable pub named : Text → Step SolverState
named name s = state s.stack s.declarations (with' same name s.additional_declared_names) s.missing s.sent

unfoldable pub missed : Step SolverState
missed s = state s.stack s.declarations s.additional_declared_names true s.sent

abbrev pub bodies : Methods SolverState
bodies =
    record {
      stack_length = λ s. length s.stack;
      is_top_memo = λ memo s. is_top memo s.stack;
      is_declared = λ m s. is_in same_marker m s.declarations;
      is_named = λ name s. is_in same name s.additional_declared_names;
      declared_count = λ s. length s.declarations + length s.additional_declared_names;
      push = pushed;
      pop = popped;
      send = told;
      add_declaration_marker = marked;
      add_name = λ t name. named name;
      miss = missed;
    }

-- the bodies with that Pop. Whatever `wrong` is, they do the same (`Seen.pops` in stack_rule/specs/StackRule): so no Pop finds an empty stack
abbrev pub bodies_or : (wrong : Step SolverState) → Methods SolverState
bodies_or wrong = with_pop (popped_or wrong) bodies

-- Valid(): stack.Length() + 1 == smtEngine.CommandStacks.Length(). The assertion stack, when it has read what was sent, is CommandStacks.
-- `inner` is 0, and 1 within SolverState.Prove, which pushes a level of the solver alone and pops it at its end.
pub record Valid (inner : ℕ) (s : SolverState) : Type 0 where
  pub command_stacks : Stack
  pub reads : read (script s.sent) ≡ live command_stacks
  pub lengths : height command_stacks ≡ inner + suc (length s.stack)
