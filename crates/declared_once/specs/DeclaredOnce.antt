-- EVERY SYMBOL DECLARED ONCE: what is live at any moment between two calls, command by command, and what holds of it.
-- Proved in proofs/Theorem.antt: no_stranger, for every list of bytes as the book and every list of events.
use Rattle.std.specs.Prelude.{ℕ, ◌≡◌, true, false, List, [], ◌∷◌, ◌++◌}
use Rattle.std.proofs.Math.Option.{some}
use Rattle.basics.specs.Text.{Text}
use Rattle.book.specs.RExpr.{RExpr}
use Rattle.book.specs.Book.{Book}
use Rattle.book.specs.Program.{Program, path}
use Rattle.book.specs.Decode.{term, program}
use Rattle.smt_engines.specs.Command.{Command}
use Rattle.smt_engines.specs.Reader.{Stack, first, over, lines, live, read}
use Rattle.solvers.specs.declared.Owed.{Owed}
use Rattle.solvers.specs.declared.Owed.TheVariants.{Nothing, Reply, Model}
use Rattle.solvers.specs.Rule.{node_commands, goal_commands, denial_commands, Present}
use Rattle.stack_rule.specs.Events.{Event, Trace, run}
use Rattle.declared_once.specs.Symbols.{Symbol, symbols_of, operators_of, asserted, declaration_of, declares_name, built_in_types, declares_type, declares_operator, times, Among}
use Rattle.declared_once.specs.ToldApart.{told_apart, prints_apart}
use Rattle.declared_once.specs.Numbered.{Ordered}

-- ---- THE LIVE COMMANDS, the first level first
module _ (p : Program) where
  -- of a path, the node first
  unfoldable pub path_commands : List ℕ → List (List Command)
  path_commands [] = [] ∷ []
  path_commands (n ∷ ns) = path_commands ns ++ (node_commands p n ∷ [])

  unfoldable pub goals_commands : ℕ → RExpr → List (List Command)
  goals_commands n e = (path_commands (path p n) ++ (goal_commands p n e ∷ [])) ++ (denial_commands p n e ∷ [])

  unfoldable pub commands_for : Owed → ℕ → RExpr → List (List Command)
  commands_for Nothing n e = path_commands (path p n)
  commands_for Reply n e = goals_commands n e
  commands_for Model n e = goals_commands n e

unfoldable pub live_commands : Book → Present → List (List Command)
live_commands b w = commands_for (program b) w.owed w.node (term b w.goal)

-- the stack that levels are, as the reader has it
unfoldable pub stack_on : Stack → List (List Command) → Stack
stack_on st [] = st
stack_on st (l ∷ ls) = stack_on (over (lines l) st) ls

unfoldable pub stacked : List (List Command) → Stack
stacked [] = first []
stacked (l ∷ ls) = stack_on (first (lines l)) ls

unfoldable pub together : List (List Command) → List Command
together [] = []
together (l ∷ ls) = l ++ together ls

-- ---- A COMMAND'S PLACE: the levels below its own, what stands before and behind it there, and the levels above
pub record Place (levels : List (List Command)) : Type 0 where
  pub lower : List (List Command)
  pub before : List Command
  pub command : Command
  pub behind : List Command
  pub higher : List (List Command)
  pub here : levels ≡ lower ++ ((before ++ (command ∷ behind)) ∷ higher)

-- of every live assertion
pub record DeclaredOnce (levels : List (List Command)) : Type 0 where
  -- each of its symbols has exactly one live declaration
  pub one :
      (q : Place levels) (e : RExpr) → asserted q.command ≡ some e → (x : Symbol) → Among x (symbols_of e [])
      → times (declares_name x) (together levels) ≡ 1
  -- which stands earlier, at the same level or a lower one
  pub earlier :
      (q : Place levels) (e : RExpr) → asserted q.command ≡ some e → (x : Symbol) → Among x (symbols_of e [])
      → times (declares_name x) (together q.lower ++ q.before) ≡ 1
  -- and is the symbol's own
  pub own :
      (q : Place levels) (e : RExpr) → asserted q.command ≡ some e → (x : Symbol) → Among x (symbols_of e [])
      → (d : Command) → Among d (together levels) → declares_name x d ≡ true → d ≡ declaration_of x
  -- nothing live declares the name of one of its built-in operators
  pub operator :
      (q : Place levels) (e : RExpr) → asserted q.command ≡ some e → (name : Text) → Among name (operators_of e)
      → (d : Command) → Among d (together levels) → declares_operator name d ≡ false
  -- nor that of a built-in type
  pub types : (name : Text) → Among name built_in_types → (d : Command) → Among d (together levels) → declares_type name d ≡ false

-- of what a list of events has left
pub record NoStrangerAt (t : Trace) : Type 0 where
  -- all session text so far leaves live, level by level, the lines of these commands
  pub lives : read t.text ≡ live (stacked (live_commands t.book t.due))
  -- they stand in the text in the order of the levels
  pub order : Ordered t.text (stacked (live_commands t.book t.due))
  -- and no assertion among them has a symbol that the solver does not know, or knows twice
  pub once : DeclaredOnce (live_commands t.book t.due)

-- after any list of events, with the hypothesis on the newest book
pub record NoStranger (b : Book) (es : List Event) : Type 0 where
  pub told : told_apart (run b es).book ≡ true → NoStrangerAt (run b es)
  -- less is enough
  pub apart : prints_apart (run b es).book ≡ true → NoStrangerAt (run b es)
