-- What the functions of SetContext and Prove ask and give, in the words of the stack rule.
use Rattle.std.specs.Prelude.{ℕ, suc, ◌≤◌, ◌<◌, ◌≡◌, false, List, [], ◌∷◌, ◌++◌, reverse, length, take, drop}
use Rattle.basics.specs.Write.{WroteAt}
use Rattle.book.specs.Book.{Book, terms, contexts, size}
use Rattle.book.specs.Program.{node_at, path, depth}
use Rattle.book.specs.Decode.{term, program}
use Rattle.book_test.specs.Promise.{Promise}
use Rattle.smt_engines.specs.Command.{Push, script}
use Rattle.rsolver.specs.LevelState.{LevelState}
use Rattle.levels.specs.declared.Progress.{Progress}
use Rattle.solvers.specs.Rule.{standing, node_commands, entering, move_commands, goal_state, question_commands}

-- the state of a fresh session that was moved down to a node
abbrev pub state_at : Book → ℕ → LevelState
state_at b node = standing (program b) (path (program b) node)

-- the levels and what is missing are those of the state
pub record IsState (s : LevelState) (ls : List ℕ) (so : Progress) : Type 0 where
  pub levels : ls ≡ s.levels
  pub missing : so.missing ≡ s.missing

-- at the parent of a node, whose depth is `level`
pub record Above (b : Book) (node k : ℕ) (ls : List ℕ) (so : Progress) : Type 0 where
  pub promise : Promise b
  pub inside : node ≤ size b contexts
  pub below : 0 < node
  pub level : k ≡ suc (length (path (program b) (node_at (program b) node).parent))
  pub state : IsState (state_at b (node_at (program b) node).parent) ls so

pub record Entered (b : Book) (node : ℕ) (ls : List ℕ) (so : Progress) (o o' : List ℕ) (r : Progress) : Type 0 where
  pub state : IsState (state_at b node) ls r
  pub text : WroteAt (script (Push ∷ node_commands (program b) node)) so.at o o' r.at

-- at the node that is `count` nodes above a node
pub record Downward (b : Book) (node count : ℕ) (ls : List ℕ) (so : Progress) : Type 0 where
  pub promise : Promise b
  pub inside : node ≤ size b contexts
  pub few : count ≤ depth (program b) node
  pub state : IsState (standing (program b) (drop count (path (program b) node))) ls so

pub record Descended (b : Book) (node count : ℕ) (ls : List ℕ) (so : Progress) (o o' : List ℕ) (r : Progress) : Type 0 where
  pub state : IsState (state_at b node) ls r
  pub text : WroteAt (script (entering (program b) (reverse (take count (path (program b) node))))) so.at o o' r.at

-- at a node where no axiom was missed, before a move
pub record Standing (b : Book) (old new : ℕ) (ls : List ℕ) : Type 0 where
  pub promise : Promise b
  pub from : old ≤ size b contexts
  pub to : new ≤ size b contexts
  pub levels : ls ≡ (state_at b old).levels
  pub clear : (state_at b old).missing ≡ false

pub record Reached (b : Book) (old new : ℕ) (ls : List ℕ) (o o' : List ℕ) (r : Progress) : Type 0 where
  pub state : IsState (state_at b new) ls r
  pub text : WroteAt (script (move_commands (program b) old new)) 0 o o' r.at

-- at a node, before a question
pub record Asking (b : Book) (node t k : ℕ) (ls : List ℕ) (so : Progress) : Type 0 where
  pub promise : Promise b
  pub inside : node ≤ size b contexts
  pub goal : t < size b terms
  pub level : k ≡ suc (depth (program b) node)
  pub state : IsState (state_at b node) ls so

pub record Asked (b : Book) (node goal : ℕ) (so : Progress) (o o' : List ℕ) (r : Progress) : Type 0 where
  pub missing : r.missing ≡ (goal_state (program b) node (term b goal)).missing
  pub text : WroteAt (script (question_commands (program b) node (term b goal))) so.at o o' r.at

-- the move to the node, and the question
pub record Questioning (b : Book) (old new t : ℕ) (ls : List ℕ) : Type 0 where
  pub promise : Promise b
  pub from : old ≤ size b contexts
  pub to : new ≤ size b contexts
  pub levels : ls ≡ (state_at b old).levels
  pub clear : (state_at b old).missing ≡ false
  pub goal : t < size b terms

pub record Questioned (b : Book) (old new t : ℕ) (ls : List ℕ) (o o' : List ℕ) (r : Progress) : Type 0 where
  pub levels : ls ≡ (state_at b new).levels
  pub missing : r.missing ≡ (goal_state (program b) new (term b t)).missing
  pub text : WroteAt (script (move_commands (program b) old new ++ question_commands (program b) new (term b t))) 0 o o' r.at
