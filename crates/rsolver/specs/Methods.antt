-- What REngine asks of a solver state. There are two: the one that Solvers.dfy has (SolverState), and the one that the session stores
-- (LevelState). The engine is written once, over this record, and the two are proved to send the same.
use Rattle.std.specs.Prelude.{ℕ, Bool}
use Rattle.basics.specs.Text.{Text}
use Rattle.smt_engines.specs.Command.{Command}
use Rattle.rsolver.specs.Step.{Step}

-- DeclarationMarker: the record's number
pub data Marker : Type 0 where
  type constant function axiom' : ℕ → Marker

pub record Methods (S : Type 0) : Type 0 where
  pub stack_length : S → ℕ  -- stack.Length()
  pub is_top_memo : ℕ → S → Bool
  pub is_declared : Marker → S → Bool  -- marker in declarations
  pub is_named : Text → S → Bool  -- name in additional_declared_names
  pub declared_count : S → ℕ  -- |declarations| + |additionalDeclaredNames|
  pub push : ℕ → Step S
  pub pop : Step S
  pub send : Command → Step S  -- what smtEngine is told
  pub add_declaration_marker : Marker → Step S
  pub add_name : ℕ → Text → Step S  -- the literal term that declares a name, and the name
  pub miss : Step S  -- an axiom was looked up that is not in axiomMap

-- the same methods, but for Pop
abbrev pub with_pop : {S : Type 0} → Step S → Methods S → Methods S
with_pop pop M =
    record {
      stack_length = M.stack_length;
      is_top_memo = M.is_top_memo;
      is_declared = M.is_declared;
      is_named = M.is_named;
      declared_count = M.declared_count;
      push = M.push;
      pop = pop;
      send = M.send;
      add_declaration_marker = M.add_declaration_marker;
      add_name = M.add_name;
      miss = M.miss;
    }
