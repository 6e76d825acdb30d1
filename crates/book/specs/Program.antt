-- What a book holds, as data: axioms, literals and contexts by their numbers; and the paths of its tree.
use Rattle.std.specs.Prelude.{ℕ, zero, suc, ◌-◌, List, [], ◌∷◌, true, length, get_or, if◌then◌else◌}
use Rattle.std.proofs.Math.Option.{Option, none}
use Rattle.basics.specs.Text.{Text}
use Rattle.basics.specs.Lists.{member}
use Rattle.book.specs.RExpr.{RExpr, Boolean, Literal}

-- Ast.Axiom with its entry in axiomMap, or none
pub record Axiom : Type 0 where
  pub term : Option RExpr
  pub explains : List ℕ

-- RContextNode; parent 0 is RContextRoot
pub record Context : Type 0 where
  pub parent : ℕ
  pub expr : RExpr
  pub trace_string : Option Text

pub record Program : Type 0 where
  pub axioms : List Axiom
  pub literals : List (Option Literal)  -- for each term, what it says if it is a literal
  pub contexts : List Context

abbrev pub axiom_at : Program → ℕ → Axiom
axiom_at p k = get_or p.axioms k (record { term = none; explains = [] })

-- node i + 1 is context record i
unfoldable pub node_at : Program → ℕ → Context
node_at p node = get_or p.contexts (node - 1) (record { parent = 0; expr = Boolean true; trace_string = none })

-- the nodes from one up to the root, the root left out
unfoldable pub path_up : Program → (fuel node : ℕ) → List ℕ
path_up p zero node = []
path_up p (suc fuel) zero = []
path_up p (suc fuel) (suc n) = suc n ∷ path_up p fuel (node_at p (suc n)).parent

-- a parent's number is smaller, so the node's own number is fuel enough
unfoldable pub path : Program → ℕ → List ℕ
path p node = path_up p node node

-- RContext_.depth
unfoldable pub depth : Program → ℕ → ℕ
depth p node = length (path p node)

-- the depth of the deepest node of one path that another has too; 0 for the root
unfoldable pub shared : List ℕ → List ℕ → ℕ
shared [] q = 0
shared (m ∷ ns) q = if member m q then suc (length ns) else shared ns q
