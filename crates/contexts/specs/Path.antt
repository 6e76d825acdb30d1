-- What the readers of the tree of contexts ask for, and what they give.
use Rattle.std.specs.Prelude.{ℕ, ◌+◌, ◌-◌, ◌<◌, ◌≤◌, ◌≡◌, ltb, if◌then◌else◌}
use Rattle.book.specs.Book.{Book, contexts, size, depth_most}
use Rattle.book.specs.Program.{Program, node_at, path, depth, shared}
use Rattle.book.specs.Decode.{program}
use Rattle.book_test.specs.Promise.{Promise}
use Rattle.arrayvec.specs.ArrayVec.{ArrayVec, array_vec_len}
use Rattle.contexts.specs.declared.WayUp.{WayUp}

-- a node of an accepted book, 0 for the root
pub record IsNode (b : Book) (node : ℕ) : Type 0 where
  pub promise : Promise b
  pub inside : node ≤ size b contexts

-- one below the root
pub record IsBelow (b : Book) (node : ℕ) : Type 0 where
  pub promise : Promise b
  pub inside : node ≤ size b contexts
  pub below : 0 < node

pub record IsParent (b : Book) (node r : ℕ) : Type 0 where
  pub is : r ≡ (node_at (program b) node).parent
  pub smaller : r < node

-- the code's path: the nodes from the node itself up to the root's child
pub record IsPath (b : Book) (node : ℕ) (r : ArrayVec ℕ) : Type 0 where
  pub is : r.items ≡ path (program b) node
  pub few : array_vec_len r ≤ depth_most

-- a move from one node of an accepted book to another
pub record IsMove (b : Book) (old new : ℕ) : Type 0 where
  pub promise : Promise b
  pub from : old ≤ size b contexts
  pub to : new ≤ size b contexts

-- its pops: what of the old node's path is below the deepest node that both paths share
unfoldable pub pops_of : Program → (old new : ℕ) → ℕ
pops_of p old new = depth p old - shared (path p old) (path p new)

-- on the way up from both nodes of a move, not yet where they meet
pub record IsApart (b : Book) (at : WayUp) : Type 0 where
  pub promise : Promise b
  pub from : at.old ≤ size b contexts
  pub to : at.new ≤ size b contexts
  pub few : at.pops + at.old ≤ size b contexts
  pub apart : ¬ (at.old ≡ at.new)

abbrev pub way_up : (old new pops : ℕ) → WayUp
way_up o n k = record { old = o; new = n; pops = k }

-- one step up from the larger of the two
unfoldable pub one_up : Program → WayUp → WayUp
one_up p at =
    if ltb at.new at.old
    then way_up (node_at p at.old).parent at.new (at.pops + 1)
    else way_up at.old (node_at p at.new).parent at.pops
