-- What the test tells, in the words of the calls. Proved in proofs/: reaches and from_root (Reach), never_9 (Never9), first (First).
use Rattle.std.specs.Prelude.{ℕ, suc, ◌≤◌, ◌<◌, ◌≡◌, true, false, List, length, get_or}
use Rattle.std.proofs.Math.Option.{none, some}
use Rattle.basics.specs.Lists.{member}
use Rattle.basics.specs.Buffer.{scratch_least}
use Rattle.basics.specs.Outcome.{refused, accepted}
use Rattle.book.specs.Book.{Book}
use Rattle.book.specs.Program.{Program, node_at}
use Rattle.book.specs.Decode.{program}
use Rattle.solvers.specs.declared.Session.{Session}
use Rattle.solvers.specs.Session.{Written, fresh_session}
use Rattle.solvers.specs.Calls.{Host, Enough, move_to, call}
use Rattle.solvers.specs.Image.{called_on_image}
use Rattle.nodes_test.specs.NodesTest.{could_move, first_failing}

-- a fresh session's move to the node is accepted from every host that lends this room, and scratch enough
abbrev pub MovesIn : Book → (node room : ℕ) → Type 0
MovesIn b node room = (h : Host) → Enough room h → (w : Written) × (call b fresh_session (move_to h node) ≡ accepted w)

-- of a node of a tested book: it passes exactly if a fresh session, given room enough, can move to it; else 9 is what every such move meets
pub record Reaches (b : Book) (node : ℕ) : Type 0 where
  pub passes : could_move (program b) node ≡ true → (room : ℕ) × MovesIn b node room
  pub only : (room : ℕ) → MovesIn b node room → could_move (program b) node ≡ true
  pub fails : could_move (program b) node ≡ false → (h : Host) → scratch_least ≤ length h.scratch → call b fresh_session (move_to h node) ≡ refused 9

-- of a tested book: the root passes, and a child of a node that fails does not
pub record FromRoot (b : Book) : Type 0 where
  pub root : could_move (program b) 0 ≡ true
  pub child : (node : ℕ) → could_move (program b) (node_at (program b) (suc node)).parent ≡ false → could_move (program b) (suc node) ≡ false

-- of a list that passed: no move to a node of it meets 9, on any session or image at all, and whatever the host lends
pub record Never9 (b : Book) (nodes : List ℕ) : Type 0 where
  pub session : (s : Session) (h : Host) (n : ℕ) → member n nodes ≡ true → ¬ (call b s (move_to h n) ≡ refused 9)
  pub image : (image : List ℕ) (h : Host) (n : ℕ) → member n nodes ≡ true → ¬ ((called_on_image b image (move_to h n)).answer ≡ refused 9)

-- the position answered fails and none before it does; none is answered exactly if all pass
pub record First (p : Program) (nodes : List ℕ) : Type 0 where
  pub here : (k : ℕ) → first_failing p nodes ≡ some k → k < length nodes
  pub fails : (k : ℕ) → first_failing p nodes ≡ some k → could_move p (get_or nodes k 0) ≡ false
  pub before : (k : ℕ) → first_failing p nodes ≡ some k → (i : ℕ) → i < k → could_move p (get_or nodes i 0) ≡ true
  pub all_pass : first_failing p nodes ≡ none → (i : ℕ) → i < length nodes → could_move p (get_or nodes i 0) ≡ true
  pub none_fails : ((i : ℕ) → i < length nodes → could_move p (get_or nodes i 0) ≡ true) → first_failing p nodes ≡ none
