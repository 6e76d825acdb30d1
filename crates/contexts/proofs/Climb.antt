-- Climbing from a node to the root.
use Prim.Native.Nat.{ℕ, zero, suc, ◌+◌, ◌-◌, ◌≤◌, ◌<◌}
use native.Mathlib.Omega.{arith}
use mathlib.Core.Path.{◌≡◌, refl, sym, ap, ◌∙◌}
use mathlib.Core.List.{List, [], ◌∷◌, ◌++◌, append_assoc, append-nil}
use lib.ListN.{length, length-append}
use Rattle.book.specs.Book.{Book, contexts, size, field, depth_most}
use Rattle.book.specs.Program.{node_at, path_up, path, depth}
use Rattle.book.specs.Decode.{program}
use Rattle.book.proofs.Paths.{path_step}
use Rattle.book_test.specs.Promise.{Promise}
use Rattle.book_test.proofs.Depth.{parent_at}
use Rattle.book_test.proofs.EveryTerm.{parent_below}

pub parent_is : (b : Book) (node r : ℕ) → 0 < node → node ≤ size b contexts → r ≡ field b contexts (node - 1) 0 → r ≡ (node_at (program b) node).parent
parent_is b zero r h l e = absurd (omega arith)
parent_is b (suc k) r h l e =
    let z : suc k - 1 ≡ k = omega arith in
    (rw z at e) ∙ sym (parent_at b k (omega arith))

pub parent_smaller : (b : Book) → Promise b → (node r : ℕ) → 0 < node → r ≡ (node_at (program b) node).parent → r < node
parent_smaller b P zero r h e = absurd (omega arith)
parent_smaller b P (suc k) r h e = omega (arith, parent_below b P k)

-- no node of an accepted book is deeper than the limit
pub depth_few : (b : Book) → Promise b → (n : ℕ) → n ≤ size b contexts → length (path (program b) n) ≤ depth_most
unfolding path path_up depth
depth_few b P zero l = omega arith
depth_few b P (suc k) l = P.shallow k l

-- the nodes found so far, and those still above
pub record Climbing (b : Book) (node : ℕ) (nodes : List ℕ) (n : ℕ) : Type 0 where
  pub found : nodes ++ path (program b) n ≡ path (program b) node
  pub room : length nodes + length (path (program b) n) ≤ depth_most
  pub inside : n ≤ size b contexts

pub climbing_start : (b : Book) → Promise b → (node : ℕ) → node ≤ size b contexts → Climbing b node [] node
climbing_start b P node l = record { found = refl; room = omega (arith, depth_few b P node l); inside = l }

pub climbing_room : {b : Book} {node : ℕ} {nodes : List ℕ} {n : ℕ} → Promise b → 0 < n → Climbing b node nodes n → length nodes < depth_most
climbing_room {b} {n = n} P h c =
    let s = path_step (program b) (parent_below b P) n h in
    omega (arith, c.room, ap length s)

pub climbing_more : {b : Book} {node : ℕ} {nodes : List ℕ} {n : ℕ} (r : ℕ) → Promise b → 0 < n → Climbing b node nodes n → r ≡ (node_at (program b) n).parent
    → Climbing b node (nodes ++ n ∷ []) r
climbing_more {b} {node} {nodes} {n} r P h c e =
    let s = path_step (program b) (parent_below b P) n h in
    let up : path (program b) n ≡ n ∷ path (program b) r = s ∙ ap {B = List ℕ} (λ (x : ℕ). n ∷ path (program b) x) (sym e) in
    record {
      found = append_assoc nodes (n ∷ []) (path (program b) r) ∙ ap (λ (l : List ℕ). nodes ++ l) (sym up) ∙ c.found;
      room = omega (arith, c.room, ap length up, length-append nodes (n ∷ []));
      inside = omega (arith, c.inside, parent_smaller b P n r h e);
    }

-- at the root nothing is above
pub climbing_done : {b : Book} {node : ℕ} {nodes : List ℕ} {n : ℕ} → n ≡ 0 → Climbing b node nodes n → nodes ≡ path (program b) node
unfolding path path_up
climbing_done {b} {node} {nodes} e c = sym (append-nil nodes) ∙ (rw e at c.found)
