-- A path gone through from its end: the root's child first, the node last.
use Prim.Native.Nat.{ℕ, ◌≤◌, ◌<◌}
use native.Mathlib.Omega.{arith}
use mathlib.Core.Path.{◌≡◌}
use mathlib.Core.List.{List, [], ◌∷◌, ◌++◌}
use Rattle.basics.proofs.All.{All, all_split, all_head}
use Rattle.book.specs.Book.{Book, contexts, size}
use Rattle.book.specs.Program.{path}
use Rattle.book.specs.Decode.{program}
use Rattle.book.proofs.Paths.{path_below}
use Rattle.book_test.specs.Promise.{Promise}
use Rattle.book_test.proofs.EveryTerm.{parent_below}
use Rattle.contexts.specs.Path.{IsBelow}

-- a node of a path is below the root
pub on_path : (b : Book) → Promise b → (node : ℕ) → node ≤ size b contexts → (rest done : List ℕ) (x : ℕ) → path (program b) node ≡ (rest ++ (x ∷ [])) ++ done → IsBelow b x
on_path b P node inside rest done x e =
    let all : All (λ (y : ℕ). (0 < y) × (y ≤ node)) ((rest ++ (x ∷ [])) ++ done) = rw e at (path_below (program b) (parent_below b P) node) in
    let r : (0 < x) × (x ≤ node) = all_head (all_split rest (x ∷ []) (all_split (rest ++ (x ∷ [])) done all).0).1 in
    record { promise = P; inside = omega (arith, r.1, inside); below = r.0 }
