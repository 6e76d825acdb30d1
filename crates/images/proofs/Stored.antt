-- An image that is written: the four words one behind the other, and the levels behind them.
use Prim.Native.Nat.{ℕ, ◌+◌, ◌<◌}
use native.Mathlib.Omega.{arith}
use mathlib.Core.Path.{◌≡◌, refl, ap, ◌∙◌}
use mathlib.Core.List.{List, ◌++◌}
use lib.ListN.{length, take, drop}
use Rattle.basics.specs.Bytes.{bytes4}
use Rattle.basics.specs.Write.{MOST, overlay_at, WroteAt}
use Rattle.basics.proofs.Laws.{overlay_fits}
use Rattle.basics.proofs.Places.{at_then}
use denote.Enum.Declared.{tag_of}
use Rattle.solvers.specs.contracts.Owed.{the_type}
use Rattle.solvers.specs.declared.Owed.{Owed}
use Rattle.solvers.specs.declared.Owed.TheVariants.{Nothing, Reply, Model}
use Rattle.solvers.specs.declared.Session.{Session}
use Rattle.solvers.specs.Image.{image_kind, head_size, image_size, owed_number, head_of, level_bytes, write_image}

-- the variants are numbered in their order
numbered : (o : Owed) → tag_of the_type o ≡ owed_number o
unfolding owed_number
numbered Nothing = refl
numbered Reply = refl
numbered Model = refl

pub head_put : (kind node goal : ℕ) (o : Owed) {x o1 o2 o3 q : List ℕ} {r1 r2 r3 r : ℕ} → length x < MOST + 1
    → WroteAt (bytes4 kind) 0 x o1 r1 → WroteAt (bytes4 node) r1 o1 o2 r2 → WroteAt (bytes4 goal) r2 o2 o3 r3 → WroteAt (bytes4 (tag_of the_type o)) r3 o3 q r
    → WroteAt (head_of kind node goal o) 0 x q r
unfolding head_of
head_put kind node goal o short w1 w2 w3 w4 = at_then short (at_then short (at_then short w1 w2) w3) (rw (numbered o) at w4)

pub saved : (s : Session) (x : List ℕ) {o q : List ℕ} {r : ℕ} → length x ≡ image_size → WroteAt (head_of image_kind s.node s.goal s.owed) 0 x o r
    → q ≡ take head_size o ++ level_bytes s.levels → q ≡ write_image s
unfolding write_image overlay_at
saved s x {o} long w e =
    let head = head_of image_kind s.node s.goal s.owed in
    let size : length head ≡ head_size = unfold head_of bytes4 in refl in
    let there : take head_size (head ++ drop (length head) x) ≡ head = unfold head_of bytes4 in refl in
    e ∙ ap (λ (l : List ℕ). take head_size l ++ level_bytes s.levels) (w.shown ∙ overlay_fits head x (omega arith)) ∙ ap (λ (l : List ℕ). l ++ level_bytes s.levels) there
