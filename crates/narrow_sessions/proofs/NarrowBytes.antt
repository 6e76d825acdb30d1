-- The image of the narrow kind, read and written.
use Prim.Native.Nat.{ℕ, ◌+◌, ◌<◌}
use native.Mathlib.Omega.{arith}
use mathlib.Core.Path.{◌≡◌, ap, ◌∙◌}
use mathlib.Core.Bool.{true, false}
use mathlib.Core.List.{List}
use lib.ListN.{length, drop}
use Rattle.basics.specs.Write.{MOST, WroteAt}
use Rattle.basics.proofs.Places.{at_then, at_whole}
use Rattle.rsolver.specs.LevelState.{level_count, no_levels}
use Rattle.solvers.specs.declared.Owed.TheVariants.{Nothing}
use Rattle.solvers.specs.declared.NarrowSession.{NarrowSession}
use Rattle.solvers.specs.Image.{head_size, head_of, no_session}
use Rattle.solvers.specs.Narrow.{narrow_session, narrow_of, narrow_kind, narrow_size, write_narrow, no_narrow, is_narrow_image, read_narrow}
use Rattle.solvers.proofs.Head.{kind_told}
use Rattle.std.specs.Prelude.{Option, Some, None}
use Rattle.images.specs.declared.Head.{Head}
use Rattle.images.specs.Heads.{head_at, ReadHead}
use Rattle.solvers.proofs.NarrowImage.{length_narrow}

pub narrow_long : (image : List ℕ) → is_narrow_image image ≡ true → length image ≡ narrow_size
unfolding is_narrow_image
narrow_long image h = (kind_told narrow_kind narrow_size image h).long

pub no-narrow : {levels : List ℕ} → levels ≡ no_levels → narrow_session 0xFFFFFFFF 0 Nothing levels ≡ no_narrow
unfolding no_narrow narrow_of no_session
no-narrow e = ap (narrow_session 0xFFFFFFFF 0 Nothing) e

pub read_none : (image : List ℕ) {s : NarrowSession} → is_narrow_image image ≡ false → s ≡ no_narrow → s ≡ read_narrow image
unfolding read_narrow
read_none image h e = rw h e

pub read_some : (image : List ℕ) {h : Head} {levels : List ℕ} → is_narrow_image image ≡ true → h ≡ head_at image → levels ≡ drop head_size image
    → narrow_session h.node h.goal h.owed levels ≡ read_narrow image
unfolding read_narrow
read_some image h e l = rw h (λ i. narrow_session (e i).node (e i).goal (e i).owed (l i))

-- what the head says
module _ (image : List ℕ) {r : Option Head} (t : ReadHead narrow_kind narrow_size image r) where
  pub head_none : r ≡ None → is_narrow_image image ≡ false
  unfolding is_narrow_image ReadHead
  head_none e = rw e at t

  pub head_told : {h : Head} → r ≡ Some h → (is_narrow_image image ≡ true) × (h ≡ head_at image)
  unfolding is_narrow_image ReadHead
  head_told e = rw e at t

-- the levels behind the four words
pub saved : (s : NarrowSession) (x : List ℕ) {o q : List ℕ} {r1 r : ℕ} → length x ≡ narrow_size → length s.levels ≡ level_count
    → WroteAt (head_of narrow_kind s.node s.goal s.owed) 0 x o r1 → WroteAt s.levels r1 o q r → q ≡ write_narrow s
unfolding write_narrow
saved s x long levels w1 w2 =
    let short : length x < MOST + 1 = omega arith in
    at_whole (at_then short w1 w2) (length_narrow s levels ∙ omega arith)
