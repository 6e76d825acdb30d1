-- Reading an image.
use Prim.Native.Nat.{ℕ, zero, suc, ◌≤◌}
use native.Mathlib.Omega.{arith}
use native.Mathlib.Decide.{dec_le}
use mathlib.Core.Path.{◌≡◌, refl, sym, ap, ◌∙◌}
use mathlib.Core.Bool.{true, false}
use mathlib.Core.List.{List}
use lib.Dec.{leb, ltb}
use lib.ListN.{length, drop}
use borrow.Author.Tests.{eq-eqb, ne_eqb, le-leb, lt-leb, lt-ltb, le-ltb}
use Rattle.book.specs.Book.{word}
use Rattle.rsolver.specs.LevelState.{no_levels}
use Rattle.solvers.specs.declared.Owed.TheVariants.{Nothing}
use Rattle.solvers.specs.declared.Session.{Session}
use Rattle.solvers.specs.Session.{session}
use Rattle.solvers.specs.Image.{image_kind, head_size, image_size, owed_values, owed_of, levels_in, no_session, is_kind, is_image, read_image}
use Rattle.solvers.proofs.Head.{kind_told}
use Rattle.std.specs.Prelude.{Option, Some, None}
use Rattle.images.specs.declared.Head.{Head}
use Rattle.images.specs.Heads.{head_at, ReadHead}

-- every other number
pub owed_other : (n : ℕ) → ¬ (n ≡ 1) → ¬ (n ≡ 2) → Nothing ≡ owed_of n
unfolding owed_of
owed_other zero h k = refl
owed_other (suc zero) h k = absurd (h refl)
owed_other (suc (suc zero)) h k = absurd (k refl)
owed_other (suc (suc (suc n))) h k = refl

owed_known : (n : ℕ) → leb n 2 ≡ ltb n (length owed_values)
owed_known n = at (dec_le n 2)
  where
    at : Dec (n ≤ 2) → leb n 2 ≡ ltb n (length owed_values)
    at (yes h) = le-leb n 2 h ∙ sym (lt-ltb n (length owed_values) (omega arith))
    at (no h) = lt-leb n 2 (omega arith) ∙ sym (le-ltb n (length owed_values) (omega arith))

-- the three tests of an image of a kind
module _ (kind size : ℕ) (image : List ℕ) where
  pub other_length : ¬ (length image ≡ size) → false ≡ is_kind kind size image
  unfolding is_kind
  other_length h = rw (ne_eqb (length image) size h)

  pub other_kind : {k : ℕ} → length image ≡ size → k ≡ word image 0 → ¬ (k ≡ kind) → false ≡ is_kind kind size image
  unfolding is_kind
  other_kind l e h = rw (eq-eqb (length image) size l, ← e, ne_eqb _ kind h)

  pub owed_decides : {k owed : ℕ} → length image ≡ size → k ≡ word image 0 → k ≡ kind → owed ≡ word image 12 → leb owed 2 ≡ is_kind kind size image
  unfolding is_kind
  owed_decides {owed = owed} l e h o = rw (eq-eqb (length image) size l, ← e, eq-eqb _ kind h, ← o) (owed_known owed)

pub image_long : (image : List ℕ) → is_image image ≡ true → length image ≡ image_size
unfolding is_image
image_long image h = (kind_told image_kind image_size image h).long

pub no-session : {levels : List ℕ} → levels ≡ no_levels → session 0xFFFFFFFF 0 Nothing levels ≡ no_session
unfolding no_session
no-session e = ap (session 0xFFFFFFFF 0 Nothing) e

pub read_none : (image : List ℕ) {s : Session} → is_image image ≡ false → s ≡ no_session → s ≡ read_image image
unfolding read_image
read_none image h e = rw h e

pub read_some : (image : List ℕ) {h : Head} {levels : List ℕ} → is_image image ≡ true → h ≡ head_at image → levels ≡ levels_in (drop head_size image)
    → session h.node h.goal h.owed levels ≡ read_image image
unfolding read_image
read_some image h e l = rw h (λ i. session (e i).node (e i).goal (e i).owed (l i))

-- what the head says
module _ (image : List ℕ) {r : Option Head} (t : ReadHead image_kind image_size image r) where
  pub head_none : r ≡ None → is_image image ≡ false
  unfolding is_image ReadHead
  head_none e = rw e at t

  pub head_told : {h : Head} → r ≡ Some h → (is_image image ≡ true) × (h ≡ head_at image)
  unfolding is_image ReadHead
  head_told e = rw e at t
