-- The image of the narrow kind: reading what was written gives the session back, and what was read is written again.
use Prim.Native.Nat.{ℕ, ◌^◌, ◌<◌}
use native.Mathlib.Omega.{arith}
use mathlib.Core.Path.{◌≡◌, ◌∙◌}
use mathlib.Core.Bool.{true}
use mathlib.Core.List.{List}
use lib.ListN.{length}
use Rattle.basics.proofs.All.{All}
use Rattle.rsolver.specs.LevelState.{level_count}
use Rattle.solvers.specs.declared.NarrowSession.{NarrowSession}
use Rattle.solvers.specs.Narrow.{narrow_session, narrow_kind, narrow_size, write_narrow, is_narrow_image, read_narrow}
use Rattle.solvers.proofs.LevelBytes.{Byte}
use Rattle.solvers.proofs.Head.{length_head, head_is, head_node, head_goal, head_owed, head_rest, head_again}

-- a session whose numbers fit their words
pub record NarrowImaged (s : NarrowSession) : Type 0 where
  pub node : s.node < 2 ^ 32
  pub goal : s.goal < 2 ^ 32
  pub levels : length s.levels ≡ level_count

pub length_narrow : (s : NarrowSession) → length s.levels ≡ level_count → length (write_narrow s) ≡ narrow_size
unfolding write_narrow
length_narrow s h = length_head narrow_kind s.node s.goal s.owed s.levels ∙ omega arith

pub read_written_narrow : (s : NarrowSession) → NarrowImaged s → read_narrow (write_narrow s) ≡ s
unfolding read_narrow is_narrow_image write_narrow
read_written_narrow s h =
    let n = s.node in
    let g = s.goal in
    let o = s.owed in
    let bytes = s.levels in
    let is = head_is narrow_kind n g o bytes (omega arith) narrow_size (omega (arith, h.levels)) in
    rw is (λ i. narrow_session (head_node narrow_kind n g o bytes h.node i) (head_goal narrow_kind n g o bytes h.goal i) (head_owed narrow_kind n g o bytes i) (head_rest narrow_kind n g o bytes i))

pub written_read_narrow : (image : List ℕ) → All Byte image → is_narrow_image image ≡ true → write_narrow (read_narrow image) ≡ image
unfolding read_narrow is_narrow_image write_narrow
written_read_narrow image bytes e = rw e (head_again narrow_kind narrow_size image (omega arith) e bytes)
