-- Reading the image that was written gives the session back, and the image that was read is written again.
use Prim.Native.Nat.{ℕ, ◌^◌, ◌*◌, ◌<◌}
use native.Mathlib.Omega.{arith}
use mathlib.Core.Path.{◌≡◌, ap, ◌∙◌}
use mathlib.Core.Bool.{true}
use mathlib.Core.List.{List, ◌++◌}
use lib.ListN.{length, drop, length-drop}
use Rattle.basics.proofs.All.{All}
use Rattle.book.specs.Book.{word}
use Rattle.rsolver.specs.LevelState.{level_count}
use Rattle.solvers.specs.declared.Session.{Session}
use Rattle.solvers.specs.Session.{session}
use Rattle.solvers.specs.Image.{image_kind, head_size, image_size, owed_of, head_of, level_bytes, levels_in, write_image, is_image, read_image}
use Rattle.solvers.proofs.LevelBytes.{Byte, Small, length_level_bytes, levels_back, bytes_back}
use Rattle.solvers.proofs.Head.{kind_told, length_head, head_is, head_node, head_goal, head_owed, head_rest, all_drop, head_again}

-- a session whose numbers fit their words, and whose levels fit two bytes
pub record Imaged (s : Session) : Type 0 where
  pub node : s.node < 2 ^ 32
  pub goal : s.goal < 2 ^ 32
  pub levels : length s.levels ≡ level_count
  pub small : All Small s.levels

pub length_written : (s : Session) → length s.levels ≡ level_count → length (write_image s) ≡ image_size
unfolding write_image
length_written s h = length_head image_kind s.node s.goal s.owed (level_bytes s.levels) ∙ omega (arith, length_level_bytes s.levels)

pub read_written : (s : Session) → Imaged s → read_image (write_image s) ≡ s
unfolding read_image is_image write_image
read_written s h =
    let n = s.node in
    let g = s.goal in
    let o = s.owed in
    let bytes = level_bytes s.levels in
    let is = head_is image_kind n g o bytes (omega arith) image_size (omega (arith, length_level_bytes s.levels, h.levels)) in
    let levels : levels_in (drop head_size (head_of image_kind n g o ++ bytes)) ≡ s.levels = ap levels_in (head_rest image_kind n g o bytes) ∙ levels_back h.small in
    rw is (λ i. session (head_node image_kind n g o bytes h.node i) (head_goal image_kind n g o bytes h.goal i) (head_owed image_kind n g o bytes i) (levels i))

pub written_read : (image : List ℕ) → All Byte image → is_image image ≡ true → write_image (read_image image) ≡ image
unfolding read_image is_image write_image
written_read image bytes e =
    let long : length (drop head_size image) ≡ 2 * level_count = simp length-drop (omega (arith, (kind_told image_kind image_size image e).long)) in
    let levels : level_bytes (levels_in (drop head_size image)) ≡ drop head_size image = bytes_back level_count long (all_drop head_size bytes) in
    rw e (ap {B = List ℕ} (λ (l : List ℕ). head_of image_kind (word image 4) (word image 8) (owed_of (word image 12)) ++ l) levels
    ∙ head_again image_kind image_size image (omega arith) e bytes)
