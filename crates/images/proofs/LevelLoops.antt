-- Levels that are read from an image and written to one, one after the other.
use Prim.Native.Nat.{ℕ, zero, suc, ◌+◌, ◌*◌, ◌/◌, ◌%◌, ◌≤◌, ◌<◌}
use native.Mathlib.Omega.{arith}
use mathlib.Core.Path.{◌≡◌, refl, sym, ap, ◌∙◌}
use mathlib.Core.List.{List, [], ◌∷◌, ◌++◌, append_assoc, append-nil}
use lib.ListN.{length, get_or, set, take, drop, length-set, length-drop}
use lib.Seq.{get_or-drop, take_all, take-suc, take-suc-set}
use Rattle.rsolver.specs.LevelState.{level_count}
use Rattle.solvers.specs.Image.{head_size, image_size, level_bytes, levels_in}
use Rattle.solvers.proofs.LevelBytes.{length_levels_in}

-- ---- read
level_in : (i : ℕ) (xs : List ℕ) → 2 * i + 1 < length xs → get_or (levels_in xs) i 0 ≡ get_or xs (2 * i) 0 + 256 * get_or xs (2 * i + 1) 0
unfolding levels_in
level_in i [] h = absurd (omega arith)
level_in i (a ∷ []) h = absurd (omega arith)
level_in zero (a ∷ b ∷ xs) h = refl
level_in (suc i) (a ∷ b ∷ xs) h =
    let e : 2 * suc i + 1 ≡ suc (suc (2 * i + 1)) = omega arith in
    let f : 2 * suc i ≡ suc (suc (2 * i)) = omega arith in
    rw (e, f) (level_in i xs (omega arith))

pub levels_long : (image : List ℕ) → length image ≡ image_size → length (levels_in (drop head_size image)) ≡ level_count
levels_long image l = length_levels_in level_count (drop head_size image) (simp length-drop (omega arith))

pub level_read : (image : List ℕ) (i : ℕ) {r : ℕ} → length image ≡ image_size → i < level_count
    → r ≡ get_or image (head_size + 2 * i) 0 + 256 * get_or image (head_size + 2 * i + 1) 0 → r ≡ get_or (levels_in (drop head_size image)) i 0
level_read image i l h e =
    let next : head_size + 2 * i + 1 ≡ head_size + (2 * i + 1) = omega arith in
    e ∙ rw next (sym (level_in i (drop head_size image) (simp length-drop (omega arith)) ∙ simp get_or-drop))

-- ---- written
bytes_append : (xs ys : List ℕ) → level_bytes (xs ++ ys) ≡ level_bytes xs ++ level_bytes ys
unfolding level_bytes
bytes_append [] ys = refl
bytes_append (x ∷ xs) ys = rw (bytes_append xs ys)

-- the first i stand behind what stood in front
pub record Put (before levels image : List ℕ) (i : ℕ) : Type 0 where
  pub long : length image ≡ image_size
  pub there : take (head_size + 2 * i) image ≡ take head_size before ++ level_bytes (take i levels)

pub put_none : (before levels : List ℕ) → length before ≡ image_size → Put before levels before 0
unfolding level_bytes
put_none before levels l = record { long = l; there = sym (append-nil (take head_size before)) }

pub put_more : {before levels image : List ℕ} {i at low high : ℕ} → Put before levels image i → i < length levels → i < level_count → at ≡ head_size + 2 * i
    → low ≡ get_or levels i 0 % 256 → high ≡ get_or levels i 0 / 256 % 256 → Put before levels (set (set image at low) (at + 1) high) (i + 1)
unfolding level_bytes
put_more {before} {levels} {image} {i} {at} {low} {high} p h k e el eh =
    let one : at + 1 ≡ suc at = omega arith in
    let two : head_size + 2 * (i + 1) ≡ suc (suc at) = omega arith in
    let more : i + 1 ≡ suc i = omega arith in
    let image1 = set image at low in
    let first : take (suc at) image1 ≡ take at image ++ (low ∷ []) = take-suc-set image at low (omega (arith, p.long)) in
    let second : take (suc (suc at)) (set image1 (suc at) high) ≡ take (suc at) image1 ++ (high ∷ []) = take-suc-set image1 (suc at) high (simp length-set (omega (arith, p.long))) in
    let so : take at image ≡ take head_size before ++ level_bytes (take i levels) = rw e p.there in
    let bytes : level_bytes (take (suc i) levels) ≡ level_bytes (take i levels) ++ (low ∷ high ∷ []) =
    ap level_bytes (take-suc levels i 0 h) ∙ bytes_append (take i levels) (get_or levels i 0 ∷ []) ∙ rw (← el, ← eh) in
    record {
      long = simp length-set p.long;
      there = rw (one, two, more, second, first, so, bytes) (simp append_assoc);
    }

pub put_all : {before levels image : List ℕ} {i : ℕ} → Put before levels image i → level_count ≤ i → length levels ≡ level_count
    → image ≡ take head_size before ++ level_bytes levels
put_all {before} {levels} {image} {i} p h l =
    sym (take_all (head_size + 2 * i) image (omega (arith, p.long))) ∙ p.there ∙ ap (λ (xs : List ℕ). take head_size before ++ level_bytes xs) (take_all i levels (omega arith))
