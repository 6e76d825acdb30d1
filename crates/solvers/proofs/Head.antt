-- The four words of an image, of any kind: what is written is read back, and the words that were read are written again.
use Prim.Native.Nat.{ℕ, zero, suc, ◌+◌, ◌^◌, ◌≤◌, ◌<◌}
use native.Mathlib.Omega.{arith}
use mathlib.Core.Path.{◌≡◌, refl, ap, ◌∙◌}
use mathlib.Core.Bool.{true, ◌&&◌}
use mathlib.Core.List.{List, ◌++◌, append_assoc}
use lib.Dec.{eqb, ltb}
use lib.ListN.{length, drop, length-drop}
use lib.Seq.{get_or-drop, drop-drop}
use borrow.Author.Tests.{eq-eqb, eqb-true, lt-ltb, ltb-true}
use Rattle.basics.specs.Bytes.{bytes4}
use Rattle.basics.proofs.All.{All, end, more}
use Rattle.basics.proofs.Bool.{and_both}
use Rattle.book.specs.Book.{word}
use Rattle.book.proofs.Words.{four_bytes, bytes4_word}
use Rattle.solvers.specs.declared.Owed.{Owed}
use Rattle.solvers.specs.declared.Owed.TheVariants.{Nothing, Reply, Model}
use Rattle.solvers.specs.Image.{head_size, owed_number, owed_values, owed_of, head_of, is_kind}
use Rattle.solvers.proofs.LevelBytes.{Byte}

-- ---- what is owed
owed_small : (o : Owed) → owed_number o < length owed_values
unfolding owed_number
owed_small Nothing = omega arith
owed_small Reply = omega arith
owed_small Model = omega arith

owed_back : (o : Owed) → owed_of (owed_number o) ≡ o
unfolding owed_number owed_of
owed_back Nothing = refl
owed_back Reply = refl
owed_back Model = refl

owed_again : (n : ℕ) → n < length owed_values → owed_number (owed_of n) ≡ n
unfolding owed_number owed_of
owed_again zero h = refl
owed_again (suc zero) h = refl
owed_again (suc (suc zero)) h = refl
owed_again (suc (suc (suc n))) h = absurd (omega arith)

-- ---- the test
pub record IsKind (kind size : ℕ) (image : List ℕ) : Type 0 where
  pub long : length image ≡ size
  pub known : word image 0 ≡ kind
  pub owed : word image 12 < length owed_values

pub kind_told : (kind size : ℕ) (image : List ℕ) → is_kind kind size image ≡ true → IsKind kind size image
unfolding is_kind
kind_told kind size image h =
    let r = and_both (eqb (length image) size && eqb (word image 0) kind) (ltb (word image 12) (length owed_values)) h in
    let q = and_both (eqb (length image) size) (eqb (word image 0) kind) r.0 in
    record { long = eqb-true _ _ q.0; known = eqb-true _ _ q.1; owed = ltb-true _ _ r.1 }

told_kind : (kind size : ℕ) (image : List ℕ) → IsKind kind size image → is_kind kind size image ≡ true
unfolding is_kind
told_kind kind size image h = rw (eq-eqb (length image) size h.long, eq-eqb (word image 0) kind h.known, lt-ltb (word image 12) (length owed_values) h.owed)

-- ---- reading what was written
module _ (kind node goal : ℕ) (o : Owed) (rest : List ℕ) where
  owed_word : word (head_of kind node goal o ++ rest) 12 ≡ owed_number o
  unfolding head_of bytes4
  owed_word = four_bytes (owed_number o) (omega (arith, owed_small o))

  pub length_head : length (head_of kind node goal o ++ rest) ≡ head_size + length rest
  unfolding head_of bytes4
  length_head = omega arith

  pub head_is : kind < 2 ^ 32 → (size : ℕ) → head_size + length rest ≡ size → is_kind kind size (head_of kind node goal o ++ rest) ≡ true
  head_is k size l =
      let image = head_of kind node goal o ++ rest in
      let known : word image 0 ≡ kind = unfold head_of bytes4 in four_bytes kind k in
      told_kind kind size image (record { long = length_head ∙ l; known = known; owed = omega (arith, owed_word, owed_small o) })

  pub head_node : node < 2 ^ 32 → word (head_of kind node goal o ++ rest) 4 ≡ node
  unfolding head_of bytes4
  head_node h = four_bytes node h

  pub head_goal : goal < 2 ^ 32 → word (head_of kind node goal o ++ rest) 8 ≡ goal
  unfolding head_of bytes4
  head_goal h = four_bytes goal h

  pub head_owed : owed_of (word (head_of kind node goal o ++ rest) 12) ≡ o
  head_owed = ap owed_of owed_word ∙ owed_back o

  pub head_rest : drop head_size (head_of kind node goal o ++ rest) ≡ rest
  unfolding head_of bytes4
  head_rest = refl

-- ---- writing what was read
first_word : {xs : List ℕ} → 4 ≤ length xs → All Byte xs → bytes4 (word xs 0) ++ drop 4 xs ≡ xs
first_word h end = absurd (omega arith)
first_word h (more ha end) = absurd (omega arith)
first_word h (more ha (more hb end)) = absurd (omega arith)
first_word h (more ha (more hb (more hc end))) = absurd (omega arith)
first_word h (more {a = a} ha (more {a = b} hb (more {a = c} hc (more {a = d} {l = xs} hd hs)))) = ap {B = List ℕ} (λ (w : List ℕ). w ++ xs) (bytes4_word a b c d ha hb hc hd)

pub all_drop : (n : ℕ) {xs : List ℕ} → All Byte xs → All Byte (drop n xs)
all_drop zero hs = hs
all_drop (suc n) end = end
all_drop (suc n) (more h hs) = all_drop n hs

-- the word behind another
module _ (image : List ℕ) (long : head_size ≤ length image) (bytes : All Byte image) where
  word_0 : bytes4 (word image 0) ++ drop 4 image ≡ image
  word_0 = first_word (omega arith) bytes

  word_4 : bytes4 (word image 4) ++ drop 8 image ≡ drop 4 image
  word_4 = simp (get_or-drop, drop-drop) at (first_word {xs = drop 4 image} (simp length-drop (omega arith)) (all_drop 4 bytes))

  word_8 : bytes4 (word image 8) ++ drop 12 image ≡ drop 8 image
  word_8 = simp (get_or-drop, drop-drop) at (first_word {xs = drop 8 image} (simp length-drop (omega arith)) (all_drop 8 bytes))

  word_12 : bytes4 (word image 12) ++ drop head_size image ≡ drop 12 image
  word_12 = simp (get_or-drop, drop-drop) at (first_word {xs = drop 12 image} (simp length-drop (omega arith)) (all_drop 12 bytes))

pub head_again : (kind size : ℕ) (image : List ℕ) → head_size ≤ size → is_kind kind size image ≡ true → All Byte image
    → head_of kind (word image 4) (word image 8) (owed_of (word image 12)) ++ drop head_size image ≡ image
unfolding head_of
head_again kind size image h e bytes =
    let t = kind_told kind size image e in
    let long : head_size ≤ length image = omega (arith, t.long) in
    rw (← t.known, owed_again (word image 12) t.owed)
    (simp append_assoc (rw (word_12 image long bytes, word_8 image long bytes, word_4 image long bytes) (word_0 image long bytes)))
