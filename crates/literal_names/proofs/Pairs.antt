-- Names between their bars: where their colons stand.
use Prim.Native.Nat.{ℕ, suc, ◌+◌, ◌-◌}
use native.Mathlib.Omega.{arith}
use native.Mathlib.Decide.{ℕ_discrete}
use native.Mathlib.Numerals.{add-one}
use mathlib.Core.Path.{◌≡◌, refl, sym, ap, ◌∙◌}
use mathlib.Core.Bool.{Bool, true, false, ◌&&◌}
use mathlib.Core.List.{[], ◌∷◌, ◌++◌, append_assoc}
use lib.Dec.{eqb}
use lib.ListN.{length, get_or, take, drop, length-append, length-drop}
use lib.Seq.{split_at, length-take-le, take_all}
use borrow.Author.Tests.{eq-eqb, ne_eqb}
use Rattle.basics.specs.Text.{Text, ascii, same}
use Rattle.basics.proofs.Bool.{and-true, and-false}
use Rattle.basics.proofs.Texts.{same_refl, same_length, same_append}
use Rattle.literal_names.specs.Names.{pair_text, barred}

pair_length : (s typ : Text) → length (pair_text s typ) ≡ length s + length typ + 1
pair_length s typ = length-append s (0x3A ∷ typ) ∙ omega arith

bars : (s typ : Text) → barred s typ ≡ 0x7C ∷ (pair_text s typ ++ (0x7C ∷ []))
unfolding barred
bars s typ = ap {B = Text} (λ (t : Text). 0x7C ∷ t) (append_assoc (s ++ ascii ":") typ (0x7C ∷ []) ∙ append_assoc s (ascii ":") (typ ++ (0x7C ∷ [])) ∙ sym (append_assoc s (0x3A ∷ typ) (0x7C ∷ [])))

same_snoc : (c : ℕ) (x y : Text) → same (x ++ (c ∷ [])) (y ++ (c ∷ [])) ≡ same x y
unfolding same
same_snoc c [] [] = rw (eq-eqb c c refl)
same_snoc c [] (b ∷ []) = and-false (eqb c b)
same_snoc c [] (b ∷ d ∷ y) = and-false (eqb c b)
same_snoc c (a ∷ []) [] = and-false (eqb a c)
same_snoc c (a ∷ d ∷ x) [] = and-false (eqb a c)
same_snoc c (a ∷ x) (b ∷ y) = rw (same_snoc c x y)

module _ (s typ s2 typ2 : Text) where
  same_barred : same (barred s typ) (barred s2 typ2) ≡ same (pair_text s typ) (pair_text s2 typ2)
  unfolding same
  same_barred = rw (bars s typ, bars s2 typ2) (same_snoc 0x7C (pair_text s typ) (pair_text s2 typ2))

  -- names of different lengths
  pub longer : (length s + length typ ≡ length s2 + length typ2 → ⊥) → false ≡ same (barred s typ) (barred s2 typ2)
  longer h = same_length (pair_text s typ) (pair_text s2 typ2) (λ e. h (omega (arith, e, pair_length s typ, pair_length s2 typ2))) ∙ sym same_barred

  -- names with their colons at one place
  pub one_colon : length s ≡ length s2 → same (barred s typ) (barred s2 typ2) ≡ (same s s2 && same typ typ2)
  unfolding same
  one_colon e = same_barred ∙ same_append s s2 (0x3A ∷ typ) (0x3A ∷ typ2) e

  -- the first one's colon stands in the other's s, and the other's in the first one's type
  pub two_colons : (n m : ℕ) → n ≡ length s → length s2 ≡ n + suc m → length s + length typ ≡ length s2 + length typ2
      → same (barred s typ) (barred s2 typ2) ≡ (same s (take n s2) && (eqb 0x3A (get_or s2 n 0) && (same (take m typ) (drop (suc n) s2) && (eqb (get_or typ m 0) 0x3A && same (drop (suc m) typ) typ2))))
  unfolding same
  two_colons n m e f g =
      let x : s2 ≡ take n s2 ++ get_or s2 n 0 ∷ drop (suc n) s2 = split_at s2 n 0 (omega arith) in
      let y : typ ≡ take m typ ++ get_or typ m 0 ∷ drop (suc m) typ = split_at typ m 0 (omega arith) in
      let p : pair_text s typ ≡ s ++ 0x3A ∷ (take m typ ++ (get_or typ m 0 ∷ drop (suc m) typ)) = ap {B = Text} (λ (t : Text). s ++ 0x3A ∷ t) y in
      let q : pair_text s2 typ2 ≡ take n s2 ++ get_or s2 n 0 ∷ (drop (suc n) s2 ++ 0x3A ∷ typ2) = ap {B = Text} (λ (t : Text). t ++ 0x3A ∷ typ2) x ∙ append_assoc (take n s2) (get_or s2 n 0 ∷ drop (suc n) s2) (0x3A ∷ typ2) in
      let front : length s ≡ length (take n s2) = omega (arith, length-take-le n s2 (omega arith), e) in
      let middle : length (take m typ) ≡ length (drop (suc n) s2) = omega (arith, length-take-le m typ (omega arith), length-drop (suc n) s2, f) in
      same_barred ∙ rw (p, q) (same_append s (take n s2) _ _ front ∙ ap (λ (t : Bool). same s (take n s2) && (eqb 0x3A (get_or s2 n 0) && t)) (same_append (take m typ) (drop (suc n) s2) _ _ middle))

-- the part of a text behind a letter
pub behind : (l : Text) (n k : ℕ) → length l ≡ k + (n + 1) → take k (drop (n + 1) l) ≡ drop (suc n) l
behind l n k e = take_all k (drop (n + 1) l) (omega (arith, length-drop (n + 1) l)) ∙ ap (λ (j : ℕ). drop j l) (add-one n)

-- Where the colons stand in each other's names, s and the types are compared part by part.
module _ (s typ s2 typ2 : Text) (n m : ℕ) (e : n ≡ length s) (f : length s2 ≡ n + suc m) (g : length s + length typ ≡ length s2 + length typ2) where
  parts : {p q r u v : Bool} → same s (take n s2) ≡ p → eqb 0x3A (get_or s2 n 0) ≡ q → same (take m typ) (drop (suc n) s2) ≡ r → eqb (get_or typ m 0) 0x3A ≡ u → same (drop (suc m) typ) typ2 ≡ v
      → same (barred s typ) (barred s2 typ2) ≡ (p && (q && (r && (u && v))))
  parts a b c d h = two_colons s typ s2 typ2 n m e f g ∙ rw (a, b, c, d, h)

  pub no_colon : (get_or s2 n 0 ≡ 0x3A → ⊥) → false ≡ same (barred s typ) (barred s2 typ2)
  no_colon h = sym (parts refl (ne_eqb _ _ (λ q. h (sym q))) refl refl refl ∙ and-false (same s (take n s2)))

  pub no_second_colon : (get_or typ m 0 ≡ 0x3A → ⊥) → false ≡ same (barred s typ) (barred s2 typ2)
  no_second_colon h = sym (parts refl refl refl (ne_eqb _ _ h) refl ∙ ap (λ (t : Bool). same s (take n s2) && (eqb 0x3A (get_or s2 n 0) && t)) (and-false (same (take m typ) (drop (suc n) s2))) ∙ ap (λ (t : Bool). same s (take n s2) && t) (and-false (eqb 0x3A (get_or s2 n 0))) ∙ and-false (same s (take n s2)))

  pub front_differs : {x : Text} → x ≡ take n s2 → same s x ≡ false → false ≡ same (barred s typ) (barred s2 typ2)
  front_differs i h = sym (parts (ap (same s) (sym i) ∙ h) refl refl refl refl)

  pub middle_differs : {x y : Text} → x ≡ take m typ → y ≡ drop (suc n) s2 → same x y ≡ false → false ≡ same (barred s typ) (barred s2 typ2)
  middle_differs {x} i j h = sym (parts refl refl (ap (λ (t : Text). same t (drop (suc n) s2)) (sym i) ∙ ap (same x) (sym j) ∙ h) refl refl ∙ ap (λ (t : Bool). same s (take n s2) && t) (and-false (eqb 0x3A (get_or s2 n 0))) ∙ and-false (same s (take n s2)))

  pub rest_decides : {x y z w : Text} {r : Bool} → get_or s2 n 0 ≡ 0x3A → get_or typ m 0 ≡ 0x3A → w ≡ take n s2 → same s w ≡ true → x ≡ take m typ → y ≡ drop (suc n) s2 → same x y ≡ true
      → z ≡ drop (suc m) typ → r ≡ same z typ2 → r ≡ same (barred s typ) (barred s2 typ2)
  rest_decides {x} a b i h j k l o p = p ∙ ap (λ (t : Text). same t typ2) o ∙ sym (parts (ap (same s) (sym i) ∙ h) (eq-eqb _ _ (sym a)) (ap (λ (t : Text). same t (drop (suc n) s2)) (sym j) ∙ ap (same x) (sym k) ∙ l) (eq-eqb _ _ b) refl)

-- names of one type
pub one_type : (s typ s2 : Text) → same (barred s typ) (barred s2 typ) ≡ same s s2
one_type s typ s2 = at (ℕ_discrete (length s) (length s2))
  where
    at : Dec (length s ≡ length s2) → same (barred s typ) (barred s2 typ) ≡ same s s2
    at (yes e) = one_colon s typ s2 typ e ∙ ap (λ (t : Bool). same s s2 && t) (same_refl typ) ∙ and-true (same s s2)
    at (no h) = sym (longer s typ s2 typ (λ e. h (omega arith))) ∙ same_length s s2 h
