-- Texts that are the same, and texts that are not.
use Prim.Native.Nat.{ℕ, ◌≤◌, ◌<◌}
use native.Mathlib.Omega.{arith}
use mathlib.Core.Path.{◌≡◌, refl, sym, ap, ap₂, ◌∙◌}
use mathlib.Core.Bool.{Bool, true, false, ◌&&◌, false≢true}
use mathlib.Core.List.{List, [], ◌∷◌, ◌++◌}
use lib.Dec.{eqb}
use lib.ListN.{length, get_or}
use lib.Seq.{ext_get_or}
use borrow.Author.Tests.{eqb-true, eq-eqb}
use Rattle.std.specs.Cmp.Lexicographic.{pointwise}
use Rattle.basics.specs.Text.{Text, same}
use Rattle.basics.proofs.Bool.{and_both, and_assoc}

pub same_refl : (t : Text) → same t t ≡ true
unfolding same
same_refl [] = refl
same_refl (c ∷ t) = rw (eq-eqb c c refl, same_refl t)

pub same_eq : (a b : Text) → same a b ≡ true → a ≡ b
unfolding same
same_eq [] [] e = refl
same_eq [] (y ∷ b) e = absurd (false≢true e)
same_eq (x ∷ a) [] e = absurd (false≢true e)
same_eq (x ∷ a) (y ∷ b) e =
    let r = and_both (eqb x y) (same a b) e in
    ap₂ {B = List ℕ} {C = List ℕ} (λ c d. c ∷ d) (eqb-true x y r.0) (same_eq a b r.1)

-- as the library compares slices
pub same_pointwise : (a b : Text) → pointwise eqb a b ≡ same a b
unfolding same
same_pointwise [] [] = refl
same_pointwise [] (y ∷ b) = refl
same_pointwise (x ∷ a) [] = refl
same_pointwise (x ∷ a) (y ∷ b) = rw (same_pointwise a b) refl

pub same_yes : {a b : Text} → a ≡ b → true ≡ same a b
same_yes {a} {b} e = rw e (sym (same_refl b))

pub same_no : (a b : Text) → (a ≡ b → ⊥) → false ≡ same a b
same_no a b h = at (same a b) refl
  where
    at : (t : Bool) → same a b ≡ t → false ≡ t
    at true e = absurd (h (same_eq a b e))
    at false e = refl

pub same_length : (a b : Text) → (length a ≡ length b → ⊥) → false ≡ same a b
same_length a b h = same_no a b (λ e. h (ap length e))

pub same_byte : (a b : Text) (i : ℕ) → (get_or a i 0 ≡ get_or b i 0 → ⊥) → false ≡ same a b
same_byte a b i h = same_no a b (λ e. h (ap (λ (l : Text). get_or l i 0) e))

pub same_bytes : (a b : Text) (i : ℕ) → length a ≡ length b → length a ≤ i → ((k : ℕ) → k < i → get_or a k 0 ≡ get_or b k 0) → true ≡ same a b
same_bytes a b i l h e = same_yes (ext_get_or 0 a b l (λ k j. e k (omega arith)))

pub same_sym : (a b : Text) → same a b ≡ same b a
same_sym a b = at (same a b) refl
  where
    at : (t : Bool) → same a b ≡ t → t ≡ same b a
    at true e = same_yes (sym (same_eq a b e))
    at false e = same_no b a (λ q. false≢true (sym e ∙ sym (same_yes (sym q))))

-- parts of one length are compared one by one
pub same_append : (a b x y : Text) → length a ≡ length b → same (a ++ x) (b ++ y) ≡ (same a b && same x y)
unfolding same
same_append [] [] x y e = refl
same_append [] (d ∷ b) x y e = absurd (omega arith)
same_append (c ∷ a) [] x y e = absurd (omega arith)
same_append (c ∷ a) (d ∷ b) x y e = rw (same_append a b x y (omega arith)) (sym (and_assoc (eqb c d) (same a b) (same x y)))
