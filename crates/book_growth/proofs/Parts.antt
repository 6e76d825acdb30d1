-- The two parts of what is appended to a section.
use Prim.Native.Nat.{ℕ, ◌<◌}
use mathlib.Core.Path.{◌≡◌, refl}
use mathlib.Core.List.{List, [], ◌++◌, append-nil}
use Rattle.book.specs.Laid.{section_at, section_count}
use Rattle.book.proofs.EachSection.{each_section}
use Rattle.book_growth.specs.Growth.{added}
use Rattle.book_growth.specs.Parts.{addition_by, part, rest}
use Rattle.book_growth.specs.declared.Additions.{Additions}

both_parts : (m : Additions) (n : ℕ) → n < section_count → part m n ++ rest m n ≡ added (addition_by m) (section_at n)
unfolding part rest added
both_parts m =
    each_section (λ n. part m n ++ rest m n ≡ added (addition_by m) (section_at n)) refl (append-nil m.names.now) refl (append-nil m.constants.now) refl refl refl
    (append-nil m.terms.now) (append-nil m.contexts.now) refl

pub both_told : (m : Additions) {n : ℕ} {x y : List ℕ} → n < section_count → x ≡ part m n → y ≡ rest m n → x ++ y ≡ added (addition_by m) (section_at n)
both_told m {n} known e f = rw (e, f) (both_parts m n known)

pub part_else : (m : Additions) (n : ℕ) → n < section_count → ¬ (n ≡ 0) → ¬ (n ≡ 1) → ¬ (n ≡ 3) → ¬ (n ≡ 7) → ¬ (n ≡ 8) → ¬ (n ≡ 9) → [] ≡ part m n
unfolding part
part_else m =
    each_section (λ n. ¬ (n ≡ 0) → ¬ (n ≡ 1) → ¬ (n ≡ 3) → ¬ (n ≡ 7) → ¬ (n ≡ 8) → ¬ (n ≡ 9) → [] ≡ part m n)
    (λ h _ _ _ _ _. absurd (h refl)) (λ _ h _ _ _ _. absurd (h refl)) (λ _ _ _ _ _ _. refl) (λ _ _ h _ _ _. absurd (h refl)) (λ _ _ _ _ _ _. refl)
    (λ _ _ _ _ _ _. refl) (λ _ _ _ _ _ _. refl) (λ _ _ _ h _ _. absurd (h refl)) (λ _ _ _ _ h _. absurd (h refl)) (λ _ _ _ _ _ h. absurd (h refl))

pub rest_else : (m : Additions) (n : ℕ) → n < section_count → ¬ (n ≡ 0) → ¬ (n ≡ 9) → [] ≡ rest m n
unfolding rest
rest_else m =
    each_section (λ n. ¬ (n ≡ 0) → ¬ (n ≡ 9) → [] ≡ rest m n) (λ h _. absurd (h refl)) (λ _ _. refl) (λ _ _. refl) (λ _ _. refl) (λ _ _. refl)
    (λ _ _. refl) (λ _ _. refl) (λ _ _. refl) (λ _ _. refl) (λ _ h. absurd (h refl))
