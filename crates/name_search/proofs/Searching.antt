-- The first name with a text: what its number says, and what a search that goes by the numbers has found.
use Rattle.std.specs.Prelude.{Some, None, MatchOption, if◌then◌else◌}
use Rattle.std.specs.Prelude as code
use Prim.Native.Nat.{ℕ, suc, ◌+◌, ◌<◌, ◌≤◌}
use native.Mathlib.Omega.{arith}
use mathlib.Core.Path.{◌≡◌, refl, sym, ap, ◌∙◌}
use mathlib.Core.Bool.{Bool, true, false, false≢true}
use mathlib.Core.List.{List, [], ◌∷◌, ◌++◌}
use mathlib.Core.Option.{Option, none, some}
use lib.ListN.{length, get_or}
use Rattle.basics.specs.Text.{Text, same}
use Rattle.basics.proofs.Counting.{length_up, up_at}
use Rattle.basics.proofs.Texts.{same_refl, same_eq}
use Rattle.book.specs.Book.{Book, names, size, name_text}
use Rattle.name_search.specs.Names.{later, position, texts, first_name, maybe}
use Rattle.name_search.proofs.Position.{First, position_some, position_none, some_position, none_position}

differ : {x t : Text} → same x t ≡ false → ¬ (x ≡ t)
differ {x} {t} e q = false≢true (sym e ∙ rw q (same_refl t))

-- ---- two lists, one behind the other: a place of the first, or one behind it
unfoldable pub or_later : Option ℕ → ℕ → Option ℕ → Option ℕ
or_later (some n) k o = some n
or_later none k none = none
or_later none k (some m) = some (k + m)

none_before : (o : Option ℕ) → o ≡ or_later none 0 o
unfolding or_later
none_before none = refl
none_before (some m) = ap some (omega arith)

one_before : (p : Option ℕ) (k : ℕ) (o : Option ℕ) → later (or_later p k o) ≡ or_later (later p) (suc k) o
unfolding or_later later
one_before (some n) k o = refl
one_before none k none = refl
one_before none k (some m) = ap some (omega arith)

pub position_append : (t : Text) (xs ys : List Text) → position t (xs ++ ys) ≡ or_later (position t xs) (length xs) (position t ys)
unfolding position later or_later
position_append t [] ys = none_before (position t ys)
position_append t (x ∷ xs) ys = at (same x t) (position_append t xs ys)
  where
    at : (s : Bool) → position t (xs ++ ys) ≡ or_later (position t xs) (length xs) (position t ys)
        → (if s then some 0 else later (position t (xs ++ ys))) ≡ or_later (if s then some 0 else later (position t xs)) (suc (length xs)) (position t ys)
    at true e = refl
    at false e = ap later e ∙ one_before (position t xs) (length xs) (position t ys)

module _ (b : Book) where
  pub texts_length : length (texts b) ≡ size b names
  unfolding texts
  texts_length = length_up (name_text b) 0 (size b names)

  text_at : (n : ℕ) → n < size b names → get_or (texts b) n [] ≡ name_text b n
  unfolding texts
  text_at n h = up_at (name_text b) [] (size b names) n h

  module _ (t : Text) where
    first : (n : ℕ) → first_name b t ≡ some n → First t (texts b) n
    unfolding first_name
    first n e = position_some t (texts b) n e

    pub first_below : (n : ℕ) → first_name b t ≡ some n → n < size b names
    first_below n e = omega (arith, (first n e).below, texts_length)

    pub first-is : (n : ℕ) → first_name b t ≡ some n → name_text b n ≡ t
    first-is n e = sym (text_at n (first_below n e)) ∙ same_eq _ t (first n e).here

    -- what the number means, for the reader: no earlier name is the text, and where there is none no name is (nothing cites these two)
    pub first_least : (n k : ℕ) → first_name b t ≡ some n → k < n → ¬ (name_text b k ≡ t)
    first_least n k e h q = differ ((first n e).before k h) (text_at k (omega (arith, first_below n e)) ∙ q)

    pub first_none : (k : ℕ) → first_name b t ≡ none → k < size b names → ¬ (name_text b k ≡ t)
    unfolding first_name
    first_none k e h q = differ (position_none t (texts b) e k (omega (arith, texts_length))) (text_at k h ∙ q)

    -- ---- a search by the numbers, from the lowest on
    abbrev pub Found : ℕ → Bool → Type 0
    Found n r = same (name_text b n) t ≡ r

    abbrev pub NoneBefore : ℕ → Type 0
    NoneBefore n = (k : ℕ) → 0 ≤ k → k < n → Found k false

    pub search_told : {all : ℕ} (r : code.Option ℕ) → all ≡ size b names → MatchOption r (NoneBefore all) (λ n. (0 ≤ n) × (n < all) × Found n true × NoneBefore n) → maybe r ≡ first_name b t
    unfolding maybe first_name
    search_told None e h = sym (none_position t (texts b) (λ k l. rw (text_at k (omega (arith, texts_length))) (h k (omega arith) (omega (arith, texts_length)))))
    search_told (Some n) e h =
        sym
        (some_position t (texts b) n
        (record {
          below = omega (arith, texts_length, h.1);
          here = rw (text_at n (omega (arith, h.1))) h.2;
          before = λ k l. rw (text_at k (omega (arith, h.1))) (h.3 k (omega arith) l);
        }))
