-- What is read of a name, and what each look at one tells.
use Prim.Native.Nat.{ℕ, zero, suc, ◌+◌, ◌-◌, ◌<◌, ◌≤◌}
use native.Mathlib.Omega.{arith}
use mathlib.Core.Path.{◌≡◌, refl, sym, ◌∙◌}
use mathlib.Core.Bool.{Bool, true, false, not, ◌&&◌}
use borrow.Author.Tests.{not-true}
use Rattle.basics.specs.Text.{Text, ascii, same}
use Rattle.basics.proofs.Bool.{and_both, or_second}
use Rattle.symbols.specs.Symbols.{has_bar}
use Rattle.book.specs.Book.{Book, letters, names, types, terms, size, field, name_text}
use Rattle.book.specs.Laid.{Laid, AllLaid, Holds}
use Rattle.book.specs.RExpr.{Literal, is_tag}
use Rattle.book.specs.Decode.{type_of, literal_of, literal_at}
use Rattle.book.proofs.Terms.{literal_kind, other_kind}
use Rattle.book_names.specs.Names.{plain_type, literal_named, says_named, term_named}
use Rattle.book_names.specs.Spelled.{Spelled, NamedFirst}

-- what refusal 28 gives of a literal that is no tag
pub literal_plain : (l : Literal) → literal_named l ≡ true → is_tag l ≡ false → (has_bar l.s ≡ false) × (plain_type l.typ ≡ true)
unfolding literal_named
literal_plain l h e =
    let r = and_both (not (has_bar l.s)) (plain_type l.typ) (or_second (is_tag l) (not (has_bar l.s) && plain_type l.typ) h e) in
    (not-true (has_bar l.s) r.0, r.1)

module _ (b : Book) where
  -- ---- what the readers ask
  module _ (L : AllLaid b) (S : Spelled b) where
    pub reads_name : (n : ℕ) → n < size b names → Laid b letters × Holds b names n 1 × (field b names n 0 + field b names n 1 ≤ size b letters)
    reads_name n h = (L.letters_laid, record { laid = L.names_laid; here = h; within = omega arith }, S.name n h)

    pub types_first : NamedFirst b 2
    types_first = record { known = omega arith; listed = L.types_laid.contents; laid = L.types_laid; wide = omega arith; named = S.typ }

    pub constants_first : NamedFirst b 3
    constants_first = record { known = omega arith; listed = L.constants_laid.contents; laid = L.constants_laid; wide = omega arith; named = S.constant }

    pub functions_first : NamedFirst b 4
    functions_first = record { known = omega arith; listed = L.functions_laid.contents; laid = L.functions_laid; wide = omega arith; named = S.function }

  -- ---- a type
  pub word_plain : (k : ℕ) → k < 2 → true ≡ plain_type (type_of b k)
  unfolding plain_type type_of
  word_plain zero h = refl
  word_plain (suc zero) h = refl
  word_plain (suc (suc k)) h = absurd (omega arith)

  pub user_plain : (k : ℕ) → 2 ≤ k → {r : Bool} → r ≡ has_bar (name_text b (field b types (k - 2) 0)) → not r ≡ plain_type (type_of b k)
  unfolding plain_type type_of
  user_plain zero h e = absurd (omega arith)
  user_plain (suc zero) h e = absurd (omega arith)
  user_plain (suc (suc k)) h e = let q : suc (suc k) - 2 ≡ k = omega arith in rw (e, q)

  module _ (t : ℕ) where
    -- ---- a literal, whose text is s
    module _ {s : Text} (text : s ≡ name_text b (field b terms t 1)) {tag : Bool} (asked : tag ≡ same s (ascii "%tag")) where
      pub tag_named : tag ≡ true → true ≡ literal_named (literal_of b t)
      unfolding literal_named is_tag literal_of
      tag_named h = rw (← text, ← asked, h)

      module _ (other : tag ≡ false) {bar : Bool} (looked : bar ≡ has_bar s) where
        pub barred_text : bar ≡ true → false ≡ literal_named (literal_of b t)
        unfolding literal_named is_tag literal_of
        barred_text h = rw (← text, ← asked, other, ← looked, h)

        pub plain_text : bar ≡ false → {k : ℕ} → k ≡ field b terms t 2 → {r : Bool} → r ≡ plain_type (type_of b k) → r ≡ literal_named (literal_of b t)
        unfolding literal_named is_tag literal_of
        plain_text h e q = rw (← text, ← asked, other, ← looked, h, ← e) q

    -- ---- a term of kind n
    module _ {n : ℕ} (kind : n ≡ field b terms t 0) where
      pub no_literal : (n ≡ 2 → ⊥) → true ≡ term_named b t
      unfolding term_named says_named literal_at
      no_literal h = rw (other_kind b (field b terms t 0) t (λ e. h (kind ∙ e)))

      pub by_literal : n ≡ 2 → {r : Bool} → r ≡ literal_named (literal_of b t) → r ≡ term_named b t
      unfolding term_named says_named
      by_literal h e = rw (literal_kind b t (sym kind ∙ h)) e
