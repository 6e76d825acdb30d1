-- The terms of a book are looked at one after the other: none is a literal that prints as a number, or one is.
use Prim.Native.Nat.{ℕ, ◌+◌}
use native.Mathlib.Omega.{arith}
use mathlib.Core.Path.{◌≡◌, refl, sym, ap, ◌∙◌}
use mathlib.Core.Bool.{Bool, true, false, not, not-not, ◌&&◌, ◌||◌}
use mathlib.Core.List.{List, [], ◌∷◌}
use mathlib.Core.Option.{none}
use Rattle.std.specs.List.{list_all, list_any, range_with_len}
use Rattle.basics.specs.Lists.{all}
use Rattle.number_lists.proofs.Ranges.{all_range_from}
use Rattle.book.specs.Book.{Book, terms, size, field}
use Rattle.book.specs.Decode.{literal_of, literal_at, program}
use Rattle.book.proofs.Terms.{literals_length, literal-at, literal_kind, other_kind}
use Rattle.book.specs.RExpr.{is_tag}
use Rattle.audit.specs.Audit.{has_no_tag}

module _ (b : Book) where
  -- ---- one term
  module _ (t : ℕ) {n : ℕ} (kind : n ≡ field b terms t 0) where
    pub no_literal : (n ≡ 2 → ⊥) → false ≡ not (has_no_tag (literal_at b t))
    unfolding has_no_tag literal_at
    no_literal h = rw (other_kind b (field b terms t 0) t (λ e. h (kind ∙ e)))

    pub by_name : n ≡ 2 → {r : Bool} → r ≡ is_tag (literal_of b t) → r ≡ not (has_no_tag (literal_at b t))
    unfolding has_no_tag
    by_name h e = e ∙ rw (literal_kind b t (sym kind ∙ h), not-not (is_tag (literal_of b t)))

  -- ---- all of them
  any_not : (t : ℕ → Bool) (l : List ℕ) → list_any (λ i. not (t i)) l ≡ not (list_all t l)
  any_not t [] = refl
  any_not t (x ∷ l) = rw (any_not t l) (at (t x) (list_all t l))
    where
      at : (p q : Bool) → (not p || not q) ≡ not (p && q)
      at true q = refl
      at false q = refl

  pub by_range : list_any (λ t. not (has_no_tag (literal_at b t))) (range_with_len 0 (size b terms)) ≡ not (all (program b).literals has_no_tag)
  by_range =
      any_not (λ t. has_no_tag (literal_at b t)) (range_with_len 0 (size b terms))
      ∙ ap not (rw (← literals_length b) (all_range_from has_no_tag (literal_at b) none 0 (program b).literals (λ k h. let e : 0 + k ≡ k = omega arith in ap (literal_at b) e ∙ sym (literal-at b k (rw (literals_length b) at h)))))
