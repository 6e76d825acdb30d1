-- A term of an accepted book is what its record says, over its children.
use Prim.Native.Nat.{ℕ, ◌<◌}
use mathlib.Core.Path.{◌≡◌, refl, ◌∙◌}
use mathlib.Core.List.{List}
use mathlib.Core.Bool.{false}
use lib.ListN.{get_or}
use Rattle.basics.proofs.All.{All, end, more}
use Rattle.book.specs.Book.{Book, terms, size, field}
use Rattle.book.specs.RExpr.{RExpr, Boolean}
use Rattle.book.specs.Decode.{Kind, boolean, integer, custom_literal, id, built_in, application, if_then_else, let_expr, quantifier_expr, kind_of, to_rexprs, to_rpatterns, args_of, pattern_of, term_by, term_over, first_terms, term}
use Rattle.book.proofs.Terms.{first-at, term_is}
use Rattle.book_test.specs.Promise.{Range, GoodPattern, GoodKind, Promise}
use Rattle.book_test.proofs.Entries.{entries_each}

-- what agrees below a number makes the same of children below it
pub children_agree : (t : ℕ) (f g : ℕ → RExpr) → ((c : ℕ) → c < t → f c ≡ g c) → {cs : List ℕ} → All (λ c. c < t) cs → to_rexprs f cs ≡ to_rexprs g cs
unfolding to_rexprs
children_agree t f g agree end = refl
children_agree t f g agree (more {a = c} h hs) = rw (agree c h, children_agree t f g agree hs)

module _ (b : Book) (t : ℕ) (f g : ℕ → RExpr) (agree : (c : ℕ) → c < t → f c ≡ g c) where
  args_agree : (start count : ℕ) → Range b t start count → args_of b f start count ≡ args_of b g start count
  unfolding args_of
  args_agree start count r = children_agree t f g agree (entries_each b (λ c. c < t) start count r.below)

  patterns_agree : {ps : List ℕ} → All (GoodPattern b t) ps → to_rpatterns (pattern_of b f) ps ≡ to_rpatterns (pattern_of b g) ps
  unfolding to_rpatterns pattern_of
  patterns_agree end = refl
  patterns_agree (more h hs) = rw (args_agree _ _ h.range, patterns_agree hs)

  by_agree : (k : Kind) → GoodKind k b t → term_by b k f t ≡ term_by b k g t
  unfolding term_by GoodKind
  by_agree boolean h = refl
  by_agree integer h = refl
  by_agree custom_literal h = refl
  by_agree id h = refl
  by_agree built_in h = rw (args_agree _ _ h.args)
  by_agree application h = rw (args_agree _ _ h.args)
  by_agree if_then_else h = rw (agree _ h.guard, agree _ h.thn, agree _ h.els)
  by_agree let_expr h = rw (agree _ h.rhs, agree _ h.body)
  by_agree quantifier_expr h = rw (patterns_agree (entries_each b (GoodPattern b t) _ _ h.patterns.each), agree _ h.body)

pub term-over : (b : Book) → Promise b → (t : ℕ) → t < size b terms → term b t ≡ term_over b (term b) t
unfolding term_over
term-over b P t l =
    term_is b t ∙ by_agree b t (λ c. get_or (first_terms b t) c (Boolean false)) (term b) (first-at b t) (kind_of (field b terms t 0)) (P.term t l).fields
