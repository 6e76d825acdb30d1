-- Two books, the second with every record of the first: a term of the first is the same in both.
use Prim.Native.Nat.{ℕ, zero, suc, ◌<◌}
use native.Mathlib.Omega.{arith}
use mathlib.Core.Path.{◌≡◌, refl, sym, ◌∙◌}
use mathlib.Core.List.{List}
use mathlib.Core.Bool.{false}
use lib.ListN.{get_or}
use Rattle.basics.proofs.All.{All, end, more, map_agree}
use Rattle.book.specs.Book.{Book, constants, patterns, terms, size, field}
use Rattle.book.specs.RExpr.{RExpr, Boolean}
use Rattle.book.specs.Decode.{Kind, boolean, integer, custom_literal, id, built_in, application, if_then_else, let_expr, quantifier_expr, kind_of, constant_of, to_rpatterns, args_of, pattern_of, term_by, term_over, first_terms, term, literal_by, literal_at}
use Rattle.book.proofs.Terms.{first-at, term_is}
use Rattle.book_test.specs.Promise.{Range, GoodPattern, GoodKind, Promise}
use Rattle.book_test.proofs.Entries.{entries_each}
use Rattle.book_test.proofs.TermLaw.{children_agree, term-over}
use Rattle.book_test.specs.Kept.{Kept}
use Rattle.book_test.proofs.KeptRecords.{name_text_kept, entries_kept, constant_of_kept, function_of_kept, literal_of_kept}

module _ (b c : Book) (P : Promise b) (K : Kept b c) where
  module _ (t : ℕ) (here : t < size b terms) where
    -- a field of term t
    same : (i : ℕ) → i < 7 → field c terms t i ≡ field b terms t i
    same i h = K.fields 7 (omega arith) t i here (omega arith)

    -- over children that agree below t
    module _ (f g : ℕ → RExpr) (agree : (x : ℕ) → x < t → f x ≡ g x) where
      args_kept : (start count : ℕ) → Range b t start count → args_of c f start count ≡ args_of b g start count
      unfolding args_of
      args_kept start count r = rw (entries_kept b c P K start count r.ends) (children_agree t f g agree (entries_each b (λ x. x < t) start count r.below))

      pattern_kept : (p : ℕ) → GoodPattern b t p → pattern_of c f p ≡ pattern_of b g p
      unfolding pattern_of
      pattern_kept p h =
          rw (K.fields 6 (omega arith) p 0 h.here (omega arith), K.fields 6 (omega arith) p 1 h.here (omega arith))
          (args_kept (field b patterns p 0) (field b patterns p 1) h.range)

      patterns_kept : {ps : List ℕ} → All (GoodPattern b t) ps → to_rpatterns (pattern_of c f) ps ≡ to_rpatterns (pattern_of b g) ps
      unfolding to_rpatterns
      patterns_kept end = refl
      patterns_kept (more {a = p} h hs) = rw (pattern_kept p h, patterns_kept hs)

      by_kept : (k : Kind) → GoodKind k b t → term_by c k f t ≡ term_by b k g t
      unfolding term_by GoodKind
      by_kept boolean h = rw (same 1 (omega arith))
      by_kept integer h = rw (same 1 (omega arith), same 2 (omega arith))
      by_kept custom_literal h = rw (literal_of_kept b c P K t here h)
      by_kept id h = rw (same 1 (omega arith), constant_of_kept b c P K (field b terms t 1) h)
      by_kept built_in h =
          rw (
            same 1 (omega arith),
            same 2 (omega arith),
            same 3 (omega arith),
            name_text_kept b c P K (field b terms t 1) h.name,
            args_kept (field b terms t 2) (field b terms t 3) h.args,
          )
      by_kept application h =
          rw (
            same 1 (omega arith),
            same 2 (omega arith),
            same 3 (omega arith),
            function_of_kept b c P K (field b terms t 1) h.function,
            args_kept (field b terms t 2) (field b terms t 3) h.args,
          )
      by_kept if_then_else h =
          rw (same 1 (omega arith), same 2 (omega arith), same 3 (omega arith), agree _ h.guard, agree _ h.thn, agree _ h.els)
      by_kept let_expr h =
          rw (same 1 (omega arith), same 2 (omega arith), same 3 (omega arith), constant_of_kept b c P K (field b terms t 1) h.v, agree _ h.rhs, agree _ h.body)
      by_kept quantifier_expr h =
          let vars = entries_each b (λ k. k < size b constants) (field b terms t 2) (field b terms t 3) h.vars.below in
          let listed = entries_each b (GoodPattern b t) (field b terms t 4) (field b terms t 5) h.patterns.each in
          rw (
            same 1 (omega arith),
            same 2 (omega arith),
            same 3 (omega arith),
            same 4 (omega arith),
            same 5 (omega arith),
            same 6 (omega arith),
            entries_kept b c P K (field b terms t 2) (field b terms t 3) h.vars.ends,
            entries_kept b c P K (field b terms t 4) (field b terms t 5) h.patterns.ends,
            map_agree (λ k. k < size b constants) (constant_of c) (constant_of b) (constant_of_kept b c P K) vars,
            patterns_kept listed,
            agree _ h.body,
          )

      over_kept : term_over c f t ≡ term_over b g t
      unfolding term_over
      over_kept = rw (same 0 (omega arith)) (by_kept (kind_of (field b terms t 0)) (P.term t here).fields)

    literal_kept : (k : Kind) → GoodKind k b t → literal_by c k t ≡ literal_by b k t
    unfolding literal_by GoodKind
    literal_kept boolean h = refl
    literal_kept integer h = refl
    literal_kept custom_literal h = rw (literal_of_kept b c P K t here h)
    literal_kept id h = refl
    literal_kept built_in h = refl
    literal_kept application h = refl
    literal_kept if_then_else h = refl
    literal_kept let_expr h = refl
    literal_kept quantifier_expr h = refl

    pub literal_at_kept : literal_at c t ≡ literal_at b t
    unfolding literal_at
    literal_at_kept = rw (same 0 (omega arith)) (literal_kept (kind_of (field b terms t 0)) (P.term t here).fields)

  below_kept : (n t : ℕ) → t < n → t < size b terms → term c t ≡ term b t
  below_kept zero t h l = absurd (omega arith)
  below_kept (suc n) t h l =
      term_is c t
      ∙ over_kept t l (λ x. get_or (first_terms c t) x (Boolean false)) (term b) (λ x k. first-at c t x k ∙ below_kept n x (omega arith) (omega arith))
      ∙ sym (term-over b P t l)

  pub term_kept : (t : ℕ) → t < size b terms → term c t ≡ term b t
  term_kept t l = below_kept (suc t) t (omega arith) l
