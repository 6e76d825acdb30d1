-- The text of a term of each kind.
use Prim.Native.Nat.{ℕ, ◌<◌, ◌≤◌}
use mathlib.Core.Logic.{◌⊎◌, inl, inr}
use native.Mathlib.Omega.{arith}
use mathlib.Core.Path.{◌≡◌, ◌∙◌}
use mathlib.Core.List.{◌++◌, append_assoc}
use Rattle.basics.specs.Text.{Text}
use Rattle.book.specs.Book.{Book, constants, terms, size, field, name_text}
use Rattle.book.specs.Kinds.{number_of}
use Rattle.book.specs.declared.kind.Kind.{Kind}
use Rattle.book.specs.declared.kind.Kind.TheVariants.{BuiltIn, Application}
use Rattle.book.specs.Decode.{kind_of, constant_of, function_of, literal_of, term_by, term}
use Rattle.book_test.specs.Promise.{Promise, Range}
use Rattle.book_test.proofs.TermKinds.{each_kind, known, shape, good_built_in, good_application}
use Rattle.rsolver.specs.Listing.{roperator_to_string, bound_var_to_string, custom_literal_to_string, rexpr_to_string, rexpr_list_to_string}
use Rattle.listing_terms.specs.Texts.{boolean_text, integer_text, operator_text, universal, variables_text, terms_text, patterns_text, arguments_text, if_text, let_text, quantifier_text}

-- the two kinds that apply something
pub applied : {kind : Kind} {k : ℕ} → (kind ≡ BuiltIn) ⊎ (kind ≡ Application) → number_of kind ≡ k → (4 ≤ k) × (k ≤ 5)
applied {kind} {k} (inl e) h = let m : 4 ≡ k = rw e at h in (omega (arith, m), omega (arith, m))
applied {kind} {k} (inr e) h = let m : 5 ≡ k = rw e at h in (omega (arith, m), omega (arith, m))

module _ {b : Book} (P : Promise b) {t : ℕ} (here : t < size b terms) {k : ℕ} (kind : k ≡ field b terms t 0) where
  is : term b t ≡ term_by b (kind_of k) (term b) t
  is = shape P here kind

  -- an application, built-in or not
  either : {A : Type 0} → 4 ≤ k → k ≤ 5 → (k ≡ 4 → A) → (k ≡ 5 → A) → A
  either l m f g =
      each_kind k (known P here kind) (λ e. absurd (omega arith)) (λ e. absurd (omega arith)) (λ e. absurd (omega arith)) (λ e. absurd (omega arith)) f g (λ e. absurd (omega arith))
      (λ e. absurd (omega arith)) (λ e. absurd (omega arith))

  pub good_arguments : 4 ≤ k → k ≤ 5 → Range b t (field b terms t 2) (field b terms t 3)
  good_arguments l m = either l m (λ e. (good_built_in P here kind e).args) (λ e. (good_application P here kind e).args)

  -- ---- its text
  pub of_boolean : k ≡ 0 → boolean_text b t ≡ rexpr_to_string (term b t)
  unfolding rexpr_to_string term_by kind_of boolean_text
  of_boolean e = rw (is, e)

  pub of_integer : k ≡ 1 → integer_text b t ≡ rexpr_to_string (term b t)
  unfolding rexpr_to_string term_by kind_of integer_text
  of_integer e = rw (is, e)

  pub of_literal : k ≡ 2 → custom_literal_to_string (literal_of b t) ≡ rexpr_to_string (term b t)
  unfolding rexpr_to_string term_by kind_of
  of_literal e = rw (is, e)

  pub of_id : {s : Text} {v : ℕ} → k ≡ 3 → v ≡ field b terms t 1 → s ≡ name_text b (field b constants v 0) → s ≡ rexpr_to_string (term b t)
  unfolding rexpr_to_string term_by kind_of constant_of
  of_id e ev h = h ∙ rw (ev, is, e)

  of_built_in : k ≡ 4 → operator_text b t ++ arguments_text b t ≡ rexpr_to_string (term b t)
  unfolding rexpr_to_string term_by kind_of roperator_to_string operator_text arguments_text terms_text rexpr_list_to_string
  of_built_in e = rw (is, ← kind, e) (simp append_assoc)

  of_function : k ≡ 5 → operator_text b t ++ arguments_text b t ≡ rexpr_to_string (term b t)
  unfolding rexpr_to_string term_by kind_of roperator_to_string function_of operator_text arguments_text terms_text rexpr_list_to_string
  of_function e = rw (is, ← kind, e) (simp append_assoc)

  pub of_application : 4 ≤ k → k ≤ 5 → operator_text b t ++ arguments_text b t ≡ rexpr_to_string (term b t)
  of_application l m = either l m of_built_in of_function

  pub of_if : k ≡ 6 → if_text b t ≡ rexpr_to_string (term b t)
  unfolding rexpr_to_string term_by kind_of if_text
  of_if e = rw (is, e) (simp append_assoc)

  pub of_let : k ≡ 7 → let_text b t ≡ rexpr_to_string (term b t)
  unfolding rexpr_to_string term_by kind_of let_text bound_var_to_string
  of_let e = rw (is, e) (simp append_assoc)

  pub of_quantifier : k ≡ 8 → quantifier_text b t ≡ rexpr_to_string (term b t)
  unfolding rexpr_to_string term_by kind_of quantifier_text variables_text patterns_text universal
  of_quantifier e = rw (is, e) (simp append_assoc)
