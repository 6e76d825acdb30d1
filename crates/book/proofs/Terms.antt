-- What stands at a number: a term by the terms before it, and each record of a book's program.
use Prim.Native.Nat.{ℕ, zero, suc, ◌-◌, ◌≤◌, ◌<◌}
use native.Mathlib.Omega.{arith}
use native.Mathlib.Decide.{dec_lt}
use mathlib.Core.Path.{◌≡◌, refl, ◌∙◌}
use mathlib.Core.Option.{none, some}
use mathlib.Core.List.{[], ◌∷◌}
use mathlib.Core.Bool.{true, false}
use lib.ListN.{length, get_or, length-append, get_or-append, get_or-eq_default}
use lib.Seq.{get_or_at}
use Rattle.basics.proofs.Counting.{up_at, length_up}
use Rattle.book.specs.RExpr.{Boolean}
use Rattle.book.specs.Program.{axiom_at, node_at}
use Rattle.book.specs.Book.{Book, axioms, terms, contexts, size, field}
use Rattle.book.specs.Decode.{custom_literal, kind_of, literal_of, term_over, first_terms, term, literal_by, literal_at, axiom_of, context_of, program}

module _ (b : Book) where
  first_length : (n : ℕ) → length (first_terms b n) ≡ n
  unfolding first_terms
  first_length zero = refl
  first_length (suc n) = length-append (first_terms b n) (_ ∷ []) ∙ omega (arith, first_length n)

  pub first-at : (n c : ℕ) → c < n → get_or (first_terms b n) c (Boolean false) ≡ term b c
  unfolding first_terms term
  first-at zero c h = absurd (omega arith)
  first-at (suc n) c h = at (λ l. first-at n c l) (dec_lt c n)
    where
      at : (c < n → get_or (first_terms b n) c (Boolean false) ≡ term b c) → Dec (c < n) → get_or (first_terms b (suc n)) c (Boolean false) ≡ term b c
      at up (yes l) = get_or-append (first_terms b n) _ (Boolean false) c (omega (arith, first_length n)) ∙ up l
      at up (no l) = let e : n ≡ c = omega arith in rw e

  pub term_is : (t : ℕ) → term b t ≡ term_over b (λ c. get_or (first_terms b t) c (Boolean false)) t
  unfolding term first_terms
  term_is t = get_or_at (first_terms b t) _ [] (Boolean false) t (first_length t)

  pub axioms_length : length (program b).axioms ≡ size b axioms
  unfolding program
  axioms_length = length_up (axiom_of b) 0 (size b axioms)

  pub literals_length : length (program b).literals ≡ size b terms
  unfolding program
  literals_length = length_up (literal_at b) 0 (size b terms)

  pub contexts_length : length (program b).contexts ≡ size b contexts
  unfolding program
  contexts_length = length_up (context_of b) 0 (size b contexts)

  pub axiom-at : (k : ℕ) → k < size b axioms → axiom_at (program b) k ≡ axiom_of b k
  unfolding program
  axiom-at k h = up_at (axiom_of b) _ (size b axioms) k h

  pub axiom_behind : (k : ℕ) → size b axioms ≤ k → axiom_at (program b) k ≡ record { term = none; explains = [] }
  axiom_behind k h = get_or-eq_default (program b).axioms _ (omega (arith, axioms_length))

  pub literal-at : (t : ℕ) → t < size b terms → get_or (program b).literals t none ≡ literal_at b t
  unfolding program
  literal-at t h = up_at (literal_at b) none (size b terms) t h

  pub node-at : (k : ℕ) → k < size b contexts → node_at (program b) (suc k) ≡ context_of b k
  unfolding program node_at
  node-at k h = let e : suc k - 1 ≡ k = omega arith in rw e (up_at (context_of b) _ (size b contexts) k h)

  pub node_behind : (k : ℕ) → size b contexts ≤ k → node_at (program b) (suc k) ≡ record { parent = 0; expr = Boolean true; trace_string = none }
  unfolding node_at
  node_behind k h = get_or-eq_default (program b).contexts _ (omega (arith, contexts_length))

  -- ---- whether a term is a literal
  pub literal_here : (t : ℕ) → kind_of (field b terms t 0) ≡ custom_literal → literal_at b t ≡ some (literal_of b t)
  unfolding literal_at literal_by
  literal_here t e = rw e

  pub literal_kind : (t : ℕ) → field b terms t 0 ≡ 2 → literal_at b t ≡ some (literal_of b t)
  unfolding kind_of
  literal_kind t e = literal_here t (rw e)

  pub other_kind : (n t : ℕ) → (n ≡ 2 → ⊥) → literal_by b (kind_of n) t ≡ none
  unfolding literal_by kind_of
  other_kind zero t h = refl
  other_kind (suc zero) t h = refl
  other_kind (suc (suc zero)) t h = absurd (h refl)
  other_kind (suc (suc (suc zero))) t h = refl
  other_kind (suc (suc (suc (suc zero)))) t h = refl
  other_kind (suc (suc (suc (suc (suc zero))))) t h = refl
  other_kind (suc (suc (suc (suc (suc (suc zero)))))) t h = refl
  other_kind (suc (suc (suc (suc (suc (suc (suc zero))))))) t h = refl
  other_kind (suc (suc (suc (suc (suc (suc (suc (suc zero)))))))) t h = refl
  other_kind (suc (suc (suc (suc (suc (suc (suc (suc (suc n))))))))) t h = refl
