-- The parts of a list, one more.
use Prim.Native.Nat.{ℕ, suc, ◌+◌, ◌<◌, ◌≤◌}
use native.Mathlib.Omega.{arith}
use native.Mathlib.Numerals.{add-one}
use mathlib.Core.Path.{◌≡◌, refl, sym, ap, ◌∙◌}
use mathlib.Core.List.{List, [], ◌∷◌, ◌++◌, map, append_assoc, append-nil}
use lib.ListN.{length, length-map}
use Rattle.basics.specs.Text.{Text, ascii}
use Rattle.basics.specs.Basics.{comma, seq_to_string}
use Rattle.basics.specs.Write.{MOST, WroteAt}
use Rattle.basics.proofs.Places.{at_then, at_none, at_as}
use Rattle.book.specs.Book.{Book, patterns, lists, field, entries}
use Rattle.book.specs.RExpr.{RExpr, RExprs}
use Rattle.book.specs.Decode.{to_rexprs, to_rpatterns, constant_of, args_of, pattern_of, term}
use Rattle.book_test.specs.Promise.{Range}
use Rattle.book_test.proofs.Entries.{entries_more, entries_length, map_more}
use Rattle.rsolver.specs.Listing.{COMMA, bound_var_to_string, bound_vars_to_string, rexpr_to_string, rexpr_strings, rexpr_list_to_string, patterns_to_string}
use Rattle.listing_terms.specs.Texts.{lead, variables_text, terms_text, patterns_text}

comma_more : (xs : List Text) (x : Text) → comma (xs ++ (x ∷ [])) COMMA ≡ comma xs COMMA ++ (lead (length xs) ++ x)
unfolding comma lead
comma_more [] x = refl
comma_more (y ∷ []) x = append_assoc y COMMA x
comma_more (y ∷ z ∷ xs) x =
    ap (λ (s : Text). y ++ COMMA ++ s) (comma_more (z ∷ xs) x) ∙ sym (append_assoc (y ++ COMMA) (comma (z ∷ xs) COMMA) (lead (length (z ∷ xs)) ++ x))

-- of i parts
comma_next : (xs : List Text) (x : Text) (i : ℕ) → length xs ≡ i → comma (xs ++ (x ∷ [])) COMMA ≡ comma xs COMMA ++ (lead i ++ x)
comma_next xs x i e = comma_more xs x ∙ ap (λ (n : ℕ). comma xs COMMA ++ (lead n ++ x)) e

module _ (b : Book) where
  -- ---- constants
  variables_next : (start i : ℕ) → variables_text b start (suc i) ≡ variables_text b start i ++ (lead i ++ bound_var_to_string (constant_of b (field b lists (start + i) 0)))
  unfolding variables_text bound_vars_to_string seq_to_string
  variables_next start i =
      ap (λ (l : List ℕ). comma (map bound_var_to_string (map (constant_of b) l)) COMMA) (entries_more b start i)
      ∙ ap (λ (l : List Text). comma l COMMA) (ap (map bound_var_to_string) (map_more (constant_of b) (entries b start i) (field b lists (start + i) 0)) ∙ map_more bound_var_to_string (map (constant_of b) (entries b start i)) (constant_of b (field b lists (start + i) 0)))
      ∙ comma_next _ _ i (length-map (map (constant_of b) (entries b start i)) bound_var_to_string ∙ length-map (entries b start i) (constant_of b) ∙ entries_length b start i)

  -- ---- terms
  strings_more : (f : ℕ → RExpr) (cs : List ℕ) (c : ℕ) → rexpr_strings (to_rexprs f (cs ++ (c ∷ []))) ≡ rexpr_strings (to_rexprs f cs) ++ (rexpr_to_string (f c) ∷ [])
  unfolding rexpr_strings to_rexprs
  strings_more f [] c = refl
  strings_more f (d ∷ cs) c = rw (strings_more f cs c)

  strings_length : (f : ℕ → RExpr) (cs : List ℕ) → length (rexpr_strings (to_rexprs f cs)) ≡ length cs
  unfolding rexpr_strings to_rexprs
  strings_length f [] = refl
  strings_length f (c ∷ cs) = ap suc (strings_length f cs)

  pub terms_next : (start i : ℕ) → terms_text b start (suc i) ≡ terms_text b start i ++ (lead i ++ rexpr_to_string (term b (field b lists (start + i) 0)))
  unfolding terms_text rexpr_list_to_string args_of
  terms_next start i =
      ap (λ (l : List ℕ). comma (rexpr_strings (to_rexprs (term b) l)) COMMA) (entries_more b start i)
      ∙ ap (λ (l : List Text). comma l COMMA) (strings_more (term b) (entries b start i) (field b lists (start + i) 0))
      ∙ comma_next _ _ i (strings_length (term b) (entries b start i) ∙ entries_length b start i)

  -- ---- patterns
  patterns_snoc : (g : ℕ → RExprs) (ps : List ℕ) (q : ℕ) → patterns_to_string (to_rpatterns g (ps ++ (q ∷ []))) ≡ patterns_to_string (to_rpatterns g ps) ++ (ascii " pattern " ++ rexpr_list_to_string (g q))
  unfolding patterns_to_string to_rpatterns rexpr_list_to_string
  patterns_snoc g [] q = append-nil (ascii " pattern " ++ comma (rexpr_strings (g q)) COMMA)
  patterns_snoc g (p ∷ ps) q =
      ap (λ (z : Text). ascii " pattern " ++ comma (rexpr_strings (g p)) COMMA ++ z) (patterns_snoc g ps q)
      ∙ sym (append_assoc (ascii " pattern " ++ comma (rexpr_strings (g p)) COMMA) (patterns_to_string (to_rpatterns g ps)) (ascii " pattern " ++ comma (rexpr_strings (g q)) COMMA))

  patterns_next : (start i : ℕ)
      → patterns_text b start (suc i) ≡ patterns_text b start i ++ (ascii " pattern " ++ terms_text b (field b patterns (field b lists (start + i) 0) 0) (field b patterns (field b lists (start + i) 0) 1))
  unfolding patterns_text terms_text pattern_of
  patterns_next start i =
      ap (λ (l : List ℕ). patterns_to_string (to_rpatterns (pattern_of b (term b)) l)) (entries_more b start i)
      ∙ patterns_snoc (pattern_of b (term b)) (entries b start i) (field b lists (start + i) 0)

  -- ---- written
  module _ (start i : ℕ) {at : ℕ} {o : List ℕ} where
    pub variables_none : at < MOST + 1 → WroteAt (variables_text b start 0) at o o at
    unfolding variables_text bound_vars_to_string seq_to_string entries comma
    variables_none h = at_none at o h

    pub terms_none : at < MOST + 1 → WroteAt (terms_text b start 0) at o o at
    unfolding terms_text rexpr_list_to_string rexpr_strings args_of to_rexprs entries comma
    terms_none h = at_none at o h

    pub patterns_none : at < MOST + 1 → WroteAt (patterns_text b start 0) at o o at
    unfolding patterns_text patterns_to_string to_rpatterns entries
    patterns_none h = at_none at o h

    module _ {o1 o2 o3 : List ℕ} {r1 r2 r3 : ℕ} (short : length o < MOST + 1) where
      pub variables_more : {v : ℕ} → WroteAt (variables_text b start i) at o o1 r1 → WroteAt (lead i) r1 o1 o2 r2 → v ≡ field b lists (start + i) 0
          → WroteAt (bound_var_to_string (constant_of b v)) r2 o2 o3 r3 → WroteAt (variables_text b start (i + 1)) at o o3 r3
      variables_more {v} w l e x =
          rw (add-one i) (at_as (append_assoc (variables_text b start i) (lead i) _ ∙ sym (variables_next start i)) (at_then short (at_then short w l) (rw e at x)))

      pub terms_more : {c : ℕ} → WroteAt (terms_text b start i) at o o1 r1 → WroteAt (lead i) r1 o1 o2 r2 → c ≡ field b lists (start + i) 0
          → WroteAt (rexpr_to_string (term b c)) r2 o2 o3 r3 → WroteAt (terms_text b start (i + 1)) at o o3 r3
      terms_more w l e v =
          rw (add-one i) (at_as (append_assoc (terms_text b start i) (lead i) _ ∙ sym (terms_next start i)) (at_then short (at_then short w l) (rw e at v)))

      pub patterns_more : {p first many : ℕ} → WroteAt (patterns_text b start i) at o o1 r1 → WroteAt (ascii " pattern ") r1 o1 o2 r2 → p ≡ field b lists (start + i) 0
          → first ≡ field b patterns p 0 → many ≡ field b patterns p 1 → WroteAt (terms_text b first many) r2 o2 o3 r3 → WroteAt (patterns_text b start (i + 1)) at o o3 r3
      patterns_more w l ep ef em v =
          rw (add-one i) (at_as (append_assoc (patterns_text b start i) (ascii " pattern ") _ ∙ sym (patterns_next start i)) (at_then short (at_then short w l) (rw (ef, em, ep) at v)))

-- the front of a range
pub fewer : {b : Book} {limit start count n : ℕ} → n ≤ count → Range b limit start count → Range b limit start n
fewer h r = record { ends = omega (arith, r.ends); below = λ i l. r.below i (omega arith) }
