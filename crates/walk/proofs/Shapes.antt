-- What DeclareNewSymbols does to a term of each kind.
use Prim.Native.Nat.{ℕ, suc, ◌+◌, ◌<◌}
use mathlib.Core.Path.{◌≡◌, refl}
use mathlib.Core.List.{List, [], ◌∷◌, ◌++◌}
use Rattle.book.specs.Book.{Book, constants, terms, lists, patterns, size, field, entries}
use Rattle.book.specs.RExpr.{RExpr, RExprs}
use Rattle.book.specs.Decode.{kind_of, to_rexprs, to_rpatterns, constant_of, args_of, pattern_of, term_by, term, program}
use Rattle.book_test.specs.Promise.{Promise}
use Rattle.book_test.proofs.TermKinds.{shape}
use Rattle.book_test.proofs.Entries.{entries_more}
use Rattle.rsolver.specs.Step.{skip, ◌⨟◌}
use Rattle.rsolver.specs.LevelState.{LevelState}
use Rattle.rsolver.specs.REngine.{declare_operator, declare_symbols, declare_all_symbols, declare_pattern_symbols}
use Rattle.levels.specs.Types.{engine, type_step, constant_types_step, constant_step}
use Rattle.literals.specs.Literals.{new_literal_step, literal_step}
use Rattle.excluded.specs.Excluded.{with_range}
use Rattle.walk.specs.Walk.{inner, id_step, symbols_step, terms_step, patterns_step, operator_step}

module _ {b : Book} (P : Promise b) {t : ℕ} (here : t < size b terms) {k : ℕ} (kind : k ≡ field b terms t 0) where
  is : term b t ≡ term_by b (kind_of k) (term b) t
  is = shape P here kind

  -- the kind behind all others
  -- ---- what is walked
  module _ (x : List ℕ) (s : LevelState) where
    pub of_boolean : k ≡ 0 → symbols_step b t x s ≡ skip s
    unfolding symbols_step declare_symbols term_by kind_of
    of_boolean e = rw (is, e)

    pub of_integer : k ≡ 1 → symbols_step b t x s ≡ skip s
    unfolding symbols_step declare_symbols term_by kind_of
    of_integer e = rw (is, e)

    pub of_literal : k ≡ 2 → symbols_step b t x s ≡ literal_step b t s
    unfolding symbols_step declare_symbols term_by kind_of literal_step new_literal_step
    of_literal e = rw (is, e)

    pub of_id : k ≡ 3 → symbols_step b t x s ≡ id_step b (field b terms t 1) x s
    unfolding symbols_step declare_symbols term_by kind_of id_step constant_step constant_of
    of_id e = rw (is, e)

    pub of_built_in : k ≡ 4 → symbols_step b t x s ≡ terms_step b (field b terms t 2) (field b terms t 3) x s
    unfolding symbols_step declare_symbols term_by kind_of terms_step declare_operator skip ◌⨟◌
    of_built_in e = rw (is, e)

    pub of_application : k ≡ 5 → symbols_step b t x s ≡ (operator_step b (field b terms t 1) x ⨟ terms_step b (field b terms t 2) (field b terms t 3) x) s
    unfolding symbols_step declare_symbols term_by kind_of terms_step operator_step
    of_application e = rw (is, e)

    pub of_if : k ≡ 6 → symbols_step b t x s ≡ (symbols_step b (field b terms t 1) x ⨟ symbols_step b (field b terms t 2) x ⨟ symbols_step b (field b terms t 3) x) s
    unfolding symbols_step declare_symbols term_by kind_of
    of_if e = rw (is, e)

    pub of_let : k ≡ 7 → symbols_step b t x s
        ≡ (type_step b (field b constants (field b terms t 1) 1) ⨟ symbols_step b (field b terms t 2) x ⨟ symbols_step b (field b terms t 3) (field b terms t 1 ∷ x)) s
    unfolding symbols_step declare_symbols term_by kind_of type_step constant_of
    of_let e = rw (is, e)

    pub of_quantifier : k ≡ 8 → symbols_step b t x s
        ≡ (constant_types_step b (field b terms t 2) (field b terms t 3)
        ⨟ patterns_step b (field b terms t 4) (field b terms t 5) (with_range b (field b terms t 2) (field b terms t 3) x)
        ⨟ symbols_step b (field b terms t 6) (with_range b (field b terms t 2) (field b terms t 3) x)) s
    unfolding symbols_step declare_symbols term_by kind_of constant_types_step patterns_step with_range
    of_quantifier e = rw (is, e)

-- ---- lists of terms and of patterns, one more
module _ (b : Book) (x : List ℕ) where
  terms_next : (f : ℕ → RExpr) (cs : List ℕ) (c : ℕ) (s : LevelState)
      → declare_all_symbols (engine b) (program b) (inner b) (to_rexprs f (cs ++ (c ∷ []))) x s ≡ (declare_all_symbols (engine b) (program b) (inner b) (to_rexprs f cs) x ⨟ declare_symbols (engine b) (program b) (inner b) (f c) x) s
  unfolding declare_symbols to_rexprs ◌⨟◌ skip
  terms_next f [] c s = refl
  terms_next f (d ∷ cs) c s = terms_next f cs c (declare_symbols (engine b) (program b) (inner b) (f d) x s)

  pub of_terms : (start i : ℕ) (s : LevelState) → terms_step b start (suc i) x s ≡ (terms_step b start i x ⨟ symbols_step b (field b lists (start + i) 0) x) s
  unfolding terms_step symbols_step args_of
  of_terms start i s = rw (entries_more b start i) (terms_next (term b) (entries b start i) (field b lists (start + i) 0) s)

  pub of_no_terms : (start : ℕ) (s : LevelState) → terms_step b start 0 x s ≡ skip s
  unfolding terms_step args_of entries to_rexprs declare_symbols
  of_no_terms start s = refl

  patterns_next : (g : ℕ → RExprs) (ps : List ℕ) (q : ℕ) (s : LevelState)
      → declare_pattern_symbols (engine b) (program b) (inner b) (to_rpatterns g (ps ++ (q ∷ []))) x s ≡ (declare_pattern_symbols (engine b) (program b) (inner b) (to_rpatterns g ps) x ⨟ declare_all_symbols (engine b) (program b) (inner b) (g q) x) s
  unfolding declare_symbols to_rpatterns ◌⨟◌ skip
  patterns_next g [] q s = refl
  patterns_next g (d ∷ ps) q s = patterns_next g ps q (declare_all_symbols (engine b) (program b) (inner b) (g d) x s)

  pub of_patterns : (start i : ℕ) (s : LevelState)
      → patterns_step b start (suc i) x s ≡ (patterns_step b start i x ⨟ terms_step b (field b patterns (field b lists (start + i) 0) 0) (field b patterns (field b lists (start + i) 0) 1) x) s
  unfolding patterns_step terms_step pattern_of
  of_patterns start i s = rw (entries_more b start i) (patterns_next (pattern_of b (term b)) (entries b start i) (field b lists (start + i) 0) s)

  pub of_no_patterns : (start : ℕ) (s : LevelState) → patterns_step b start 0 x s ≡ skip s
  unfolding patterns_step entries to_rpatterns declare_symbols
  of_no_patterns start s = refl
