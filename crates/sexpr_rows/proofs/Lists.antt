-- Rows as lists: what stands at a place, what stands from a place on, and rows that are made of a range of the book's lists.
use Prim.Native.Nat.{ℕ, zero, suc, ◌+◌, ◌*◌, ◌≤◌, ◌<◌}
use native.Mathlib.Nat.{add-zero}
use native.Mathlib.Omega.{arith}
use mathlib.Core.Path.{◌≡◌, refl, ap}
use mathlib.Core.List.{List, [], ◌∷◌, map}
use Rattle.basics.specs.Text.{ascii}
use Rattle.book.specs.Book.{Book, patterns, lists, terms, functions, field, entries}
use Rattle.book.specs.Decode.{type_of, constant_of, function_of, args_of, pattern_of, to_rexprs, to_rpatterns, term}
use Rattle.solver_expr.specs.SolverExpr.{SExpr, SExprs, S, PP, []ˢ, ◌∷ˢ◌, type_to_sexpr, type_list}
use Rattle.solver_expr.specs.Lowering.{bound_var_to_sexpr, bound_vars_to_sexpr, to_sexprs, patterns_to_sexprs}
use Rattle.solver_expr.specs.Values.{term_of, terms_of, patterns_of, row_of}
use Rattle.solver_expr.specs.declared.SRow.{SRow}
use Rattle.solver_expr.specs.declared.SRow.TheVariants as row
use Rattle.sexpr_rows.specs.Rows.{lengthˢ, atˢ, dropˢ, row_length}

pub drop_at : (s : SExprs) (i : ℕ) → i < lengthˢ s → dropˢ i s ≡ atˢ s i ∷ˢ dropˢ (suc i) s
unfolding dropˢ atˢ lengthˢ
drop_at []ˢ i h = absurd (omega arith)
drop_at (e ∷ˢ s) zero h = refl
drop_at (e ∷ˢ s) (suc i) h = drop_at s i (omega arith)

pub drop_end : (s : SExprs) (i : ℕ) → lengthˢ s ≤ i → dropˢ i s ≡ []ˢ
unfolding dropˢ lengthˢ
drop_end []ˢ zero h = refl
drop_end []ˢ (suc i) h = refl
drop_end (e ∷ˢ s) zero h = absurd (omega arith)
drop_end (e ∷ˢ s) (suc i) h = drop_end s i (omega arith)

-- g of each number in a list
row_by : (ℕ → SExpr) → List ℕ → SExprs
row_by g [] = []ˢ
row_by g (n ∷ ns) = g n ∷ˢ row_by g ns

module _ (b : Book) (g : ℕ → SExpr) where
  by_length : (start count : ℕ) → lengthˢ (row_by g (entries b start count)) ≡ count
  unfolding lengthˢ row_by entries
  by_length start zero = refl
  by_length start (suc count) = ap suc (by_length (suc start) count)

  by_at : (start count i : ℕ) → i < count → atˢ (row_by g (entries b start count)) i ≡ g (field b lists (start + i) 0)
  unfolding atˢ row_by entries
  by_at start zero i h = absurd (omega arith)
  by_at start (suc count) zero h = rw add-zero
  by_at start (suc count) (suc i) h =
      let e : start + suc i ≡ suc start + i = omega arith in
      rw e (by_at (suc start) count i (omega arith))

-- x, and g of each number in a list
pairs_by : SExpr → (ℕ → SExpr) → List ℕ → SExprs
pairs_by x g [] = []ˢ
pairs_by x g (n ∷ ns) = x ∷ˢ g n ∷ˢ pairs_by x g ns

module _ (b : Book) (x : SExpr) (g : ℕ → SExpr) where
  pairs_length : (start count : ℕ) → lengthˢ (pairs_by x g (entries b start count)) ≡ 2 * count
  unfolding lengthˢ pairs_by entries
  pairs_length start zero = refl
  pairs_length start (suc count) = omega (arith, pairs_length (suc start) count)

  pairs_at : (start count q : ℕ) → q < count
      → (atˢ (pairs_by x g (entries b start count)) (q + q) ≡ x) × (atˢ (pairs_by x g (entries b start count)) (suc (q + q)) ≡ g (field b lists (start + q) 0))
  unfolding atˢ pairs_by entries
  pairs_at start zero q h = absurd (omega arith)
  pairs_at start (suc count) zero h = (refl, rw add-zero)
  pairs_at start (suc count) (suc q) h =
      let two : suc q + suc q ≡ suc (suc (q + q)) = omega arith in
      let e : start + suc q ≡ suc start + q = omega arith in
      rw (two, e) (pairs_at (suc start) count q (omega arith))

module _ (b : Book) (tag : ℕ) where
  term_at : ℕ → SExpr
  term_at n = term_of b tag n

  terms_by : (ns : List ℕ) → to_sexprs (to_rexprs (term b) ns) tag ≡ row_by term_at ns
  unfolding to_sexprs to_rexprs row_by term_at term_of
  terms_by [] = refl
  terms_by (n ∷ ns) = rw (terms_by ns)

  pub terms-length : (start count : ℕ) → lengthˢ (terms_of b tag start count) ≡ count
  unfolding terms_of args_of
  terms-length start count = rw (terms_by (entries b start count)) (by_length b term_at start count)

  pub terms_at : (start count i : ℕ) → i < count → atˢ (terms_of b tag start count) i ≡ term_of b tag (field b lists (start + i) 0)
  unfolding terms_of args_of term_at
  terms_at start count i h = rw (terms_by (entries b start count)) (by_at b term_at start count i h)

  var_at : ℕ → SExpr
  var_at v = PP (row_of b tag (row.BoundVar v))

  vars_by : (ns : List ℕ) → bound_vars_to_sexpr (map (constant_of b) ns) ≡ row_by var_at ns
  unfolding bound_vars_to_sexpr bound_var_to_sexpr row_by var_at row_of
  vars_by [] = refl
  vars_by (n ∷ ns) = rw (vars_by ns)

  pub vars_length : (start count : ℕ) → lengthˢ (bound_vars_to_sexpr (map (constant_of b) (entries b start count))) ≡ count
  vars_length start count = rw (vars_by (entries b start count)) (by_length b var_at start count)

  pub vars_at : (start count i : ℕ) → i < count
      → atˢ (bound_vars_to_sexpr (map (constant_of b) (entries b start count))) i ≡ PP (row_of b tag (row.BoundVar (field b lists (start + i) 0)))
  unfolding var_at
  vars_at start count i h = rw (vars_by (entries b start count)) (by_at b var_at start count i h)

  pattern_at : ℕ → SExpr
  pattern_at p = PP (row_of b tag (row.Terms p))

  patterns_by : (ns : List ℕ) → patterns_to_sexprs (to_rpatterns (pattern_of b (term b)) ns) tag ≡ pairs_by (S (ascii ":pattern")) pattern_at ns
  unfolding patterns_to_sexprs to_rpatterns pattern_of pairs_by pattern_at row_of terms_of
  patterns_by [] = refl
  patterns_by (n ∷ ns) = rw (patterns_by ns)

  pub patterns_length : (start count : ℕ) → lengthˢ (patterns_of b tag start count) ≡ 2 * count
  unfolding patterns_of
  patterns_length start count = rw (patterns_by (entries b start count)) (pairs_length b (S (ascii ":pattern")) pattern_at start count)

  pub patterns_at : (start count q : ℕ) → q < count
      → (atˢ (patterns_of b tag start count) (q + q) ≡ S (ascii ":pattern"))
      × (atˢ (patterns_of b tag start count) (suc (q + q)) ≡ PP (row_of b tag (row.Terms (field b lists (start + q) 0))))
  unfolding patterns_of pattern_at
  patterns_at start count q h = rw (patterns_by (entries b start count)) (pairs_at b (S (ascii ":pattern")) pattern_at start count q h)

module _ (b : Book) where
  type_at : ℕ → SExpr
  type_at k = type_to_sexpr (type_of b k)

  types_by : (ns : List ℕ) → type_list (map (type_of b) ns) ≡ row_by type_at ns
  unfolding type_list row_by type_at
  types_by [] = refl
  types_by (n ∷ ns) = rw (types_by ns)

  pub types_length : (start count : ℕ) → lengthˢ (type_list (map (type_of b) (entries b start count))) ≡ count
  types_length start count = rw (types_by (entries b start count)) (by_length b type_at start count)

  pub types_at : (start count i : ℕ) → i < count → atˢ (type_list (map (type_of b) (entries b start count))) i ≡ type_to_sexpr (type_of b (field b lists (start + i) 0))
  unfolding type_at
  types_at start count i h = rw (types_by (entries b start count)) (by_at b type_at start count i h)

  -- a row has as many parts as is said
  pub row-length : (tag : ℕ) (p : SRow) → lengthˢ (row_of b tag p) ≡ row_length b p
  unfolding row_of lengthˢ row_length function_of
  row-length tag (row.Negation t) = refl
  row-length tag (row.Minus n) = refl
  row-length tag (row.Appl t op) = omega (arith, terms-length b tag (field b terms t 2) (field b terms t 3))
  row-length tag (row.Ite t) = refl
  row-length tag (row.Let t) = refl
  row-length tag (row.Bindings t) = refl
  row-length tag (row.Binding t) = refl
  row-length tag (row.Quantifier t) = refl
  row-length tag (row.BoundVars t) = vars_length b tag (field b terms t 2) (field b terms t 3)
  row-length tag (row.BoundVar v) = refl
  row-length tag (row.Annotated t) = omega (arith, patterns_length b tag (field b terms t 4) (field b terms t 5))
  row-length tag (row.Terms p) = terms-length b tag (field b patterns p 0) (field b patterns p 1)
  row-length tag (row.Types f) = types_length (field b functions f 2) (field b functions f 3)
