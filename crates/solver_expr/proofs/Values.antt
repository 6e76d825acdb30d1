-- What the builders make, and the values of lowered terms.
use Rattle.std.specs.Prelude.{if◌then◌else◌}
use Prim.Native.Nat.{ℕ, zero, suc, ◌+◌, ◌-◌, ◌*◌, ◌%◌, ◌^◌, ◌≤◌, ◌<◌}
use native.Mathlib.Omega.{arith}
use mathlib.Core.Path.{◌≡◌, refl, sym, ap, ◌∙◌}
use mathlib.Core.Bool.{Bool, true, false, not}
use lib.Dec.{eqb}
use borrow.Author.Tests.{lt-ltb, le-ltb}
use Rattle.basics.specs.Text.{ascii, same}
use Rattle.basics.specs.Basics.{int64}
use Rattle.book.specs.Book.{Book, types, constants, functions, terms, size, field, name_text}
use Rattle.book.specs.Decode.{kind_of, constant_of, function_of, type_of, literal_of, term_by}
use Rattle.book.specs.RExpr.{is_tag}
use Rattle.book_test.specs.Promise.{Promise, Range, GoodKind}
use Rattle.solver_expr.specs.SolverExpr.{SExpr, S, boolean, integer, id, func_appl, negation, type_to_sexpr}
use Rattle.solver_expr.specs.Lowering.{operator_name, literal_to_string, to_sexpr}
use Rattle.solver_expr.specs.Values.{word_text, text_of, row_of, meaning, term_of, terms_of, patterns_of, quantifier_word, LiteralHere, FineName, FineRow, Fine, Ready, ReadyType, IsBoolean, IsInteger, IsAppl, IsNegation, IsId, IsType, IsLiteral, Lowered, without_variables, Bare}
use Rattle.solver_expr.specs.declared.Word.TheVariants as word
use Rattle.solver_expr.specs.declared.SName.{SName}
use Rattle.solver_expr.specs.declared.SName.TheVariants as name
use Rattle.solver_expr.specs.declared.SRow.TheVariants as row
use Rattle.solver_expr.specs.declared.SExpr as code
use Rattle.solver_expr.specs.declared.SExpr.TheVariants as value
use Rattle.solver_expr.proofs.Lower.{appl_none, appl_some, vars_some, kind_at, is_bare, not_bare, by_kind, good_kind, body_smaller, body_is}

-- Builders.

pub boolean_true : {x : Bool} → x ≡ true → IsBoolean x (value.S (name.Word word.True))
unfolding Fine FineName meaning text_of word_text boolean
boolean_true e = rw e (record { fine = λ b. tt; is = λ b tag. refl })

pub boolean_false : {x : Bool} → x ≡ false → IsBoolean x (value.S (name.Word word.False))
unfolding Fine FineName meaning text_of word_text boolean
boolean_false e = rw e (record { fine = λ b. tt; is = λ b tag. refl })

pub integer_bare : {bits : ℕ} → bits < 2 ^ 63 → IsInteger (int64 bits) (value.S (name.Numeral bits))
unfolding Fine FineName meaning text_of integer int64
integer_bare {bits} l = rw (lt-ltb bits (2 ^ 63) l) (record { fine = λ b. tt; is = λ b tag. refl })

pub integer_minus : {bits n : ℕ} → 2 ^ 63 ≤ bits → bits < 2 ^ 64 → (n + bits) % 2 ^ 64 ≡ 0 → n < 2 ^ 64 → IsInteger (int64 bits) (value.PP (row.Minus n))
unfolding Fine FineRow meaning row_of integer func_appl int64
integer_minus {bits} {n} h f z g =
    let e : n ≡ suc (2 ^ 64 - suc bits) = omega arith in
    rw (le-ltb bits (2 ^ 63) h, e) (record { fine = λ b. tt; is = λ b tag. refl })

pub is_appl_none : {op : SName} {t count : ℕ} → count ≡ 0 → IsAppl op t count (value.S op)
unfolding Fine meaning
is_appl_none {op} {t} {count} z =
    record { fine = λ b h. h.operator; is = λ b tag e. appl_none b tag (text_of b tag op) (field b terms t 2) (field b terms t 3) (sym e ∙ z) }

pub is_appl_some : {op : SName} {t count : ℕ} → (count ≡ 0 → ⊥) → IsAppl op t count (value.PP (row.Appl t op))
unfolding Fine FineRow meaning row_of
is_appl_some {op} {t} {count} n =
    record { fine = λ b h. h; is = λ b tag e. appl_some b tag (text_of b tag op) (field b terms t 2) (field b terms t 3) (λ z. n (e ∙ z)) }

pub is_negation : (t : ℕ) → IsNegation t (value.PP (row.Negation t))
unfolding Fine FineRow meaning row_of negation
is_negation t = record { fine = λ b h. h; is = λ b tag. refl }

module _ (b : Book) where
  pub is_id : {v x : ℕ} → Ready b constants v → x ≡ field b constants v 0 → IsId b v (value.S (name.Symbol x))
  unfolding Fine FineName meaning text_of id constant_of
  is_id {v} r e = rw e (record { fine = (r.promise.constant v r.here).name; is = λ tag. refl })

  pub is_bool : {k : ℕ} → 0 ≡ k → IsType b k (value.S (name.Word word.Bool))
  unfolding Fine FineName meaning text_of word_text type_of type_to_sexpr
  is_bool e = rw (← e) (record { fine = tt; is = λ tag. refl })

  pub is_int : {k : ℕ} → 1 ≡ k → IsType b k (value.S (name.Word word.Int))
  unfolding Fine FineName meaning text_of word_text type_of type_to_sexpr
  is_int e = rw (← e) (record { fine = tt; is = λ tag. refl })

  pub is_user : {x : ℕ} (n : ℕ) {k : ℕ} → ReadyType b k → suc (suc n) ≡ k → x ≡ field b types n 0 → IsType b k (value.S (name.Symbol x))
  unfolding Fine FineName meaning text_of type_of type_to_sexpr
  is_user n r t e = rw (e, ← t) (record { fine = r.promise.type_name n (omega (arith, t, r.here)); is = λ tag. refl })

  module _ {n : ℕ} {r : Bool} (t : ℕ) (e : n ≡ field b terms t 1) (h : r ≡ same (name_text b n) (ascii "%tag")) where
    tagged : is_tag (literal_of b t) ≡ r
    unfolding is_tag literal_of
    tagged = rw (← e) (sym h)

    pub is_tagged : r ≡ true → IsLiteral b t (value.S name.Tag)
    unfolding Fine FineName meaning text_of literal_to_string
    is_tagged y = record { fine = tt; is = λ tag. rw (tagged ∙ y) }

    pub is_literal : r ≡ false → LiteralHere b t → IsLiteral b t (value.S (name.Literal t))
    unfolding Fine FineName meaning text_of literal_to_string
    is_literal y l = record { fine = l; is = λ tag. rw (tagged ∙ y) }

  -- Terms, by kind.
  module _ {t : ℕ} (P : Promise b) (l : t < size b terms) where
    pub lowered_boolean : {k x : ℕ} {a : code.SExpr} → k ≡ field b terms t 0 → k ≡ 0 → x ≡ field b terms t 1 → IsBoolean (not (eqb x 0)) a → Lowered b t a
    unfolding to_sexpr term_by kind_of
    lowered_boolean {k} {x} {a} ek e ex h =
        let w : IsBoolean (not (eqb (field b terms t 1) 0)) a = rw (← ex) h in
        record { fine = w.fine b; is = λ tag. w.is b tag ∙ sym (by_kind b t P l (kind_at b t 0 ek e) tag) }

    pub lowered_integer : {k x : ℕ} {a : code.SExpr} → k ≡ field b terms t 0 → k ≡ 1 → x ≡ field b terms t 1 + 2 ^ 32 * field b terms t 2 → IsInteger (int64 x) a → Lowered b t a
    unfolding to_sexpr term_by kind_of
    lowered_integer {k} {x} {a} ek e ex h =
        let w : IsInteger (int64 (field b terms t 1 + 2 ^ 32 * field b terms t 2)) a = rw (← ex) h in
        record { fine = w.fine b; is = λ tag. w.is b tag ∙ sym (by_kind b t P l (kind_at b t 1 ek e) tag) }

    pub literal_here : {k : ℕ} → k ≡ field b terms t 0 → k ≡ 2 → LiteralHere b t
    unfolding kind_of GoodKind
    literal_here ek e = record { here = l; good = good_kind b t P l (kind_at b t 2 ek e) }

    pub lowered_literal : {k : ℕ} {a : code.SExpr} → k ≡ field b terms t 0 → k ≡ 2 → IsLiteral b t a → Lowered b t a
    unfolding to_sexpr term_by kind_of
    lowered_literal ek e h = record { fine = h.fine; is = λ tag. h.is tag ∙ sym (by_kind b t P l (kind_at b t 2 ek e) tag) }

    pub id_here : {k x : ℕ} → k ≡ field b terms t 0 → k ≡ 3 → x ≡ field b terms t 1 → Ready b constants x
    unfolding kind_of GoodKind
    id_here ek e ex = record { promise = P; here = rw ex (good_kind b t P l (kind_at b t 3 ek e)) }

    pub lowered_id : {k x : ℕ} {a : code.SExpr} → k ≡ field b terms t 0 → k ≡ 3 → x ≡ field b terms t 1 → IsId b x a → Lowered b t a
    unfolding to_sexpr term_by kind_of
    lowered_id {k} {x} {a} ek e ex h =
        let w : IsId b (field b terms t 1) a = rw (← ex) h in
        record { fine = w.fine; is = λ tag. w.is tag ∙ sym (by_kind b t P l (kind_at b t 3 ek e) tag) }

    args_up : Range b t (field b terms t 2) (field b terms t 3) → Range b (size b terms) (field b terms t 2) (field b terms t 3)
    args_up r = record { ends = r.ends; below = λ i h. omega (arith, r.below i h) }

    pub lowered_builtin : {k op count : ℕ} {a : code.SExpr} → k ≡ field b terms t 0 → k ≡ 4 → op ≡ field b terms t 1 → count ≡ field b terms t 3 → IsAppl (name.Operator op) t count a → Lowered b t a
    unfolding to_sexpr operator_name term_by kind_of GoodKind terms_of FineName text_of
    lowered_builtin {k} {op} {count} {a} ek e eo ec h =
        let g = good_kind b t P l (kind_at b t 4 ek e) in
        let w : IsAppl (name.Operator (field b terms t 1)) t count a = rw (← eo) h in
        record {
          fine = w.fine b (record { operator = g.name; here = l; args = args_up g.args });
          is = λ tag. w.is b tag ec ∙ sym (by_kind b t P l (kind_at b t 4 ek e) tag);
        }

    pub function_here : {k f : ℕ} → k ≡ field b terms t 0 → k ≡ 5 → f ≡ field b terms t 1 → f < size b functions
    unfolding kind_of GoodKind
    function_here ek e ef = rw ef (good_kind b t P l (kind_at b t 5 ek e)).function

    pub lowered_application : {k f op count : ℕ} {a : code.SExpr} → k ≡ field b terms t 0 → k ≡ 5 → f ≡ field b terms t 1 → op ≡ field b functions f 0 → count ≡ field b terms t 3 → IsAppl (name.Symbol op) t count a → Lowered b t a
    unfolding to_sexpr operator_name function_of term_by kind_of GoodKind terms_of FineName text_of
    lowered_application {k} {f} {op} {count} {a} ek e ef eo ec h =
        let g = good_kind b t P l (kind_at b t 5 ek e) in
        let w : IsAppl (name.Symbol (field b functions (field b terms t 1) 0)) t count a = rw (← ef, ← eo) h in
        record {
          fine = w.fine b (record { operator = (P.function _ g.function).name; here = l; args = args_up g.args });
          is = λ tag. w.is b tag ec ∙ sym (by_kind b t P l (kind_at b t 5 ek e) tag);
        }

    pub lowered_ite : {k : ℕ} → k ≡ field b terms t 0 → k ≡ 6 → Lowered b t (value.PP (row.Ite t))
    unfolding to_sexpr term_by kind_of Fine FineRow meaning row_of term_of func_appl
    lowered_ite ek e = record { fine = record { here = l; good = good_kind b t P l (kind_at b t 6 ek e) }; is = λ tag. sym (by_kind b t P l (kind_at b t 6 ek e) tag) }

    pub lowered_let : {k : ℕ} → k ≡ field b terms t 0 → k ≡ 7 → Lowered b t (value.PP (row.Let t))
    unfolding to_sexpr term_by kind_of Fine FineRow meaning row_of term_of func_appl
    lowered_let ek e = record { fine = record { here = l; good = good_kind b t P l (kind_at b t 7 ek e) }; is = λ tag. sym (by_kind b t P l (kind_at b t 7 ek e) tag) }

    pub lowered_quantifier : field b terms t 0 ≡ 8 → without_variables b t ≡ false → Lowered b t (value.PP (row.Quantifier t))
    unfolding to_sexpr term_by kind_of Fine FineRow meaning row_of term_of patterns_of quantifier_word
    lowered_quantifier e w =
        let some = not_bare b t e w in
        record {
          fine = record { here = l; good = good_kind b t P l (ap kind_of e); some = some };
          is = λ tag. vars_some b _ _ _ _ _ some ∙ sym (by_kind b t P l (ap kind_of e) tag);
        }

  pub bared : {t x : ℕ} {a : code.SExpr} → Bare b t x → Lowered b x a → Lowered b t a
  bared s h = record { fine = h.fine; is = λ tag. h.is tag ∙ s.is tag }

  -- the loop that goes to the body
  pub bare_more : (t : ℕ) {x y : ℕ} → Promise b → x < size b terms → ((tag : ℕ) → term_of b tag x ≡ term_of b tag t) → without_variables b x ≡ true → y ≡ field b terms x 6
      → (y < x) × ((tag : ℕ) → term_of b tag y ≡ term_of b tag t)
  bare_more t {x} {y} P l h w e =
      let k = is_bare b x w in
      rw e (body_smaller b x P l k.0, λ tag. body_is b x P l k.0 k.1 tag ∙ h tag)
