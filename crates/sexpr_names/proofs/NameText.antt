-- The text of names.
use Prim.Native.Nat.{ℕ, zero, suc, ◌+◌, ◌-◌, ◌/◌, ◌%◌, ◌<◌}
use native.Mathlib.Omega.{arith}
use mathlib.Core.Path.{◌≡◌, refl, sym, ap, ◌∙◌, subst}
use mathlib.Core.List.{List, [], ◌∷◌, ◌++◌, append_assoc}
use mathlib.Core.Bool.{Bool, true, false}
use lib.Dec.{eqb}
use lib.ListN.{length, length-append}
use borrow.Author.Tests.{eqb-true}
use Rattle.basics.specs.Text.{Text, ascii}
use Rattle.basics.specs.Basics.{int2_string_no_leading_zero, nat2_string}
use Rattle.basics.specs.Write.{Wrote}
use Rattle.basics.proofs.Laws.{wrote_as}
use Rattle.symbols.specs.Symbols.{symbol_text}
use Rattle.symbols.proofs.Kept.{symbol_some}
use Rattle.book.specs.Book.{Book, names, types, terms, field, name_text}
use Rattle.book.specs.Decode.{type_of, literal_of}
use Rattle.solver_expr.specs.SolverExpr.{name_to_string, type_to_string}
use Rattle.solver_expr.specs.Lowering.{literal_name}
use Rattle.solver_expr.specs.Values.{word_text, text_of, FineName, Ready, ReadyType, ReadyLiteral}
use Rattle.solver_expr.specs.declared.Word.{Word}
use Rattle.solver_expr.specs.declared.Word.TheVariants as word
use Rattle.solver_expr.specs.declared.SName.{SName}
use Rattle.solver_expr.specs.declared.SName.TheVariants as name
use Rattle.sexpr_names.specs.Names.{ReadyName}

-- a name that is not empty is printed as it is
shown : (t : Text) → 0 < length t → t ≡ name_to_string t
unfolding name_to_string
shown [] h = absurd (omega arith)
shown (x ∷ t) h = refl

empty : (t : Text) → length t ≡ 0 → ascii "()" ≡ name_to_string t
unfolding name_to_string
empty [] h = refl
empty (x ∷ t) h = absurd (omega arith)

module _ {s u : Text} {r : Bool} (e : s ≡ u) (h : r ≡ eqb (length s) 0) where
  pub name_none : r ≡ true → ascii "()" ≡ name_to_string u
  name_none y = empty u (sym (ap length e) ∙ eqb-true (length s) 0 (sym h ∙ y))

  pub name_some : r ≡ false → s ≡ name_to_string u
  name_some n = let some : 0 < length s = grind arith in rw (← e) (shown s some)

-- Types inside literals.

module _ (b : Book) where
  pub type_bool : {k : ℕ} → 0 ≡ k → ascii "bool" ≡ type_to_string (type_of b k)
  unfolding type_of type_to_string
  type_bool e = rw (← e)

  pub type-int : {k : ℕ} → 1 ≡ k → ascii "int" ≡ type_to_string (type_of b k)
  unfolding type_of type_to_string
  type-int e = rw (← e)

  pub user_ready : (n : ℕ) {k x : ℕ} → ReadyType b k → suc (suc n) ≡ k → x ≡ field b types n 0 → Ready b names x
  user_ready n r t e = record { promise = r.promise; here = rw e (r.promise.type_name n (omega (arith, t, r.here))) }

  pub type_user : (n : ℕ) {k x : ℕ} {s : Text} → suc (suc n) ≡ k → x ≡ field b types n 0 → s ≡ name_text b x → s ≡ type_to_string (type_of b k)
  unfolding type_of type_to_string
  type_user n t e h = h ∙ rw (e, ← t)

  -- |s:type|
  pub literal_text : (t : ℕ) {n k : ℕ} → n ≡ field b terms t 1 → k ≡ field b terms t 2
      → (ascii "|" ++ name_text b n) ++ (ascii ":" ++ type_to_string (type_of b k) ++ ascii "|") ≡ literal_name (literal_of b t)
  unfolding literal_name literal_of
  literal_text t en ek = rw (en, ek) (simp append_assoc)

  pub literal-name : (t : ℕ) {n : ℕ} → ReadyLiteral b t → n ≡ field b terms t 1 → Ready b names n
  literal-name t r e = record { promise = r.promise; here = rw e r.here.good.name }

  pub literal_type : (t : ℕ) {k : ℕ} → ReadyLiteral b t → k ≡ field b terms t 2 → ReadyType b k
  literal_type t r e = record { promise = r.promise; here = rw e r.here.good.typ }

-- Words, symbols, numbers and literals are not empty.

word_shown : (w : Word) → word_text w ≡ name_to_string (word_text w)
unfolding word_text name_to_string
word_shown word.False = refl
word_shown word.True = refl
word_shown word.Equals = refl
word_shown word.Not = refl
word_shown word.And = refl
word_shown word.Minus = refl
word_shown word.Ite = refl
word_shown word.Let = refl
word_shown word.Forall = refl
word_shown word.Exists = refl
word_shown word.Bang = refl
word_shown word.Pattern = refl
word_shown word.Bool = refl
word_shown word.Int = refl

nat_some : (n : ℕ) → 0 < length (nat2_string n)
unfolding nat2_string int2_string_no_leading_zero
nat_some zero = omega arith
nat_some (suc n) = omega (arith, length-append (int2_string_no_leading_zero n (suc n / 10)) ((48 + suc n % 10) ∷ []))

module _ (b : Book) (tag : ℕ) {n : SName} {o o1 : List ℕ} {r : ℕ} where
  pub wrote_word : {w : Word} {s : Text} → n ≡ name.Word w → s ≡ word_text w → Wrote s o o1 r → Wrote (name_to_string (text_of b tag n)) o o1 r
  unfolding text_of
  wrote_word {w} e l h = rw e (wrote_as (l ∙ word_shown w) h)

  pub wrote_operator : {k : ℕ} → n ≡ name.Operator k → Wrote (name_to_string (name_text b k)) o o1 r → Wrote (name_to_string (text_of b tag n)) o o1 r
  unfolding text_of
  wrote_operator e h = rw e h

  pub wrote_symbol : {k : ℕ} → n ≡ name.Symbol k → Wrote (symbol_text (name_text b k)) o o1 r → Wrote (name_to_string (text_of b tag n)) o o1 r
  unfolding text_of
  wrote_symbol {k} e h = rw e (wrote_as (shown (symbol_text (name_text b k)) (symbol_some (name_text b k))) h)

  pub wrote_numeral : {x : ℕ} → n ≡ name.Numeral x → Wrote (nat2_string x) o o1 r → Wrote (name_to_string (text_of b tag n)) o o1 r
  unfolding text_of
  wrote_numeral {x} e h = rw e (wrote_as (shown (nat2_string x) (nat_some x)) h)

  pub wrote_literal : {t : ℕ} → n ≡ name.Literal t → Wrote (literal_name (literal_of b t)) o o1 r → Wrote (name_to_string (text_of b tag n)) o o1 r
  unfolding text_of literal_name name_to_string
  wrote_literal e h = rw e h

  pub wrote_tag : n ≡ name.Tag → Wrote (nat2_string tag) o o1 r → Wrote (name_to_string (text_of b tag n)) o o1 r
  unfolding text_of
  wrote_tag e h = rw e (wrote_as (shown (nat2_string tag) (nat_some tag)) h)

module _ {b : Book} {n : SName} where
  pub ready_operator : {k : ℕ} → n ≡ name.Operator k → ReadyName b n → Ready b names k
  unfolding FineName
  ready_operator e r = record { promise = r.promise; here = subst (FineName b) e r.fine }

  pub ready_symbol : {k : ℕ} → n ≡ name.Symbol k → ReadyName b n → Ready b names k
  unfolding FineName
  ready_symbol e r = record { promise = r.promise; here = subst (FineName b) e r.fine }

  pub ready_literal : {t : ℕ} → n ≡ name.Literal t → ReadyName b n → ReadyLiteral b t
  unfolding FineName
  ready_literal e r = record { promise = r.promise; here = subst (FineName b) e r.fine }
