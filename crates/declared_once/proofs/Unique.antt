-- The records of a book that is told apart: two symbols of one name are one symbol.
use Prim.Native.Nat.{ℕ, zero, suc, ◌<◌}
use native.Mathlib.Omega.{arith}
use mathlib.Core.Path.{◌≡◌, refl, sym, ap, ap₂, ◌∙◌}
use mathlib.Core.Logic.{◌⊎◌, inl, inr}
use mathlib.Core.Bool.{Bool, true, false, ◌&&◌, false≢true, true≢false}
use mathlib.Core.List.{[], ◌∷◌, map}
use borrow.Author.Tests.{eqb-true, not-false}
use Rattle.basics.specs.Text.{Text, same}
use Rattle.basics.proofs.Bool.{and_both}
use Rattle.basics.proofs.Texts.{same_eq, same_refl, same_sym}
use Rattle.book.specs.SType.{SType, SBool, SInt, SUserType}
use Rattle.book.specs.RExpr.{Literal, is_tag}
use Rattle.book.specs.Book.{Book, types, constants, functions, terms, size, field, name_text}
use Rattle.book.specs.Decode.{custom_literal, built_in, kind_of, type_of, constant_of, function_of, literal_of}
use Rattle.solver_expr.specs.Lowering.{literal_name}
use Rattle.declared_once.specs.Symbols.{Symbol, a_sort, a_constant, a_function, a_literal, printed_name, plain_name, is_sort, same_space, same_name, named_as, built_in_types, named_type, Among, here}
use Rattle.declared_once.specs.ToldApart.{Entry, symbol, operator, built_in_type, same_type, literals_alike, symbols_clash, clash, sort_of, term_entry, type_entries, constant_entries, function_entries, term_entries, entries_of, prints_apart}
use Rattle.declared_once.proofs.Lists.{eqb_sym, among_left, among_right, among_map, among_join, apart_two}

-- ---- a clash is one either way round
space_sym : (a b : Bool) → same_space a b ≡ same_space b a
unfolding same_space
space_sym true true = refl
space_sym true false = refl
space_sym false true = refl
space_sym false false = refl

name_sym : (x y : Symbol) → same_name x y ≡ same_name y x
unfolding same_name
name_sym x y = ap₂ (λ a b. a && b) (space_sym (is_sort x) (is_sort y)) (same_sym (plain_name x) (plain_name y))

type_sym : (s t : SType) → same_type s t ≡ same_type t s
unfolding same_type
type_sym SBool SBool = refl
type_sym SBool SInt = refl
type_sym SBool (SUserType d) = refl
type_sym SInt SBool = refl
type_sym SInt SInt = refl
type_sym SInt (SUserType d) = refl
type_sym (SUserType c) SBool = refl
type_sym (SUserType c) SInt = refl
type_sym (SUserType c) (SUserType d) = eqb_sym c.number d.number

literals_sym : (l m : Literal) → literals_alike l m ≡ literals_alike m l
unfolding literals_alike
literals_sym l m =
    rw (same_sym (plain_name (a_literal l)) (plain_name (a_literal m)), same_sym l.s m.s, type_sym l.typ m.typ)

symbols_sym : (x y : Symbol) → symbols_clash literals_alike x y ≡ symbols_clash literals_alike y x
unfolding symbols_clash
symbols_sym (a_sort c) (a_sort d) = name_sym (a_sort c) (a_sort d)
symbols_sym (a_sort c) (a_constant v) = name_sym (a_sort c) (a_constant v)
symbols_sym (a_sort c) (a_function f) = name_sym (a_sort c) (a_function f)
symbols_sym (a_sort c) (a_literal l) = name_sym (a_sort c) (a_literal l)
symbols_sym (a_constant w) (a_sort d) = name_sym (a_constant w) (a_sort d)
symbols_sym (a_constant w) (a_constant v) = name_sym (a_constant w) (a_constant v)
symbols_sym (a_constant w) (a_function f) = name_sym (a_constant w) (a_function f)
symbols_sym (a_constant w) (a_literal l) = name_sym (a_constant w) (a_literal l)
symbols_sym (a_function g) (a_sort d) = name_sym (a_function g) (a_sort d)
symbols_sym (a_function g) (a_constant v) = name_sym (a_function g) (a_constant v)
symbols_sym (a_function g) (a_function f) = name_sym (a_function g) (a_function f)
symbols_sym (a_function g) (a_literal l) = name_sym (a_function g) (a_literal l)
symbols_sym (a_literal m) (a_sort d) = name_sym (a_literal m) (a_sort d)
symbols_sym (a_literal m) (a_constant v) = name_sym (a_literal m) (a_constant v)
symbols_sym (a_literal m) (a_function f) = name_sym (a_literal m) (a_function f)
symbols_sym (a_literal m) (a_literal l) = literals_sym m l

clash_sym : (x y : Entry) → clash literals_alike x y ≡ clash literals_alike y x
unfolding clash
clash_sym (symbol x) (symbol y) = symbols_sym x y
clash_sym (symbol x) (operator n) = refl
clash_sym (symbol x) (built_in_type n) = refl
clash_sym (operator m) (symbol y) = refl
clash_sym (operator m) (operator n) = refl
clash_sym (operator m) (built_in_type n) = refl
clash_sym (built_in_type m) (symbol y) = refl
clash_sym (built_in_type m) (operator n) = refl
clash_sym (built_in_type m) (built_in_type n) = refl

pub name_refl : (x : Symbol) → same_name x x ≡ true
unfolding same_name
name_refl x = rw (same_refl (plain_name x)) (at (is_sort x))
  where
    at : (a : Bool) → (same_space a a && true) ≡ true
    at true = unfold same_space in refl
    at false = unfold same_space in refl

-- literals that are declared under one name have one name
pub literal-names : (l m : Literal) → literal_name l ≡ literal_name m → same_name (a_literal l) (a_literal m) ≡ true
unfolding same_name is_sort same_space plain_name printed_name
literal-names l m e = rw e (same_refl _)

-- ---- SYMBOLS OF A BOOK
module _ (b : Book) where
  abbrev pub Of : Symbol → Type 0
  Of (a_sort d) = (k : ℕ) × (k < size b types) × (d ≡ sort_of b k)
  Of (a_constant v) = (k : ℕ) × (k < size b constants) × (v ≡ constant_of b k)
  Of (a_function f) = (k : ℕ) × (k < size b functions) × (f ≡ function_of b k)
  Of (a_literal l) =
      (t : ℕ) × (t < size b terms) × (kind_of (field b terms t 0) ≡ custom_literal) × (is_tag l ≡ false) × (l ≡ literal_of b t)

  abbrev pub OfOperator : Text → Type 0
  OfOperator n = (t : ℕ) × (t < size b terms) × (kind_of (field b terms t 0) ≡ built_in) × (n ≡ name_text b (field b terms t 1))

  literal_entry : (t : ℕ) → is_tag (literal_of b t) ≡ false → kind_of (field b terms t 0) ≡ custom_literal
      → Among (symbol (a_literal (literal_of b t))) (term_entry b (kind_of (field b terms t 0)) t)
  unfolding term_entry
  literal_entry t e k = rw (k, e) here

  operator_entry : (t : ℕ) → kind_of (field b terms t 0) ≡ built_in
      → Among (operator (name_text b (field b terms t 1))) (term_entry b (kind_of (field b terms t 0)) t)
  unfolding term_entry
  operator_entry t k = rw k here

  among_terms : {x : Entry} → Among x (term_entries b) → Among x (entries_of b)
  unfolding entries_of
  among_terms i = among_right (type_entries b) (among_right (constant_entries b) (among_right (function_entries b) i))

  entered : (x : Symbol) → Of x → Among (symbol x) (entries_of b)
  unfolding entries_of type_entries constant_entries function_entries term_entries
  entered (a_sort d) o =
      rw o.2 (among_left (among_right (map built_in_type built_in_types) (among_join (size b types) (λ k. symbol (a_sort (sort_of b k)) ∷ []) o.0 o.1 here)) _)
  entered (a_constant v) o =
      rw o.2 (among_right (type_entries b) (among_left (among_join (size b constants) (λ k. symbol (a_constant (constant_of b k)) ∷ []) o.0 o.1 here) _))
  entered (a_function f) o =
      rw o.2 (among_right (type_entries b) (among_right (constant_entries b) (among_left (among_join (size b functions) (λ k. symbol (a_function (function_of b k)) ∷ []) o.0 o.1 here) _)))
  entered (a_literal l) o =
      rw o.4
      (among_terms (among_join (size b terms) (λ t. term_entry b (kind_of (field b terms t 0)) t) o.0 o.1 (literal_entry o.0 (sym (ap is_tag o.4) ∙ o.3) o.2)))

  entered_operator : (n : Text) → OfOperator n → Among (operator n) (entries_of b)
  unfolding entries_of type_entries constant_entries function_entries term_entries
  entered_operator n o =
      rw o.3
      (among_terms (among_join (size b terms) (λ t. term_entry b (kind_of (field b terms t 0)) t) o.0 o.1 (operator_entry o.0 o.2)))

  entered_type : (n : Text) → Among n built_in_types → Among (built_in_type n) (entries_of b)
  unfolding entries_of type_entries
  entered_type n i = among_left (among_left (among_map built_in_type i) _) _

  type_eq : (j k : ℕ) → same_type (type_of b j) (type_of b k) ≡ true → type_of b j ≡ type_of b k
  unfolding same_type type_of
  type_eq zero zero e = refl
  type_eq zero (suc zero) e = absurd (false≢true e)
  type_eq zero (suc (suc k)) e = absurd (false≢true e)
  type_eq (suc zero) zero e = absurd (false≢true e)
  type_eq (suc zero) (suc zero) e = refl
  type_eq (suc zero) (suc (suc k)) e = absurd (false≢true e)
  type_eq (suc (suc j)) zero e = absurd (false≢true e)
  type_eq (suc (suc j)) (suc zero) e = absurd (false≢true e)
  type_eq (suc (suc j)) (suc (suc k)) e = rw (eqb-true j k e)

  literal_eq : (l m : Literal) → l.s ≡ m.s → l.typ ≡ m.typ → l ≡ m
  literal_eq l m e f = λ i. record { s = e i; typ = f i }

  literals_one : (s t : ℕ) → literals_alike (literal_of b s) (literal_of b t) ≡ false → same_name (a_literal (literal_of b s)) (a_literal (literal_of b t)) ≡ true
      → literal_of b s ≡ literal_of b t
  unfolding literals_alike same_name is_sort same_space literal_of
  literals_one s t c n =
      let h = and_both (same (literal_of b s).s (literal_of b t).s) (same_type (literal_of b s).typ (literal_of b t).typ) (not-false _ (rw n at c)) in
      literal_eq (literal_of b s) (literal_of b t) (same_eq _ _ h.0) (type_eq (field b terms s 2) (field b terms t 2) h.1)

  module _ (T : prints_apart b ≡ true) where
    two : (x y : Symbol) → Of x → Of y → (symbol x ≡ symbol y) ⊎ (symbols_clash literals_alike x y ≡ false)
    unfolding prints_apart clash
    two x y o q = apart_two (clash literals_alike) clash_sym T (entered x o) (entered y q)

    by_two : (x y : Symbol) → (symbol x ≡ symbol y) ⊎ (symbols_clash literals_alike x y ≡ false) → (symbols_clash literals_alike x y ≡ false → x ≡ y) → x ≡ y
    by_two x y (inl e) f = cc
    by_two x y (inr e) f = f e

    -- two symbols of one name are one
    pub unique : (x y : Symbol) → Of x → Of y → same_name x y ≡ true → x ≡ y
    unique x y o q n = by_two x y (two x y o q) (λ c. at x y o q n c)
      where
        never : {A : Type 0} {a : Bool} → a ≡ true → a ≡ false → A
        never e f = absurd (true≢false (sym e ∙ f))

        at : (x y : Symbol) → Of x → Of y → same_name x y ≡ true → symbols_clash literals_alike x y ≡ false → x ≡ y
        at (a_sort d) y o q n c = never n (unfold symbols_clash in c)
        at (a_constant v) y o q n c = never n (unfold symbols_clash in c)
        at (a_function f) y o q n c = never n (unfold symbols_clash in c)
        at (a_literal l) (a_sort d) o q n c = never n (unfold symbols_clash in c)
        at (a_literal l) (a_constant v) o q n c = never n (unfold symbols_clash in c)
        at (a_literal l) (a_function f) o q n c = never n (unfold symbols_clash in c)
        at (a_literal l) (a_literal m) o q n c =
            ap a_literal
            (o.4 ∙ literals_one o.0 q.0 (ap₂ literals_alike (sym o.4) (sym q.4) ∙ unfold symbols_clash in c) (ap₂ (λ a z. same_name (a_literal a) (a_literal z)) (sym o.4) (sym q.4) ∙ n)
            ∙ sym q.4)

    -- no symbol has the name of a built-in operator
    pub no_operator : (n : Text) (y : Symbol) → OfOperator n → Of y → named_as n y ≡ false
    unfolding prints_apart clash
    no_operator n y o q = at (apart_two (clash literals_alike) clash_sym T (entered_operator n o) (entered y q))
      where
        at : (operator n ≡ symbol y) ⊎ (clash literals_alike (operator n) (symbol y) ≡ false) → named_as n y ≡ false
        at (inl e) = let z : ◌≡◌ {A = ℕ} 0 1 = cc in absurd (omega arith)
        at (inr e) = e

    -- no user type has the name of a built-in one
    pub no_type : (n : Text) (y : Symbol) → Among n built_in_types → Of y → named_type n y ≡ false
    unfolding prints_apart clash
    no_type n y i q = at (apart_two (clash literals_alike) clash_sym T (entered_type n i) (entered y q))
      where
        at : (built_in_type n ≡ symbol y) ⊎ (clash literals_alike (built_in_type n) (symbol y) ≡ false) → named_type n y ≡ false
        at (inl e) = let z : ◌≡◌ {A = ℕ} 0 1 = cc in absurd (omega arith)
        at (inr e) = e
