-- A book that is told apart prints apart.
use Rattle.std.specs.Prelude.{if◌then◌else◌}
use mathlib.Core.Path.{◌≡◌, refl}
use mathlib.Core.Bool.{Bool, true, false, not, ◌&&◌, true≢false}
use mathlib.Core.List.{List, [], ◌∷◌}
use borrow.Author.Tests.{not-true}
use Rattle.basics.specs.Text.{same}
use Rattle.basics.specs.Lists.{all}
use Rattle.basics.proofs.Bool.{and_both, both_and}
use Rattle.book.specs.RExpr.{Literal}
use Rattle.book.specs.Book.{Book}
use Rattle.declared_once.specs.Symbols.{Symbol, a_sort, a_constant, a_function, a_literal, plain_name}
use Rattle.declared_once.specs.ToldApart.{Entry, symbol, operator, built_in_type, same_type, literals_clash, literals_alike, symbols_clash, clash, apart, entries_of, told_apart, prints_apart}

-- what clashes less is apart where the other is
module _ {A : Type 0} (c d : A → A → Bool) (less : (x y : A) → c x y ≡ false → d x y ≡ false) where
  later_less : (x : A) (ys : List A) → all ys (λ y. not (c x y)) ≡ true → all ys (λ y. not (d x y)) ≡ true
  unfolding all
  later_less x [] h = refl
  later_less x (y ∷ ys) h =
      let k = and_both (not (c x y)) (all ys (λ z. not (c x z))) h in
      both_and {a = not (d x y)} (rw (less x y (not-true _ k.0))) (later_less x ys k.1)

  apart_less : (xs : List A) → apart c xs ≡ true → apart d xs ≡ true
  unfolding apart
  apart_less [] h = refl
  apart_less (x ∷ xs) h =
      let k = and_both (all xs (λ y. not (c x y))) (apart c xs) h in both_and (later_less x xs k.0) (apart_less xs k.1)

literals_less : (l m : Literal) → literals_clash l m ≡ false → literals_alike l m ≡ false
unfolding literals_clash literals_alike
literals_less l m = at (same l.s m.s) (same_type l.typ m.typ) (same (plain_name (a_literal l)) (plain_name (a_literal m)))
  where
    at : (text typ name : Bool) → (if text then not typ else name) ≡ false → (name && not (text && typ)) ≡ false
    at true true true h = refl
    at true true false h = refl
    at true false name h = absurd (true≢false h)
    at false typ true h = absurd (true≢false h)
    at false typ false h = refl

symbols_less : (x y : Symbol) → symbols_clash literals_clash x y ≡ false → symbols_clash literals_alike x y ≡ false
unfolding symbols_clash
symbols_less (a_literal l) (a_literal m) h = literals_less l m h
symbols_less (a_literal l) (a_sort d) h = h
symbols_less (a_literal l) (a_constant v) h = h
symbols_less (a_literal l) (a_function f) h = h
symbols_less (a_sort d) y h = h
symbols_less (a_constant v) y h = h
symbols_less (a_function f) y h = h

clash_less : (x y : Entry) → clash literals_clash x y ≡ false → clash literals_alike x y ≡ false
unfolding clash
clash_less (symbol x) (symbol y) h = symbols_less x y h
clash_less (symbol x) (operator n) h = h
clash_less (symbol x) (built_in_type n) h = h
clash_less (operator n) (symbol y) h = h
clash_less (operator n) (operator m) h = h
clash_less (operator n) (built_in_type m) h = h
clash_less (built_in_type n) (symbol y) h = h
clash_less (built_in_type n) (operator m) h = h
clash_less (built_in_type n) (built_in_type m) h = h

pub told_prints : (b : Book) → told_apart b ≡ true → prints_apart b ≡ true
unfolding told_apart prints_apart
told_prints b h = apart_less (clash literals_clash) (clash literals_alike) clash_less (entries_of b) h
