-- Marking is right: from no marks it succeeds where every reference is below its bound and none is to a term twice.
use Prim.Native.Nat.{ℕ, zero, suc, ◌<◌, ◌≤◌}
use native.Mathlib.Nat.{lt_of_lt_of_le}
use native.Mathlib.Decide.{ℕ_discrete}
use native.Mathlib.Omega.{arith}
use mathlib.Core.Path.{◌≡◌, refl, sym, ap, ◌∙◌}
use mathlib.Core.Bool.{Bool, true, false, not, ◌&&◌, ◌||◌}
use mathlib.Core.List.{List, [], ◌∷◌, map}
use lib.Dec.{ltb, eqb}
use lib.ListN.{length, replicate}
use borrow.Author.Tests.{ltb-true, eq-eqb, ne_eqb}
use Rattle.basics.specs.Lists.{join_below, member}
use Rattle.basics.proofs.Bool.{and-true}
use Rattle.basics.proofs.All.{All, end, more, all_append}
use Rattle.book.specs.Book.{Book, axioms, terms, contexts, size, field, no_term}
use Rattle.book.specs.Decode.{Kind, boolean, integer, custom_literal, id, built_in, application, if_then_else, let_expr, quantifier_expr, kind_of}
use Rattle.book_forest.specs.Forest.{Reference, term_of, entry_reference, range_references, pattern_references, listed_references, kind_references, term_references, axiom_references, context_references, references, all_smaller, no_twice, is_forest}
use Rattle.book_forest.specs.Marks.{is_marked, set_mark, room, can_mark}
use Rattle.book_forest.proofs.Stored.{marked_same, marked_other, room_marked, none_marked}

-- ---- the marks stand at the terms that were referred to
Agree : List ℕ → List ℕ → Type 0
Agree m seen = (k : ℕ) → k < room m → is_marked m k ≡ member k seen

agree_set : (m seen : List ℕ) (x : ℕ) → x < room m → Agree m seen → Agree (set_mark m x) (x ∷ seen)
unfolding Agree member
agree_set m seen x l a k h = by (ℕ_discrete k x)
  where
    by : Dec (k ≡ x) → is_marked (set_mark m x) k ≡ (eqb k x || member k seen)
    by (yes e) = rw (e, marked_same m x l, eq-eqb x x refl)
    by (no n) = rw (marked_other m x k n, ne_eqb k x n) (a k (rw (room_marked m x) at h))

agree_none : (n : ℕ) → Agree (replicate n 0) []
unfolding Agree member
agree_none n k h = none_marked n k

-- ---- none of the list stands in `seen` or earlier in the list
fresh : List ℕ → List ℕ → Bool
fresh seen [] = true
fresh seen (x ∷ xs) = not (member x seen) && fresh (x ∷ seen) xs

-- a reference's bound is one that all terms below have room for
Fits : ℕ → Reference → Type 0
Fits n r = r.bound ≤ n

shuffle : (u a f : Bool) → (u && (a && f)) ≡ (a && (u && f))
shuffle true a f = refl
shuffle false true f = refl
shuffle false false f = refl

run : (m seen : List ℕ) (rs : List Reference) → Agree m seen → All (Fits (room m)) rs → can_mark m rs ≡ (all_smaller rs && fresh seen (map term_of rs))
unfolding can_mark all_smaller fresh Fits Agree
run m seen [] a w = refl
run m seen (r ∷ rs) a (more w ws) =
    by (ltb r.term r.bound) refl
    (λ small. run (set_mark m r.term) (r.term ∷ seen) rs (agree_set m seen r.term small a) (rw (room_marked m r.term) ws))
  where
    Rest : Type 0
    Rest = can_mark (set_mark m r.term) rs ≡ (all_smaller rs && fresh (r.term ∷ seen) (map term_of rs))

    by : (t : Bool)
        → ltb r.term r.bound ≡ t
        → (r.term < room m → Rest)
        → (ltb r.term r.bound && not (is_marked m r.term) && can_mark (set_mark m r.term) rs)
        ≡ ((ltb r.term r.bound && all_smaller rs) && (not (member r.term seen) && fresh (r.term ∷ seen) (map term_of rs)))
    by false e rest = rw e
    by true e rest =
        let small : r.term < room m = lt_of_lt_of_le (ltb-true r.term r.bound e) w in
        rw (e, a r.term small, rest small)
        (shuffle (not (member r.term seen)) (all_smaller rs) (fresh (r.term ∷ seen) (map term_of rs)))

-- ---- and that is that no number stands twice in the list
apart : List ℕ → List ℕ → Bool
apart seen [] = true
apart seen (x ∷ xs) = not (member x seen) && apart seen xs

eqb_comm : (x y : ℕ) → eqb x y ≡ eqb y x
eqb_comm x y = by (ℕ_discrete x y)
  where
    by : Dec (x ≡ y) → eqb x y ≡ eqb y x
    by (yes e) = rw e
    by (no n) = ne_eqb x y n ∙ sym (ne_eqb y x (λ e. n (sym e)))

swap : (a b c d : Bool) → (not (a || b) && (not c && d)) ≡ (not (a || c) && (not b && d))
swap true b c d = refl
swap false true true d = refl
swap false true false d = refl
swap false false true d = refl
swap false false false d = refl

apart_cons : (x : ℕ) (seen xs : List ℕ) → apart (x ∷ seen) xs ≡ (not (member x xs) && apart seen xs)
unfolding apart member
apart_cons x seen [] = refl
apart_cons x seen (y ∷ ys) =
    rw (eqb_comm y x, apart_cons x seen ys) (swap (eqb x y) (member y seen) (member x ys) (apart seen ys))

turn : (h n k a : Bool) → (h && (n && (k && a))) ≡ ((k && n) && (h && a))
turn true true true a = refl
turn true true false a = refl
turn true false true a = refl
turn true false false a = refl
turn false true true a = refl
turn false true false a = refl
turn false false true a = refl
turn false false false a = refl

fresh_apart : (seen xs : List ℕ) → fresh seen xs ≡ (no_twice xs && apart seen xs)
unfolding fresh no_twice apart
fresh_apart seen [] = refl
fresh_apart seen (x ∷ xs) =
    rw (fresh_apart (x ∷ seen) xs, apart_cons x seen xs) (turn (not (member x seen)) (no_twice xs) (not (member x xs)) (apart seen xs))

apart_none : (xs : List ℕ) → apart [] xs ≡ true
unfolding apart member
apart_none [] = refl
apart_none (x ∷ xs) = apart_none xs

marks_right : (n : ℕ) (rs : List Reference) → All (Fits (room (replicate n 0))) rs → can_mark (replicate n 0) rs ≡ (all_smaller rs && no_twice (map term_of rs))
marks_right n rs w =
    run (replicate n 0) [] rs (agree_none n) w
    ∙ rw (fresh_apart [] (map term_of rs), apart_none (map term_of rs), and-true (no_twice (map term_of rs)))

-- ---- a book's references have bounds up to the number of its terms
fits_join : (n : ℕ) (f : ℕ → List Reference) (k : ℕ) → ((i : ℕ) → i < k → All (Fits n) (f i)) → All (Fits n) (join_below k f)
unfolding join_below
fits_join n f zero h = end
fits_join n f (suc k) h = all_append (fits_join n f k (λ i l. h i (omega arith))) (h k (omega arith))

module _ (n : ℕ) (b : Book) where
  fits_range : (bound start count : ℕ) → bound ≤ n → All (Fits n) (range_references b bound start count)
  unfolding range_references entry_reference Fits
  fits_range bound start count h = fits_join n (entry_reference b bound start) count (λ i l. more h end)

  fits_kind : (k : Kind) (t : ℕ) → t ≤ n → All (Fits n) (kind_references b k t)
  unfolding kind_references listed_references pattern_references Fits
  fits_kind boolean t h = end
  fits_kind integer t h = end
  fits_kind custom_literal t h = end
  fits_kind id t h = end
  fits_kind built_in t h = fits_range t (field b terms t 2) (field b terms t 3) h
  fits_kind application t h = fits_range t (field b terms t 2) (field b terms t 3) h
  fits_kind if_then_else t h = more h (more h (more h end))
  fits_kind let_expr t h = more h (more h end)
  fits_kind quantifier_expr t h =
      all_append (fits_join n (listed_references b t (field b terms t 4)) (field b terms t 5) (λ i l. fits_range t _ _ h)) (more h end)

  fits_axiom : (i : ℕ) → size b terms ≤ n → (none : Bool) → eqb (field b axioms i 0) no_term ≡ none → All (Fits n) (axiom_references b i)
  unfolding axiom_references Fits
  fits_axiom i h true e = rw e end
  fits_axiom i h false e = rw e (more h end)

  fits_all : size b terms ≤ n → All (Fits n) (references b)
  unfolding references term_references context_references Fits
  fits_all h =
      all_append
      (all_append (fits_join n (term_references b) (size b terms) (λ t l. fits_kind (kind_of (field b terms t 0)) t (omega arith)))
      (fits_join n (axiom_references b) (size b axioms) (λ i l. fits_axiom i h (eqb (field b axioms i 0) no_term) refl)))
      (fits_join n (context_references b) (size b contexts) (λ i l. more h end))

-- marking all references of a book, from no marks
pub forest_right : (m : List ℕ) (b : Book) → m ≡ replicate (length m) 0 → size b terms ≤ room m → can_mark m (references b) ≡ is_forest b
unfolding is_forest
forest_right m b e h =
    ap (λ (x : List ℕ). can_mark x (references b)) e
    ∙ marks_right (length m) (references b) (fits_all (room (replicate (length m) 0)) b (rw e at h))
