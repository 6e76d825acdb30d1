-- Marking one list of references after the other, and the laws of a loop that does so.
use Prim.Native.Nat.{ℕ, zero, suc, ◌+◌, ◌<◌, ◌≤◌}
use native.Mathlib.Nat.{le_of_suc-le-suc, not-suc-le-zero, eq-or-lt_of_le, le_of_eq}
use native.Mathlib.Numerals.{add-one}
use mathlib.Core.Path.{◌≡◌, refl, sym, ap, subst, ◌∙◌}
use mathlib.Core.Logic.{⊎_elim}
use mathlib.Core.Bool.{Bool, true, false, not, ◌&&◌, false≢true}
use mathlib.Core.List.{List, [], ◌∷◌, ◌++◌, append-nil}
use lib.Dec.{ltb}
use lib.ListN.{length, drop, replicate, drop_of_length-le}
use borrow.Author.Tests.{not-true, not-false, lt-ltb, le-ltb}
use Rattle.basics.specs.Lists.{join_below}
use Rattle.basics.proofs.Bool.{and_assoc}
use Rattle.book_forest.specs.Forest.{Reference, reference}
use Rattle.book_forest.specs.Marks.{is_marked, set_mark, room, can_mark, all_marked, Marked}
use Rattle.book_forest.proofs.Stored.{length_marked, room_marked}

can_append : (m : List ℕ) (xs ys : List Reference) → can_mark m (xs ++ ys) ≡ (can_mark m xs && can_mark (all_marked m xs) ys)
unfolding can_mark all_marked
can_append m [] ys = refl
can_append m (r ∷ rs) ys =
    rw (can_append (set_mark m r.term) rs ys)
    (sym (and_assoc (ltb r.term r.bound && not (is_marked m r.term)) (can_mark (set_mark m r.term) rs) (can_mark (all_marked (set_mark m r.term) rs) ys)))

marked_append : (m : List ℕ) (xs ys : List Reference) → all_marked m (xs ++ ys) ≡ all_marked (all_marked m xs) ys
unfolding all_marked
marked_append m [] ys = refl
marked_append m (r ∷ rs) ys = marked_append (set_mark m r.term) rs ys

-- one list after the other
pub after : {m m₁ m₂ : List ℕ} {xs ys : List Reference} (p q : Bool) → Marked m xs p m₁ → Marked m₁ ys q m₂ → Marked m (xs ++ ys) (p && q) m₂
after {m} {m₁} {m₂} {xs} {ys} true q h k =
    let e : m₁ ≡ all_marked m xs = h.left refl in
    record {
      is = rw (can_append m xs ys, ← h.is, ← e) k.is;
      left = λ t. rw (marked_append m xs ys, ← e) (k.left t);
      long = k.long ∙ h.long;
      roomy = k.roomy ∙ h.roomy;
    }
after {m} {m₁} {m₂} {xs} {ys} false q h k =
    record {
      is = rw (can_append m xs ys, ← h.is);
      left = λ t. absurd (false≢true t);
      long = k.long ∙ h.long;
      roomy = k.roomy ∙ h.roomy;
    }

pub nothing : (m : List ℕ) → Marked m [] true m
unfolding can_mark all_marked
nothing m = record { is = refl; left = λ t. refl; long = refl; roomy = refl }

-- one reference
module _ (m : List ℕ) (bound t : ℕ) where
  pub mark_high : bound ≤ t → Marked m (reference bound t ∷ []) false m
  unfolding can_mark
  mark_high h = record { is = rw (le-ltb t bound h); left = λ e. absurd (false≢true e); long = refl; roomy = refl }

  pub mark_again : t < bound → is_marked m t ≡ true → Marked m (reference bound t ∷ []) false m
  unfolding can_mark
  mark_again l e = record { is = rw (lt-ltb t bound l, e); left = λ e. absurd (false≢true e); long = refl; roomy = refl }

  pub mark_new : {m' : List ℕ} → t < bound → is_marked m t ≡ false → m' ≡ set_mark m t → Marked m (reference bound t ∷ []) true m'
  unfolding can_mark all_marked
  mark_new {m'} l e s =
      record {
        is = rw (lt-ltb t bound l, e);
        left = λ h. s;
        long = ap {B = ℕ} length s ∙ length_marked m t;
        roomy = ap room s ∙ room_marked m t;
      }

join_fails : (m : List ℕ) (f : ℕ → List Reference) (n i : ℕ) → i < n → can_mark m (join_below (suc i) f) ≡ false → can_mark m (join_below n f) ≡ false
unfolding join_below
join_fails m f zero i l e = absurd (not-suc-le-zero l)
join_fails m f (suc n) i l e =
    ⊎_elim (λ (q : i ≡ n). rw q at e)
    (λ (k : i < n). rw (can_append m (join_below n f) (f n), join_fails m f n i k e))
    (eq-or-lt_of_le (le_of_suc-le-suc l))

-- a loop: `if !mark(i) { return false; }`
module _ (f : ℕ → List Reference) where
  pub mark_none : (m : List ℕ) → Marked m (join_below 0 f) true m
  unfolding join_below
  mark_none m = nothing m

  pub mark_more : {m₀ m m' : List ℕ} {r : Bool} (i : ℕ) → Marked m₀ (join_below i f) true m → Marked m (f i) r m' → not r ≡ false → Marked m₀ (join_below (i + 1) f) true m'
  unfolding join_below
  mark_more {m₀} {m} {m'} {r} i p q t =
      rw (add-one i) (subst (λ (b : Bool). Marked m₀ (join_below i f ++ f i) b m') (not-false r t) (after true r p q))

  pub mark_stop : {m₀ m m' : List ℕ} {r : Bool} (n i : ℕ) → Marked m₀ (join_below i f) true m → Marked m (f i) r m' → not r ≡ true → i < n → Marked m₀ (join_below n f) false m'
  unfolding join_below
  mark_stop {m₀} {m} {m'} {r} n i p q t l =
      let e : false ≡ can_mark m₀ (join_below i f ++ f i) = sym (not-true r t) ∙ (after true r p q).is in
      record {
        is = sym (join_fails m₀ f n i l (sym e));
        left = λ h. absurd (false≢true h);
        long = q.long ∙ p.long;
        roomy = q.roomy ∙ p.roomy;
      }

  pub mark_done : {m₀ m : List ℕ} (n i : ℕ) → Marked m₀ (join_below i f) true m → i ≡ n → Marked m₀ (join_below n f) true m
  mark_done n i p e = rw e at p

-- a list that is filled to its end
pub fill_all : (n : ℕ) (s d : List ℕ) → d ≡ replicate n 0 ++ drop n s → n ≡ length s → d ≡ replicate (length s) 0
fill_all n s d h e = h ∙ rw (drop_of_length-le s (le_of_eq (sym e)), append-nil, e)
