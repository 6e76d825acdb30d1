-- Lists of levels: what joining a place and forgetting a level do to the places, the names and the count.
use Rattle.std.specs.Prelude.{if◌then◌else◌}
use Prim.Native.Nat.{ℕ, zero, suc, ◌+◌, ◌<◌, ◌≤◌}
use native.Mathlib.Nat.{zero-add, suc-add, le_of_suc-le-suc, not-suc-le-zero}
use native.Mathlib.Omega.{arith}
use mathlib.Core.Path.{◌≡◌, refl, sym, ap, ◌∙◌}
use mathlib.Core.Bool.{Bool, true, false, not, ◌&&◌, ◌||◌, or_self_left}
use mathlib.Core.Option.{Option, none, some, none-ne-some}
use mathlib.Core.List.{List, [], ◌∷◌}
use lib.Dec.{eqb, leb, leb-zero, eqb-zero-suc, eqb-suc-zero, eqb-suc-suc}
use lib.ListN.{length, get_or, drop, replicate}
use lib.Seq.{get_or-drop}
use borrow.Author.Tests.{le-leb, lt-leb, leb-false}
use Rattle.basics.specs.Text.{Text, same}
use Rattle.basics.proofs.All.{All, end, more}
use Rattle.basics.proofs.Bool.{or_left, or_right}
use Rattle.basics.proofs.Texts.{same_refl}
use Rattle.book.specs.RExpr.{Literal}
use Rattle.solver_expr.specs.Lowering.{literal_name}
use Rattle.rsolver.specs.LevelState.{join_at, forget, count, has_name, name_in}

abbrev pub declared_in : List ℕ → ℕ → Bool
declared_in ls k = not (eqb (get_or ls k 0) 0)

-- ---- joining
pub length_join : (ls : List ℕ) (k n : ℕ) → length (join_at ls k n) ≡ length ls
unfolding join_at
length_join [] k n = refl
length_join (zero ∷ ls) zero n = refl
length_join (suc l ∷ ls) zero n = refl
length_join (l ∷ ls) (suc k) n = ap suc (length_join ls k n)

-- the place is declared, and the others are as they were
pub join_declares : (ls : List ℕ) (k j n : ℕ) → k < length ls → declared_in (join_at ls k (suc n)) j ≡ (eqb j k || declared_in ls j)
unfolding join_at
join_declares [] k j n h = absurd (not-suc-le-zero h)
join_declares (zero ∷ ls) zero zero n h = rw (eqb-suc-zero n)
join_declares (zero ∷ ls) zero (suc j) n h = rw (eqb-suc-zero j)
join_declares (suc l ∷ ls) zero zero n h = rw (eqb-suc-zero l)
join_declares (suc l ∷ ls) zero (suc j) n h = rw (eqb-suc-zero j)
join_declares (l ∷ ls) (suc k) zero n h = rw (eqb-zero-suc k)
join_declares (l ∷ ls) (suc k) (suc j) n h = rw (eqb-suc-suc j k) (join_declares ls k j n (le_of_suc-le-suc h))

pub count_join : (ls : List ℕ) (k n : ℕ) → k < length ls → count (join_at ls k (suc n)) ≡ (if declared_in ls k then count ls else suc (count ls))
unfolding join_at count
count_join [] k n h = absurd (not-suc-le-zero h)
count_join (zero ∷ ls) zero n h = refl
count_join (suc l ∷ ls) zero n h = rw (eqb-suc-zero l)
count_join (zero ∷ ls) (suc k) n h = count_join ls k n (le_of_suc-le-suc h)
count_join (suc l ∷ ls) (suc k) n h = ap suc (count_join ls k n (le_of_suc-le-suc h)) ∙ at (declared_in ls k)
  where
    at : (b : Bool) → suc (if b then count ls else suc (count ls)) ≡ (if b then suc (count ls) else suc (suc (count ls)))
    at true = refl
    at false = refl

pub within_join : {n : ℕ} {ls : List ℕ} → All (λ l. l ≤ n) ls → (k : ℕ) → All (λ l. l ≤ n) (join_at ls k n)
unfolding join_at
within_join end k = end
within_join {n = n} (more {a = zero} h hs) zero = more {a = n} (omega arith) hs
within_join (more {a = suc l} h hs) zero = more {a = suc l} h hs
within_join (more {a = l} h hs) (suc k) = more {a = l} h (within_join hs k)

pub within_more : {n : ℕ} {ls : List ℕ} → All (λ l. l ≤ n) ls → All (λ l. l ≤ suc n) ls
within_more end = end
within_more (more {a = l} h hs) = more {a = l} (omega arith) (within_more hs)

-- what is joined at a level is forgotten with it
pub forget_join : (ls : List ℕ) (k n : ℕ) → forget n (join_at ls k n) ≡ forget n ls
unfolding join_at forget
forget_join [] k n = refl
forget_join (zero ∷ ls) zero n = rw (le-leb n n (omega arith)) (ap {B = List ℕ} (λ l. l ∷ forget n ls) (at (leb n 0)))
  where
    at : (b : Bool) → ◌≡◌ {A = ℕ} 0 (if b then 0 else 0)
    at true = refl
    at false = refl
forget_join (suc l ∷ ls) zero n = refl
forget_join (l ∷ ls) (suc k) n = ap {B = List ℕ} (λ r. (if leb n l then 0 else l) ∷ r) (forget_join ls k n)

pub drop_join_below : (d : ℕ) (ls : List ℕ) (k n : ℕ) → k < d → drop d (join_at ls k n) ≡ drop d ls
unfolding join_at
drop_join_below zero ls k n h = absurd (not-suc-le-zero h)
drop_join_below (suc d) [] k n h = refl
drop_join_below (suc d) (zero ∷ ls) zero n h = refl
drop_join_below (suc d) (suc l ∷ ls) zero n h = refl
drop_join_below (suc d) (l ∷ ls) (suc k) n h = drop_join_below d ls k n (le_of_suc-le-suc h)

pub drop_join : (d : ℕ) (ls : List ℕ) (k n : ℕ) → drop d (join_at ls (d + k) n) ≡ join_at (drop d ls) k n
unfolding join_at
drop_join zero ls k n = ap (λ (j : ℕ). join_at ls j n) (zero-add k)
drop_join (suc d) [] k n = refl
drop_join (suc d) (l ∷ ls) k n = ap (λ (j : ℕ). drop (suc d) (join_at (l ∷ ls) j n)) (suc-add d k) ∙ drop_join d ls k n

-- ---- forgetting
pub length_forget : (n : ℕ) (ls : List ℕ) → length (forget n ls) ≡ length ls
unfolding forget
length_forget n [] = refl
length_forget n (l ∷ ls) = ap suc (length_forget n ls)

pub forget_within : {n : ℕ} {ls : List ℕ} → All (λ l. l ≤ n) ls → forget (suc n) ls ≡ ls
unfolding forget
forget_within end = refl
forget_within {n = n} (more {a = l} h hs) = rw (lt-leb (suc n) l (omega arith), forget_within hs)

pub within_forget : (n m : ℕ) → n ≤ suc m → (ls : List ℕ) → All (λ l. l ≤ m) (forget n ls)
unfolding forget
within_forget n m h [] = end
within_forget n m h (l ∷ ls) = more (at (leb n l) refl) (within_forget n m h ls)
  where
    at : (b : Bool) → leb n l ≡ b → (if b then 0 else l) ≤ m
    at true e = omega arith
    at false e = omega (arith, leb-false n l e)

-- ---- lists in which nothing is declared
abbrev pub Blank : List ℕ → Type 0
Blank ls = (k : ℕ) → get_or ls k 0 ≡ 0

pub forget_blank : (ls : List ℕ) → Blank (forget 0 ls)
unfolding forget
forget_blank [] k = refl
forget_blank (l ∷ ls) zero = rw (leb-zero l)
forget_blank (l ∷ ls) (suc k) = forget_blank ls k

pub zeros_blank : (n : ℕ) → Blank (replicate n 0)
zeros_blank zero k = refl
zeros_blank (suc n) zero = refl
zeros_blank (suc n) (suc k) = zeros_blank n k

pub drop_blank : (ls : List ℕ) (d : ℕ) → Blank ls → Blank (drop d ls)
drop_blank ls d h k = get_or-drop d ls k 0 ∙ h (d + k)

pub count_blank : (ls : List ℕ) → Blank ls → count ls ≡ 0
unfolding count
count_blank [] h = refl
count_blank (zero ∷ ls) h = count_blank ls (λ k. h (suc k))
count_blank (suc l ∷ ls) h = absurd (let e : suc l ≡ 0 = h 0 in omega arith)

pub name_blank : (name : Text) (ts : List (Option Literal)) (ls : List ℕ) → Blank ls → name_in name ts ls ≡ false
unfolding name_in
name_blank name [] ls h = refl
name_blank name (t ∷ ts) [] h = refl
name_blank name (t ∷ ts) (l ∷ ls) h = rw (h 0) (name_blank name ts ls (λ k. h (suc k)))

-- ---- names
or_swap : (a b c : Bool) → (a || (b || c)) ≡ (b || (a || c))
or_swap true true c = refl
or_swap true false c = refl
or_swap false b c = refl

-- a literal that joins brings its name
pub name_join : (name : Text) (ts : List (Option Literal)) (ls : List ℕ) (t n : ℕ) (l : Literal) → t < length ls → get_or ts t none ≡ some l
    → name_in name ts (join_at ls t (suc n)) ≡ (same name (literal_name l) || name_in name ts ls)
unfolding join_at name_in has_name
name_join name [] ls t n l h e = absurd (none-ne-some l e)
name_join name (x ∷ ts) [] t n l h e = absurd (not-suc-le-zero h)
name_join name (x ∷ ts) (zero ∷ ls) zero n l h e = rw (e, eqb-suc-zero n)
name_join name (x ∷ ts) (suc a ∷ ls) zero n l h e = rw (e, eqb-suc-zero a) (sym (or_self_left (same name (literal_name l)) (name_in name ts ls)))
name_join name (x ∷ ts) (a ∷ ls) (suc t) n l h e =
    rw (name_join name ts ls t n l (le_of_suc-le-suc h) e)
    (or_swap (not (eqb a 0) && has_name name x) (same name (literal_name l)) (name_in name ts ls))

-- a literal whose name is not declared is not declared
pub name_free : (ts : List (Option Literal)) (ls : List ℕ) (t : ℕ) (l : Literal) → get_or ts t none ≡ some l → name_in (literal_name l) ts ls ≡ false
    → declared_in ls t ≡ false
unfolding name_in has_name
name_free [] ls t l e f = absurd (none-ne-some l e)
name_free (x ∷ ts) [] t l e f = refl
name_free (x ∷ ts) (a ∷ ls) zero l e f =
    at (not (eqb a 0)) (rw (e, same_refl (literal_name l)) at (or_left (not (eqb a 0) && has_name (literal_name l) x) (name_in (literal_name l) ts ls) f))
  where
    at : (b : Bool) → (b && true) ≡ false → b ≡ false
    at true g = g
    at false g = refl
name_free (x ∷ ts) (a ∷ ls) (suc t) l e f = name_free ts ls t l e (or_right (not (eqb a 0) && has_name (literal_name l) x) (name_in (literal_name l) ts ls) f)
