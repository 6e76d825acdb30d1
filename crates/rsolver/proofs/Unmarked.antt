-- Levels in which no place behind a program's literals is marked: more literals change no name that they declare.
use Rattle.std.specs.Prelude.{if◌then◌else◌}
use Prim.Native.Nat.{ℕ, zero, suc, ◌+◌, ◌<◌, ◌≤◌}
use native.Mathlib.Omega.{arith}
use native.Mathlib.Decide.{dec_lt}
use mathlib.Core.Path.{◌≡◌, refl, sym, ap, ◌∙◌}
use mathlib.Core.Bool.{Bool, true, false, not, ◌&&◌, ◌||◌}
use mathlib.Core.Option.{Option, none, none-ne-some}
use mathlib.Core.List.{List, [], ◌∷◌, ◌++◌}
use lib.Dec.{eqb, leb}
use lib.ListN.{length, get_or, drop, get_or-eq_default}
use lib.Seq.{get_or-drop}
use Rattle.basics.specs.Text.{Text}
use Rattle.book.specs.RExpr.{Literal}
use Rattle.book.specs.Program.{Program}
use Rattle.rsolver.specs.Methods.{Marker}
use Rattle.rsolver.specs.LevelState.{literal_places, level_count, place, literal_place, join_at, forget, has_name, name_in, no_levels}
use Rattle.book.specs.Extends.{Extends}
use Rattle.rsolver.proofs.Placed.{MarkerPlaced, LiteralPlaced, place_below}
use Rattle.rsolver.proofs.AgreeLists.{zeros_blank, name_blank}

-- ---- lists of levels
pub join_other : (ls : List ℕ) (k j n : ℕ) → ¬ (j ≡ k) → get_or (join_at ls k n) j 0 ≡ get_or ls j 0
unfolding join_at
join_other [] k j n h = refl
join_other (zero ∷ ls) zero zero n h = absurd (h refl)
join_other (suc l ∷ ls) zero zero n h = refl
join_other (zero ∷ ls) zero (suc j) n h = refl
join_other (suc l ∷ ls) zero (suc j) n h = refl
join_other (l ∷ ls) (suc k) zero n h = refl
join_other (l ∷ ls) (suc k) (suc j) n h = join_other ls k j n (λ e. h (ap suc e))

pub forget_zero : (n : ℕ) (ls : List ℕ) (j : ℕ) → get_or ls j 0 ≡ 0 → get_or (forget n ls) j 0 ≡ 0
unfolding forget
forget_zero n [] j h = refl
forget_zero n (l ∷ ls) zero h = at (leb n l)
  where
    at : (x : Bool) → (if x then 0 else l) ≡ 0
    at true = refl
    at false = h
forget_zero n (l ∷ ls) (suc j) h = forget_zero n ls j h

-- more literals, where the levels behind the old ones are 0
pub name_grown : (name : Text) (ts us : List (Option Literal)) (ls : List ℕ) → ((j : ℕ) → length ts ≤ j → get_or ls j 0 ≡ 0)
    → name_in name (ts ++ us) ls ≡ name_in name ts ls
unfolding name_in
name_grown name [] us ls h = name_blank name us ls (λ j. h j (omega arith))
name_grown name (t ∷ ts) us [] h = refl
name_grown name (t ∷ ts) us (l ∷ ls) h =
    ap {B = Bool} (λ x. not (eqb l 0) && has_name name t || x) (name_grown name ts us ls (λ j i. h (suc j) (omega arith)))

-- ---- levels of a program
pub record Unmarked (p : Program) (ls : List ℕ) : Type 0 where
  pub behind : (j : ℕ) → length p.literals ≤ j → get_or ls (literal_places + j) 0 ≡ 0

pub none_unmarked : (p : Program) → Unmarked p no_levels
unfolding no_levels
none_unmarked p = record { behind = λ j i. zeros_blank level_count (literal_places + j) }

-- a literal of the program stands before the places behind it
placed_below : (p : Program) (k : ℕ) (l : Literal) → LiteralPlaced p k l → k < length p.literals
placed_below p k l h = at (dec_lt k (length p.literals))
  where
    at : Dec (k < length p.literals) → k < length p.literals
    at (yes i) = i
    at (no i) = absurd (none-ne-some l (sym (get_or-eq_default p.literals none (omega arith)) ∙ h.here))

module _ {p : Program} {ls : List ℕ} (u : Unmarked p ls) where
  pub forget_unmarked : (n : ℕ) → Unmarked p (forget n ls)
  forget_unmarked n = record { behind = λ j i. forget_zero n ls (literal_places + j) (u.behind j i) }

  pub mark_unmarked : (m : Marker) → MarkerPlaced m → (n : ℕ) → Unmarked p (join_at ls (place m) n)
  mark_unmarked m h n =
      record { behind = λ j i. join_other ls (place m) (literal_places + j) n (λ e. omega (arith, place_below m h)) ∙ u.behind j i }

  pub literal_unmarked : (k : ℕ) (l : Literal) → LiteralPlaced p k l → (n : ℕ) → Unmarked p (join_at ls (literal_place k) n)
  unfolding literal_place
  literal_unmarked k l h n =
      record {
        behind = λ j i. join_other ls (literal_places + k) (literal_places + j) n (λ e. omega (arith, placed_below p k l h)) ∙ u.behind j i;
      }

  pub names_grown : {q : Program} → Extends p q → (name : Text)
      → name_in name q.literals (drop literal_places ls) ≡ name_in name p.literals (drop literal_places ls)
  names_grown x name =
      ap (λ (ts : List (Option Literal)). name_in name ts (drop literal_places ls)) x.more_literals
      ∙ name_grown name p.literals x.new_literals (drop literal_places ls) (λ j i. get_or-drop literal_places ls j 0 ∙ u.behind j i)
