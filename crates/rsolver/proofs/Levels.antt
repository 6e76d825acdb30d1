-- Levels: what a declaring step may do to them, and that leaving the level undoes it.
use Rattle.std.specs.Prelude.{if◌then◌else◌}
use Prim.Native.Nat.{ℕ, zero, suc, ◌≤◌, ◌<◌}
use native.Mathlib.Omega.{arith}
use mathlib.Core.Path.{◌≡◌, refl, ap, subst}
use mathlib.Core.List.{List, [], ◌∷◌}
use mathlib.Core.Bool.{Bool, true, false}
use lib.Dec.{leb}
use lib.ListN.{length, replicate}
use borrow.Author.Tests.{le-leb, lt-leb}
use Rattle.basics.proofs.All.{All, end, more}
use Rattle.rsolver.specs.LevelState.{join_at, forget}

-- Grown k l m: m is l with some of its zero entries set to k
pub data Grown (k : ℕ) : List ℕ → List ℕ → Type 0 where
  done : Grown k [] []
  kept : {a : ℕ} {l m : List ℕ} → Grown k l m → Grown k (a ∷ l) (a ∷ m)
  new : {l m : List ℕ} → Grown k l m → Grown k (zero ∷ l) (k ∷ m)

pub grown_refl : (k : ℕ) (l : List ℕ) → Grown k l l
grown_refl k [] = done
grown_refl k (a ∷ l) = kept (grown_refl k l)

pub grown_trans : {k : ℕ} {l m n : List ℕ} → Grown k l m → Grown k m n → Grown k l n
grown_trans done h = h
grown_trans (kept g) (kept h) = kept (grown_trans g h)
grown_trans (kept g) (new h) = new (grown_trans g h)
grown_trans (new g) (kept h) = new (grown_trans g h)
grown_trans (new g) (new h) = new (grown_trans g h)

pub grown_join : (k : ℕ) (l : List ℕ) (i : ℕ) → Grown k l (join_at l i k)
unfolding join_at
grown_join k [] i = done
grown_join k (zero ∷ l) zero = new (grown_refl k l)
grown_join k (suc a ∷ l) zero = kept (grown_refl k l)
grown_join k (zero ∷ l) (suc i) = kept (grown_join k l i)
grown_join k (suc a ∷ l) (suc i) = kept (grown_join k l i)

pub grown_length : {k : ℕ} {l m : List ℕ} → Grown k l m → length m ≡ length l
grown_length done = refl
grown_length (kept g) = ap suc (grown_length g)
grown_length (new g) = ap suc (grown_length g)

abbrev pub Within : ℕ → List ℕ → Type 0
Within k l = All (λ a. a ≤ k) l

pub within_zeros : (n k : ℕ) → Within k (replicate n 0)
within_zeros zero k = end
within_zeros (suc n) k = more {a = 0} (omega arith) (within_zeros n k)

pub grown_within : {k : ℕ} {l m : List ℕ} → Grown (suc k) l m → Within k l → Within (suc k) m
grown_within done end = end
grown_within (kept {a = a} g) (more h w) = more {a = a} (omega arith) (grown_within g w)
grown_within {k} (new g) (more h w) = more {a = suc k} (omega arith) (grown_within g w)

-- leaving a level gives back what there was below it
pub forget_grown : {k : ℕ} {l m : List ℕ} → Grown (suc k) l m → Within k l → forget (suc k) m ≡ l
unfolding forget
forget_grown done end = refl
forget_grown {k} (kept {a = a} g) (more h w) = rw (lt-leb (suc k) a (omega arith), forget_grown g w)
forget_grown {k} (new g) (more h w) = rw (le-leb (suc k) (suc k) (omega arith), forget_grown g w)
