-- Levels that are copied, one after the other.
use Prim.Native.Nat.{ℕ, ◌+◌, ◌≤◌, ◌<◌}
use native.Mathlib.Omega.{arith}
use native.Mathlib.Numerals.{add-one}
use mathlib.Core.Path.{◌≡◌, refl, sym, ap, ◌∙◌}
use mathlib.Core.List.{List, [], ◌∷◌, ◌++◌}
use lib.ListN.{length, get_or, set, take, length-set}
use lib.Seq.{take_all, take-suc, take-suc-set}

-- the first i are there
pub record Copied (levels copied : List ℕ) (i : ℕ) : Type 0 where
  pub long : length copied ≡ length levels
  pub there : take i copied ≡ take i levels

pub copied_none : (levels copied : List ℕ) → length copied ≡ length levels → Copied levels copied 0
copied_none levels copied e = record { long = e; there = refl }

pub copied_more : {levels copied : List ℕ} {i : ℕ} → Copied levels copied i → i < length levels → Copied levels (set copied i (get_or levels i 0)) (i + 1)
copied_more {levels} {copied} {i} c h =
    record {
      long = length-set copied i (get_or levels i 0) ∙ c.long;
      there =
          rw (add-one i)
          (take-suc-set copied i (get_or levels i 0) (omega (arith, c.long)) ∙ ap {B = List ℕ} (λ (l : List ℕ). l ++ (get_or levels i 0 ∷ [])) c.there
          ∙ sym (take-suc levels i 0 h));
    }

pub copied_all : {levels copied : List ℕ} {i : ℕ} → Copied levels copied i → length levels ≤ i → copied ≡ levels
copied_all {levels} {copied} {i} c h = sym (take_all i copied (omega (arith, c.long))) ∙ c.there ∙ take_all i levels h
