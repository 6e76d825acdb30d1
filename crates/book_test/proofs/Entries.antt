-- The entries of a range of lists: one more, how many, and what holds of each.
use Prim.Native.Nat.{ℕ, zero, suc, ◌+◌, ◌<◌}
use native.Mathlib.Omega.{arith}
use mathlib.Core.Path.{◌≡◌, refl, ap}
use mathlib.Core.List.{List, [], ◌∷◌, ◌++◌, map}
use lib.ListN.{length}
use Rattle.basics.proofs.All.{All, end, more}
use Rattle.book.specs.Book.{Book, lists, field, entries}

module _ (b : Book) where
  pub entries_more : (start i : ℕ) → entries b start (suc i) ≡ entries b start i ++ (field b lists (start + i) 0 ∷ [])
  unfolding entries
  entries_more start zero = let e : start + 0 ≡ start = omega arith in rw e
  entries_more start (suc i) = let e : start + suc i ≡ suc start + i = omega arith in rw e (ap {B = List ℕ} (λ (l : List ℕ). field b lists start 0 ∷ l) (entries_more (suc start) i))

  pub entries_length : (start i : ℕ) → length (entries b start i) ≡ i
  unfolding entries
  entries_length start zero = refl
  entries_length start (suc i) = ap suc (entries_length (suc start) i)

-- of each of a list, and of one more
pub map_more : {A B : Type 0} (g : A → B) (xs : List A) (x : A) → map g (xs ++ (x ∷ [])) ≡ map g xs ++ (g x ∷ [])
map_more g [] x = refl
map_more g (y ∷ xs) x = rw (map_more g xs x)

pub entries_each : (b : Book) (Q : ℕ → Type 0) (start count : ℕ) → ((i : ℕ) → i < count → Q (field b lists (start + i) 0)) → All Q (entries b start count)
unfolding entries
entries_each b Q start zero h = end
entries_each b Q start (suc count) h =
    let e : start + 0 ≡ start = omega arith in
    more (rw e at (h 0 (omega arith)))
    (entries_each b Q (suc start) count (λ i l. let s : suc start + i ≡ start + suc i = omega arith in rw s (h (suc i) (omega arith))))
