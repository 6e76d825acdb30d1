-- The table of sections, and where a field stands.
use Prim.Native.Nat.{ℕ, zero, suc, ◌+◌, ◌*◌, ◌<◌, ◌≤◌}
use native.Mathlib.Nat.{mul-le-mul_left, mul-suc}
use native.Mathlib.Omega.{arith}
use mathlib.Core.Path.{◌≡◌, refl}
use mathlib.Core.List.{List, map}
use lib.ListN.{length, get_or}
use Rattle.book.specs.Book.{Book, Section, sections, word, offset, size, field}
use Rattle.book.specs.Laid.{section_at, Holds}

-- the size of each section's records, and its limit: what the code's tables compute to
abbrev pub sizes : List ℕ
sizes = map (λ (s : Section). s.size) sections

abbrev pub limits : List ℕ
limits = map (λ (s : Section). s.most) sections

pub record Tabled (n : ℕ) : Type 0 where
  pub number : (section_at n).number ≡ n
  pub size : get_or sizes n 0 ≡ (section_at n).size
  pub most : get_or limits n 0 ≡ (section_at n).most
  pub narrow : get_or sizes n 0 ≤ 28

pub tabled : (n : ℕ) → n < 10 → Tabled n
tabled zero h = record { number = refl; size = refl; most = refl; narrow = omega arith }
tabled (suc zero) h = record { number = refl; size = refl; most = refl; narrow = omega arith }
tabled (suc (suc zero)) h = record { number = refl; size = refl; most = refl; narrow = omega arith }
tabled (suc (suc (suc zero))) h = record { number = refl; size = refl; most = refl; narrow = omega arith }
tabled (suc (suc (suc (suc zero)))) h = record { number = refl; size = refl; most = refl; narrow = omega arith }
tabled (suc (suc (suc (suc (suc zero))))) h = record { number = refl; size = refl; most = refl; narrow = omega arith }
tabled (suc (suc (suc (suc (suc (suc zero)))))) h = record { number = refl; size = refl; most = refl; narrow = omega arith }
tabled (suc (suc (suc (suc (suc (suc (suc zero))))))) h = record { number = refl; size = refl; most = refl; narrow = omega arith }
tabled (suc (suc (suc (suc (suc (suc (suc (suc zero)))))))) h = record { number = refl; size = refl; most = refl; narrow = omega arith }
tabled (suc (suc (suc (suc (suc (suc (suc (suc (suc zero))))))))) h = record { number = refl; size = refl; most = refl; narrow = omega arith }
tabled (suc (suc (suc (suc (suc (suc (suc (suc (suc (suc n)))))))))) h = absurd (omega arith)

module _ (b : Book) (n : ℕ) (known : n < 10) where
  pub offset_at : word b (8 * n) ≡ offset b (section_at n)
  unfolding offset
  offset_at = rw (tabled n known).number

  pub size_at : word b (8 * n + 4) ≡ size b (section_at n)
  unfolding size
  size_at = rw (tabled n known).number

  pub field_at : (k i : ℕ) → word b (offset b (section_at n) + get_or sizes n 0 * k + 4 * i) ≡ field b (section_at n) k i
  unfolding field
  field_at k i = rw (tabled n known).size

  pub field_fits : (k i : ℕ) → Holds b (section_at n) k i → offset b (section_at n) + get_or sizes n 0 * k + 4 * i + 4 ≤ length b
  field_fits k i h =
      let s = section_at n in
      let m : s.size * suc k ≤ s.size * size b s = mul-le-mul_left s.size h.here in
      rw (tabled n known).size (omega (arith, m, mul-suc s.size k, h.laid.whole, h.within))
