-- Bodies that are written as numbers: records as rows of fields.
use Prim.Native.Nat.{ℕ, zero, suc, ◌+◌, ◌*◌, ◌^◌, ◌≤◌, ◌<◌}
use native.Mathlib.Nat.{mul-suc}
use native.Mathlib.Omega.{arith}
use mathlib.Core.Path.{◌≡◌, refl, sym, ◌∙◌}
use mathlib.Core.List.{List, [], ◌∷◌, ◌++◌, append_assoc}
use lib.ListN.{length, get_or, take, drop, length-append}
use lib.Seq.{drop-cons}
use Rattle.basics.specs.Lists.{join_below}
use Rattle.basics.proofs.All.{All, end, more, all-at}
use Rattle.book.specs.Book.{Section, word}
use Rattle.basics.specs.Bytes.{bytes4, row, rows}
use Rattle.book_layout.specs.Layout.{field_in, entries_in}
use Rattle.book.proofs.Words.{length_bytes4, word_bytes4, length_row}
use Rattle.book_layout.proofs.Stands.{Stands, stands_word, stands_right, stands_first, stands_join}

-- numbers of 32 bits
abbrev pub Words : List ℕ → Type 0
Words xs = All (λ (x : ℕ). x < 2 ^ 32) xs

pub row_append : (xs ys : List ℕ) → row (xs ++ ys) ≡ row xs ++ row ys
unfolding row
row_append [] ys = refl
row_append (x ∷ xs) ys = rw (row_append xs ys) (sym (append_assoc (bytes4 x) (row xs) (row ys)))

row_stands : (xs : List ℕ) (i : ℕ) → i < length xs → Stands (row xs) (4 * i) (bytes4 (get_or xs i 0))
unfolding row
row_stands [] i h = absurd (omega arith)
row_stands (x ∷ xs) zero h = stands_first (bytes4 x) (row xs)
row_stands (x ∷ xs) (suc i) h =
    let e : length (bytes4 x) + 4 * i ≡ 4 * suc i = omega (arith, length_bytes4 x) in
    rw e at (stands_right (row_stands xs i (omega arith)) (bytes4 x))

-- number i of a row, if it has 32 bits
pub word_at : (xs : List ℕ) (i : ℕ) → i < length xs → get_or xs i 0 < 2 ^ 32 → word (row xs) (4 * i) ≡ get_or xs i 0
word_at xs i h low =
    let x = get_or xs i 0 in
    let here : word (row xs) (4 * i + 0) ≡ word (bytes4 x) 0 = stands_word (row_stands xs i h) 0 (omega (arith, length_bytes4 x)) in
    let e : 4 * i + 0 ≡ 4 * i = omega arith in
    (rw e at here) ∙ word_bytes4 x low

pub word_row : {xs : List ℕ} → Words xs → (i : ℕ) → i < length xs → word (row xs) (4 * i) ≡ get_or xs i 0
word_row {xs} w i h = word_at xs i h (all-at w i 0 h)

-- a body of lists
pub entries_row : {xs : List ℕ} → Words xs → (start count : ℕ) → start + count ≤ length xs → entries_in (row xs) start count ≡ take count (drop start xs)
unfolding entries_in
entries_row w start zero h = refl
entries_row {xs} w start (suc count) h =
    rw (word_row w start (omega arith), entries_row w (suc start) count (omega arith), drop-cons xs start 0 (omega arith))

-- a body of records, from a list of them
pub record Records (width : ℕ) (rs : List (List ℕ)) : Type 0 where
  pub wide : All (λ (r : List ℕ). length r ≡ width) rs
  pub words : All Words rs

pub length_rows : (width : ℕ) {rs : List (List ℕ)} → All (λ (r : List ℕ). length r ≡ width) rs → length (rows rs) ≡ 4 * width * length rs
unfolding rows
length_rows width end = omega arith
length_rows width (more {a = r} {l = rs} h hs) = length-append (row r) (rows rs) ∙ omega (arith, length_row r, h, length_rows width hs, mul-suc (4 * width) (length rs))

rows_stand : (width : ℕ) {rs : List (List ℕ)} → All (λ (r : List ℕ). length r ≡ width) rs → (k : ℕ) → k < length rs → Stands (rows rs) (4 * width * k) (row (get_or rs k []))
unfolding rows
rows_stand width end k h = absurd (omega arith)
rows_stand width (more {a = r} {l = rs} w ws) zero h = let e : 0 ≡ 4 * width * 0 = omega arith in rw e at (stands_first (row r) (rows rs))
rows_stand width (more {a = r} {l = rs} w ws) (suc k) h =
    let e : length (row r) + 4 * width * k ≡ 4 * width * suc k = omega (arith, length_row r, w, mul-suc (4 * width) k) in
    rw e at (stands_right (rows_stand width ws k (omega arith)) (row r))

-- field i of record k, where record k's row stands
field_row : (bytes : List ℕ) (s : Section) (r : List ℕ) (k i : ℕ) → Stands bytes (s.size * k) (row r) → i < length r → get_or r i 0 < 2 ^ 32 → field_in bytes s k i ≡ get_or r i 0
unfolding field_in
field_row bytes s r k i stands h low = stands_word stands (4 * i) (omega (arith, length_row r)) ∙ word_at r i h low

-- a field of 32 bits, whatever the others are
pub field_at : (s : Section) (width : ℕ) → s.size ≡ 4 * width → {rs : List (List ℕ)} → All (λ (r : List ℕ). length r ≡ width) rs → (k i : ℕ) → k < length rs → i < width
    → get_or (get_or rs k []) i 0 < 2 ^ 32 → field_in (rows rs) s k i ≡ get_or (get_or rs k []) i 0
field_at s width e {rs} wide k i h l low =
    let w : length (get_or rs k []) ≡ width = all-at wide k [] h in
    let q : 4 * width * k ≡ s.size * k = rw e in
    field_row (rows rs) s (get_or rs k []) k i (rw q at (rows_stand width wide k h)) (omega arith) low

pub field_rows : (s : Section) (width : ℕ) → s.size ≡ 4 * width → {rs : List (List ℕ)} → Records width rs → (k i : ℕ) → k < length rs → i < width → field_in (rows rs) s k i ≡ get_or (get_or rs k []) i 0
field_rows s width e {rs} R k i h l =
    let w : length (get_or rs k []) ≡ width = all-at R.wide k [] h in
    field_at s width e R.wide k i h l (all-at (all-at R.words k [] h) i 0 (omega arith))

-- a body of records, from a function of their numbers
module _ (width : ℕ) (r : ℕ → List ℕ) (wide : (k : ℕ) → length (r k) ≡ width) where
  pub length_records : (n : ℕ) → length (join_below n (λ k. row (r k))) ≡ 4 * width * n
  unfolding join_below
  length_records zero = omega arith
  length_records (suc n) =
      length-append (join_below n (λ k. row (r k))) (row (r n)) ∙ omega (arith, length_records n, length_row (r n), wide n, mul-suc (4 * width) n)

  pub field_records : (s : Section) → s.size ≡ 4 * width → (n k i : ℕ) → k < n → i < width → Words (r k) → field_in (join_below n (λ j. row (r j))) s k i ≡ get_or (r k) i 0
  field_records s e n k i h l w =
      let q : length (join_below k (λ j. row (r j))) ≡ s.size * k = length_records k ∙ rw e in
      field_row (join_below n (λ j. row (r j))) s (r k) k i (rw q at (stands_join n (λ j. row (r j)) k h)) (omega (arith, wide k)) (all-at w i 0 (omega (arith, wide k)))
