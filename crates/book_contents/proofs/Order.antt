-- The sections in their order, one after the other.
use Prim.Native.Nat.{ℕ, ◌+◌, ◌*◌, ◌<◌}
use native.Mathlib.Numerals.{add-one}
use mathlib.Core.Path.{◌≡◌}
use mathlib.Core.Bool.{false}
use lib.Dec.{eqb}
use lib.ListN.{length, get_or, drop}
use lib.Seq.{drop-cons}
use borrow.Author.Tests.{eq-eqb, ne_eqb}
use Rattle.book.specs.Book.{Book, letters, sections, offset, size}
use Rattle.book.specs.Laid.{section_at}
use Rattle.book.proofs.Sections.{sizes, tabled}
use Rattle.book_contents.specs.Contents.{laid_from}

module _ (b : Book) (at n : ℕ) where
  pub order_stop : n < 10 → (offset b (section_at n) ≡ at → ⊥) → laid_from b at (drop n sections) ≡ false
  unfolding laid_from
  order_stop h ne = rw (drop-cons sections n letters h, ne_eqb (offset b (section_at n)) at ne)

  pub order_more : n < 10 → offset b (section_at n) ≡ at → laid_from b (at + get_or sizes n 0 * size b (section_at n)) (drop (n + 1) sections) ≡ laid_from b at (drop n sections)
  unfolding laid_from
  order_more h e = rw (add-one n, drop-cons sections n letters h, eq-eqb (offset b (section_at n)) at e, (tabled n h).size)

  pub order_done : n ≡ 10 → laid_from b at (drop n sections) ≡ eqb at (length b)
  unfolding laid_from
  order_done e = rw e
