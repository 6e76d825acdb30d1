-- Small books, computed: the empty one, and the first trace point in it.
use mathlib.Core.Path.{◌≡◌, refl}
use mathlib.Core.Bool.{true}
use mathlib.Core.List.{[], ◌∷◌, ◌++◌}
use lib.ListN.{length, replicate}
use Rattle.basics.specs.Text.{ascii}
use Rattle.basics.specs.Lists.{join_below, all_below, all}
use Rattle.book.specs.Book.{Book, names, constants, terms, contexts, lists, offset, size, field, entries, name_text}
use Rattle.book_contents.specs.Contents.{laid_from, laid_out, count_fits, counts_fit}
use Rattle.basics.specs.Bytes.{bytes4, row}
use Rattle.book_layout.specs.Layout.{Bodies, body, count_of, start_of, entry_of, assembled}
use Rattle.book_growth.specs.Growth.{Addition, added, grown_body, grown, grows_by, grows_within}

no_bodies : Bodies
no_bodies s = []

everything : Unit {0}
unfolding join_below all_below all offset size field entries name_text laid_from laid_out count_fits counts_fit bytes4 row body count_of start_of entry_of assembled added grown_body grown grows_by grows_within no_bodies
everything = tt

empty_book : Book
unfolding everything
empty_book = assembled no_bodies

-- ten times the offset 80 and no records
empty_is : empty_book ≡ join_below 10 (λ n. 80 ∷ replicate 7 0)
unfolding everything empty_book
empty_is = refl

-- the probe name, `=` and the trace; `true`, the probe and their equality; the node
point : Addition
unfolding everything
point =
    record {
      letters = ascii "probe%0=start";
      names = row (0 ∷ 7 ∷ 7 ∷ 1 ∷ 8 ∷ 5 ∷ []);
      constants = row (0 ∷ 0 ∷ []);
      terms =
          row (0 ∷ 1 ∷ 0 ∷ 0 ∷ 0 ∷ 0 ∷ 0 ∷ [])
          ++ row (3 ∷ 0 ∷ 0 ∷ 0 ∷ 0 ∷ 0 ∷ 0 ∷ [])
          ++ row (4 ∷ 1 ∷ 0 ∷ 2 ∷ 0 ∷ 0 ∷ 0 ∷ []);
      contexts = row (0 ∷ 2 ∷ 3 ∷ []);
      lists = row (1 ∷ 0 ∷ []);
    }

point_book : Book
unfolding everything empty_book point
point_book = grown empty_book point

point_length : length point_book ≡ 229
unfolding everything empty_book point point_book
point_length = refl

point_within : grows_within empty_book point ≡ true
unfolding everything empty_book point
point_within = refl

point_laid : laid_out point_book ≡ true
unfolding everything empty_book point point_book
point_laid = refl

point_counts : counts_fit point_book ≡ true
unfolding everything empty_book point point_book
point_counts = refl

point-names : name_text point_book 0 ∷ name_text point_book 1 ∷ name_text point_book 2 ∷ [] ≡ ascii "probe%0" ∷ ascii "=" ∷ ascii "start" ∷ []
unfolding everything empty_book point point_book
point-names = refl

point_fields : field point_book terms 2 0 ∷ field point_book terms 2 3 ∷ field point_book contexts 0 1 ∷ entries point_book 0 2 ≡ 4 ∷ 2 ∷ 2 ∷ 1 ∷ 0 ∷ []
unfolding everything empty_book point point_book
point_fields = refl

point_again : assembled (body point_book) ≡ point_book
unfolding everything empty_book point point_book
point_again = refl
