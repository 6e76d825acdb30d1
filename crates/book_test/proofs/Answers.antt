-- The first refusal that holds is the answer.
use Prim.Native.Nat.{ℕ, ◌<◌, ◌≤◌}
use mathlib.Core.Path.{◌≡◌}
use mathlib.Core.Bool.{true, false}
use mathlib.Core.List.{List}
use lib.ListN.{length, replicate}
use borrow.Author.Tests.{lt-ltb, le-ltb}
use Rattle.basics.specs.Outcome.{refused, accepted, refuse, ◌>>◌}
use Rattle.basics.specs.Buffer.{scratch_least, scratch_after}
use Rattle.basics.proofs.Bool.{both_and, and-false}
use Rattle.book.specs.Book.{Book}
use Rattle.book_contents.specs.Contents.{laid_out, counts_fit}
use Rattle.book_fields.specs.Fields.{fields_in_range}
use Rattle.book_terms.specs.Terms.{terms_in_range}
use Rattle.book_forest.specs.Forest.{is_forest}
use Rattle.book_depth.specs.Depth.{shallow}
use Rattle.book_names.specs.Names.{names_good}
use Rattle.book_test.specs.BookTest.{in_range, book_test, ready}

-- the scratch afterwards
pub untouched : (s : List ℕ) → length s < scratch_least → s ≡ scratch_after s
unfolding scratch_after
untouched s l = rw (lt-ltb (length s) scratch_least l)

pub zeroed : (s : List ℕ) → scratch_least ≤ length s → replicate (length s) 0 ≡ scratch_after s
unfolding scratch_after
zeroed s l = rw (le-ltb (length s) scratch_least l)

module _ (b : Book) where
  pub fields_fail : fields_in_range b ≡ false → in_range b ≡ false
  unfolding in_range
  fields_fail h = rw h

  pub terms_fail : terms_in_range b ≡ false → in_range b ≡ false
  unfolding in_range
  terms_fail h = rw h (and-false (fields_in_range b))

  pub range_pass : fields_in_range b ≡ true → terms_in_range b ≡ true → in_range b ≡ true
  unfolding in_range
  range_pass h k = both_and h k

  pub refused_1 : (n : ℕ) → n < scratch_least → refused 1 ≡ ready n b
  unfolding ready refuse ◌>>◌
  refused_1 n l = rw (lt-ltb n scratch_least l)

  module _ (n : ℕ) (long : scratch_least ≤ n) where
    pub ready_long : book_test b ≡ ready n b
    unfolding ready refuse ◌>>◌
    ready_long = rw (le-ltb n scratch_least long)

    pub refused_2 : laid_out b ≡ false → refused 2 ≡ ready n b
    unfolding book_test refuse ◌>>◌
    refused_2 h = rw (← ready_long, h)

    module _ (laid : laid_out b ≡ true) where
      pub refused_3 : counts_fit b ≡ false → refused 3 ≡ ready n b
      unfolding book_test refuse ◌>>◌
      refused_3 h = rw (← ready_long, laid, h)

      module _ (counts : counts_fit b ≡ true) where
        pub refused_4 : in_range b ≡ false → refused 4 ≡ ready n b
        unfolding book_test refuse ◌>>◌
        refused_4 h = rw (← ready_long, laid, counts, h)

        module _ (ranges : in_range b ≡ true) where
          pub refused_5 : is_forest b ≡ false → refused 5 ≡ ready n b
          unfolding book_test refuse ◌>>◌
          refused_5 h = rw (← ready_long, laid, counts, ranges, h)

          module _ (forest : is_forest b ≡ true) where
            pub refused_6 : shallow b ≡ false → refused 6 ≡ ready n b
            unfolding book_test refuse ◌>>◌
            refused_6 h = rw (← ready_long, laid, counts, ranges, forest, h)

            module _ (depth : shallow b ≡ true) where
              pub refused_28 : names_good b ≡ false → refused 28 ≡ ready n b
              unfolding book_test refuse ◌>>◌
              refused_28 h = rw (← ready_long, laid, counts, ranges, forest, depth, h)

              pub accepted_all : names_good b ≡ true → accepted tt ≡ ready n b
              unfolding book_test refuse ◌>>◌
              accepted_all h = rw (← ready_long, laid, counts, ranges, forest, depth, h)
