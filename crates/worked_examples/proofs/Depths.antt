-- Refusal 6: a chain of 400 contexts passes, and one of 401 gives 6, so 2 to 5 pass. That one of 65 is not too deep is computed as well.
use native.Mathlib.Omega.{arith}
use mathlib.Core.Path.{◌≡◌, refl}
use mathlib.Core.Bool.{Bool, true}
use Rattle.basics.specs.Lists.{all_below, join_below}
use Rattle.basics.specs.Bytes.{bytes4, row}
use Rattle.basics.specs.Outcome.{refused, accepted}
use Rattle.book.specs.Book.{offset, size, field}
use Rattle.book_depth.specs.Depth.{steps, node_depth, is_shallow, shallow}
use Rattle.book_test.specs.BookTest.{book_test}
use Rattle.book_layout.specs.Layout.{count_of, start_of, entry_of, assembled}
use Rattle.worked_examples.proofs.Chains.{chain_book, chain_test}

pub deepest : book_test (chain_book 400) ≡ accepted tt
deepest = chain_test 400 (omega arith)

pub too_deep : book_test (chain_book 401) ≡ refused 6
too_deep = chain_test 401 (omega arith)

-- Each read counts its way through the bytes.
pub computed : Bool
unfolding all_below join_below bytes4 row offset size field steps node_depth is_shallow shallow count_of start_of entry_of assembled
computed = shallow (chain_book 65)

pub not_deep : computed ≡ true
unfolding computed
not_deep = refl
