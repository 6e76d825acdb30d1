use mathlib.Core.Bool.{true, false}
use Rattle.std.proofs.lemmas.Iterator.{first_from_Range}
use Rattle.name_search.proofs.Searching.{Found, search_told}
use borrow.Author.Rules.{rules}
use Rattle.name_search.proofs.find_name.Goals as goal

pub returns : goal.returns
returns c = search_told c.args.book.now c.args.text.now c.find.result c.count.ensures.is (first_from_Range _ _ _ c.find.result (λ n. Found c.args.book.now c.args.text.now n true) (λ n. Found c.args.book.now c.args.text.now n false) c.find.ensures.ran (λ x q h. search rules) (λ x q h. search rules))
