use mathlib.Core.Path.{◌≡◌}
use borrow.Author.Rules.{rules}
use borrow.Author.Tests.{tests}
use Rattle.basics.specs.Lists.{all_below}
use Rattle.basics.proofs.Chains.{all_in_range}
use Rattle.book.specs.Book.{size, letters, names, types, constants, functions, axioms, patterns, contexts}
use Rattle.book_fields.specs.Fields.{letter_in_range, name_in_range, type_in_range, constant_in_range, function_in_range, axiom_in_range, pattern_in_range, context_in_range, fields_in_range}
use Rattle.book_records.proofs.fields_in_range.Goals as goal

pub returns : goal.returns
unfolding fields_in_range
returns c =
    let b = c.args.book.now in
    let letters_are : c.all.result ≡ all_below (size b letters) (letter_in_range b) = rw (← c.count.ensures.is) (all_in_range (letter_in_range b) c.all.ensures.ran (λ x r q k. search (rules, tests))) in
    let names_are : c.all-2.result ≡ all_below (size b names) (name_in_range b) = rw (← c.count-2.ensures.is) (all_in_range (name_in_range b) c.all-2.ensures.ran (λ x r q k. search (rules, tests))) in
    let types_are : c.all-3.result ≡ all_below (size b types) (type_in_range b) = rw (← c.count-3.ensures.is) (all_in_range (type_in_range b) c.all-3.ensures.ran (λ x r q k. search (rules, tests))) in
    let constants_are : c.all-4.result ≡ all_below (size b constants) (constant_in_range b) = rw (← c.count-4.ensures.is) (all_in_range (constant_in_range b) c.all-4.ensures.ran (λ x r q k. search (rules, tests))) in
    let functions_are : c.all-5.result ≡ all_below (size b functions) (function_in_range b) = rw (← c.count-5.ensures.is) (all_in_range (function_in_range b) c.all-5.ensures.ran (λ x r q k. search (rules, tests))) in
    let axioms_are : c.all-6.result ≡ all_below (size b axioms) (axiom_in_range b) = rw (← c.count-6.ensures.is) (all_in_range (axiom_in_range b) c.all-6.ensures.ran (λ x r q k. search (rules, tests))) in
    let patterns_are : c.all-7.result ≡ all_below (size b patterns) (pattern_in_range b) = rw (← c.count-7.ensures.is) (all_in_range (pattern_in_range b) c.all-7.ensures.ran (λ x r q k. search (rules, tests))) in
    let contexts_are : c.all-8.result ≡ all_below (size b contexts) (context_in_range b) = rw (← c.count-8.ensures.is) (all_in_range (context_in_range b) c.all-8.ensures.ran (λ x r q k. search (rules, tests))) in
    cc
