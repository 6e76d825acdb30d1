use native.Mathlib.Omega.{arith}
use mathlib.Core.Path.{◌≡◌}
use Rattle.basics.proofs.Places.{at_as}
use Rattle.records.proofs.Readers.{named_function, named_term}
use Rattle.listing_terms.proofs.Words.{built_in_name, function_name}
use Rattle.book_test.proofs.TermKinds.{good_built_in, good_application}
use Rattle.listing_terms.proofs.leaves.operator_to_string.Goals as goal

pub named-requires : goal.named-requires
named-requires c = named_term c.requires.0 c.requires.1 (good_built_in c.requires.0 c.requires.1 c.field.ensures.is c.if-field.true).name

pub returns-then-field : goal.returns-then-field
returns-then-field c = at_as (built_in_name _ _ c.field.ensures.is c.if-field.true c.named.ensures) c.put_at.ensures

pub named-requires-2 : goal.named-requires-2
named-requires-2 c = let e : c.field.result ≡ 5 = omega (arith, c.field.ensures.is, c.if-field.false, c.requires.2, c.requires.3) in named_function c.requires.0 (rw c.field-f.ensures.is (good_application c.requires.0 c.requires.1 c.field.ensures.is e).function)

pub returns : goal.returns
returns c = at_as (function_name _ _ c.field.ensures.is c.if-field.false c.field-f.ensures.is c.named-2.ensures) c.put_at-2.ensures
