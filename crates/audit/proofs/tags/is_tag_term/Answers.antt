use Rattle.std.proofs.Common.{◌∙◌}
use borrow.Author.Tests.{ne_eqb}
use Rattle.book_test.proofs.TermKinds.{good_literal}
use Rattle.audit.proofs.TagTerms.{no_literal, by_name}
use Rattle.audit.proofs.tags.is_tag_term.Goals as goal

pub is_tag-requires : goal.is_tag-requires
is_tag-requires c = (c.requires.0, c.requires.1, good_literal c.requires.0 c.requires.1 c.field.ensures.is c.if-field.true)

pub returns-then-field : goal.returns-then-field
returns-then-field c = by_name _ c.args.t c.field.ensures.is c.if-field.true c.is_tag.ensures

pub returns-else-field : goal.returns-else-field
returns-else-field c = ne_eqb c.field.result 2 c.if-field.false ∙ no_literal _ c.args.t c.field.ensures.is c.if-field.false
