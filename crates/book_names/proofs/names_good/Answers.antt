use Rattle.book_names.specs.Names.{names_good}
use Rattle.book_names.proofs.Looked.{types_first, constants_first, functions_first}
use Rattle.book_names.proofs.names_good.Goals as goal

pub section_named-requires : goal.section_named-requires
section_named-requires c = (c.requires.0, c.requires.1, types_first _ c.requires.0 c.requires.1)

pub section_named-requires-2 : goal.section_named-requires-2
section_named-requires-2 c = (c.requires.0, c.requires.1, constants_first _ c.requires.0 c.requires.1)

pub section_named-requires-3 : goal.section_named-requires-3
section_named-requires-3 c = (c.requires.0, c.requires.1, functions_first _ c.requires.0 c.requires.1)

pub returns : goal.returns
unfolding names_good
returns c = cc
