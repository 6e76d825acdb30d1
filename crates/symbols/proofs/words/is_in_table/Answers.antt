use native.Mathlib.Omega.{arith}
use mathlib.Core.Path.{◌∙◌}
use lib.ListN.{length}
use Rattle.symbols.proofs.WordTable.{bytes, places, places_rise, places_end, among_lent}
use Rattle.symbols.proofs.words.is_in_table.Goals as goal

pub slice_bounds-is_among-count : goal.slice_bounds-is_among-count
unfolding places
slice_bounds-is_among-count c = omega (arith, places_rise (length c.args.name.now) c.requires.1)

pub slice_bounds-is_among-start : goal.slice_bounds-is_among-start
unfolding places
slice_bounds-is_among-start c = omega (arith, places_rise (length c.args.name.now) c.requires.1, places_end (length c.args.name.now) c.requires.1)

pub slice_bounds-is_among-end : goal.slice_bounds-is_among-end
unfolding places
slice_bounds-is_among-end c = omega (arith, places_end (length c.args.name.now) c.requires.1)

pub returns : goal.returns
unfolding bytes places
returns c = c.is_among.ensures ∙ among_lent _ c.requires.1
