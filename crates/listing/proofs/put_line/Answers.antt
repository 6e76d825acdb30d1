use Rattle.basics.proofs.Places.{at_then}
use Rattle.rsolver.specs.Listing.{listing_line}
use Rattle.listing.proofs.put_line.Goals as goal

pub rexpr_to_string-end-requires : goal.rexpr_to_string-end-requires
rexpr_to_string-end-requires c = (c.requires.0, c.requires.1)

pub returns : goal.returns
unfolding listing_line
returns c = let short = c.well_formed.1.1.1.0.0 in at_then short (at_then short c.put_at-indented.ensures c.rexpr_to_string-end.ensures) c.put_at.ensures
