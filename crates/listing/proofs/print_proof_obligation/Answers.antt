use Rattle.basics.proofs.Places.{at_then}
use Rattle.rsolver.specs.Listing.{print_proof_obligation}
use Rattle.listing.proofs.Lines.{from_zero}
use Rattle.listing.proofs.print_proof_obligation.Goals as goal

pub print_context-premises-requires : goal.print_context-premises-requires
print_context-premises-requires c = c.requires.0

pub put_line-requires : goal.put_line-requires
put_line-requires c = (c.requires.0.promise, c.requires.1)

pub returns : goal.returns
unfolding print_proof_obligation
returns c = let short = c.well_formed.1.1.1.0.0 in from_zero (at_then short (at_then short (at_then short c.put_at-title.ensures c.print_context-premises.ensures) c.put_at-turnstile.ensures) c.put_line.ensures)
