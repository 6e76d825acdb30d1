use Rattle.basics.proofs.Laws.{wrote_then}
use Rattle.sexpr_names.proofs.literal_rest.Goals as goal

pub returns : goal.returns
returns c = let short = c.well_formed.1.1.0.0 in wrote_then short (wrote_then short c.put-colon.ensures c.clip-at.ensures c.put_type-typ.ensures c.sum-n.ensures) c.clip-end.ensures c.put-bar.ensures c.sum.ensures
