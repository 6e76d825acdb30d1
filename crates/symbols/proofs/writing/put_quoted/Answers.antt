use Rattle.basics.proofs.Laws.{wrote_then}
use Rattle.symbols.proofs.writing.put_quoted.Goals as goal

pub returns : goal.returns
returns c =
    let short = c.well_formed.1.0.0 in
    wrote_then short
    (wrote_then short c.put-open.ensures c.clip-at.ensures c.put_all-text.ensures c.sum-n.ensures)
    c.clip-end.ensures c.put-close.ensures c.sum.ensures
