use Rattle.new_records.specs.Drafts.{range_start}
use Rattle.new_records.proofs.Parts.{range_some}
use Rattle.new_records.proofs.rows.range_start.Goals as goal

pub returns-then-length-eq0 : goal.returns-then-length-eq0
unfolding range_start
returns-then-length-eq0 c = rw c.if-length-eq0.true

pub returns-else-length-eq0 : goal.returns-else-length-eq0
returns-else-length-eq0 c = range_some _ _ c.if-length-eq0.false
