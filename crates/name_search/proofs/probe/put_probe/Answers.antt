use native.Mathlib.Omega.{arith}
use Rattle.basics.proofs.Laws.{wrote_as, wrote_then}
use Rattle.name_search.proofs.Probing.{two_parts}
use Rattle.name_search.proofs.probe.put_probe.Goals as goal

pub returns : goal.returns
returns c = wrote_as (two_parts _) (wrote_then (omega arith) c.put_all-word.ensures c.clip-k.ensures c.put_u64-digits.ensures c.sum.ensures)
