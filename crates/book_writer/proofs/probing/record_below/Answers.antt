use native.Mathlib.Omega.{arith}
use Rattle.book_writer.proofs.Probes.{probe_as}
use Rattle.book_writer.proofs.probing.record_below.Goals as goal

pub returns : goal.returns
returns c = probe_as _ _ _ _ _ _ c.path_of.ensures c.len-depth.ensures.value c.probe_name-probe.ensures c.as_slice.ensures.value c.record_as.ensures
