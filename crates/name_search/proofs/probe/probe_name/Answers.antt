use mathlib.Core.Path.{refl}
use Rattle.name_search.proofs.Probing.{probe_told}
use Rattle.name_search.proofs.probe.probe_name.Goals as goal

pub returns : goal.returns
returns c = probe_told _ c.requires refl c.put_probe-length.ensures c.filled.ensures
