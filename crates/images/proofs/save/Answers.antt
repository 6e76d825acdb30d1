use Rattle.images.proofs.Stored.{saved}
use Rattle.images.proofs.save.Goals as goal

pub returns : goal.returns
returns c = saved c.args.s.now _ c.requires c.put_head.ensures c.put_levels.ensures
