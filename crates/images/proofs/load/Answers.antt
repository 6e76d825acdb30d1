use Rattle.images.proofs.Reading.{head_told, head_none, read_none, read_some, image_long}
use Rattle.images.proofs.load.Goals as goal

pub returns-in_default : goal.returns-in_default
returns-in_default c = read_none _ (head_none _ c.read_head.ensures c.in_default.is) c.no_session.ensures

pub levels_of-requires : goal.levels_of-requires
levels_of-requires c = image_long _ (head_told _ c.read_head.ensures c.in-Some.is).0

pub returns : goal.returns
returns c = let h = head_told _ c.read_head.ensures c.in-Some.is in read_some _ h.0 h.1 c.levels_of.ensures
