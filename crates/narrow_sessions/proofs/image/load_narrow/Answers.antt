use Rattle.narrow_sessions.proofs.NarrowBytes.{head_told, head_none, read_none, read_some, narrow_long}
use Rattle.narrow_sessions.proofs.image.load_narrow.Goals as goal

pub returns-in_default : goal.returns-in_default
returns-in_default c = read_none _ (head_none _ c.read_head.ensures c.in_default.is) c.no_narrow.ensures

pub levels_in-requires : goal.levels_in-requires
levels_in-requires c = narrow_long _ (head_told _ c.read_head.ensures c.in-Some.is).0

pub returns : goal.returns
returns c = let h = head_told _ c.read_head.ensures c.in-Some.is in read_some _ h.0 h.1 c.levels_in.ensures
