use Rattle.narrow_sessions.proofs.NarrowBytes.{saved}
use Rattle.narrow_sessions.proofs.ForRoom.{room_fits, room_other}
use mathlib.Core.Path.{refl}
use native.Mathlib.Omega.{arith}
use borrow.Author.Rules.{rules}
use Rattle.narrow_sessions.proofs.image.save_narrow.Goals as goal

pub returns-then-image-ne-NARROW_IMAGE : goal.returns-then-image-ne-NARROW_IMAGE
returns-then-image-ne-NARROW_IMAGE c = room_other _ _ _ _ (λ e. omega (arith, e, c.if-image-ne-NARROW_IMAGE.true)) refl

pub returns : goal.returns
returns c = room_fits _ _ _ _ (omega (arith, c.if-image-ne-NARROW_IMAGE.false)) (saved c.args.s.now c.args.image.now (omega (arith, c.if-image-ne-NARROW_IMAGE.false)) (search rules) c.put_head-levels_at.ensures c.put_at.ensures)
