use Rattle.image_calls.proofs.OnImages.{no_room, fresh_there}
use Rattle.image_calls.proofs.fresh_image.Goals as goal

pub returns-then-image-ne-IMAGE : goal.returns-then-image-ne-IMAGE
returns-then-image-ne-IMAGE c = no_room _ c.if-image-ne-IMAGE.true

pub returns : goal.returns
returns c = fresh_there _ c.if-image-ne-IMAGE.false c.fresh.ensures c.save.ensures
