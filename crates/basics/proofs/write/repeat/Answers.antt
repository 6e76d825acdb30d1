use borrow.Author.Rules.{rules}
use Rattle.basics.proofs.Writing.{filled}
use Rattle.basics.proofs.write.repeat.Goals as goal

pub returns : goal.returns
returns c = filled c.args.b c.args.n c.args.out.now _ c.clip-end.ensures (search rules) (c.fill.ensures.after (λ y e. e)) c.well_formed.1.1.0.0
