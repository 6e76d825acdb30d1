use native.Mathlib.Omega.{arith}
use mathlib.Core.Path.{◌≡◌}
use mathlib.Core.Bool.{true}
use lib.Dec.{ltb}
use borrow.Author.Tests.{lt-ltb, le-ltb}
use Rattle.symbols.specs.Masks.{in_masks}
use Rattle.symbols.proofs.letters.in_masks.Goals as goal
use Rattle.symbols.proofs.letters.in_masks.Goals.{then-c-lt64, else-c-lt64}

pub returns-then-c-ge128 : goal.returns-then-c-ge128
unfolding in_masks
returns-then-c-ge128 c = rw (le-ltb c.args.c 128 c.if-c-ge128.true)

pub returns : goal.returns
unfolding in_masks
returns c =
    let letter = c.args.c in
    let below : ltb letter 128 ≡ true = lt-ltb letter 128 c.if-c-ge128.false in
    elim c.if-c-lt64.branch [
      | then-c-lt64 w ↦
          let e : c.if-c-lt64.mask ≡ c.args.low = omega arith in
          rw (below, lt-ltb letter 64 (omega arith), e)
      | else-c-lt64 w ↦
          let e : c.if-c-lt64.mask ≡ c.args.high = omega arith in
          rw (below, le-ltb letter 64 (omega arith), e)
    ]
