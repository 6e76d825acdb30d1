use Prim.Native.Nat.{◌+◌, ◌-◌}
use native.Mathlib.Omega.{arith}
use mathlib.Core.Path.{◌≡◌}
use Rattle.book.specs.Book.{name_text}
use Rattle.book.proofs.name.Goals as goal

pub returns : goal.returns
unfolding name_text
returns c =
    let o = c.offset in
    let start = c.field in
    let count = c.field-2 in
    let e : o.result + start.result + count.result - (o.result + start.result) ≡ count.result = omega arith in
    rw (e, o.ensures.is, start.ensures.is, count.ensures.is)
