use Prim.Native.Nat.{◌<◌}
use native.Mathlib.Omega.{arith}
use mathlib.Core.Path.{refl, sym}
use Rattle.basics.proofs.Loops.{all_none, all_more, all_stop, all_done}
use Rattle.book.specs.Book.{contexts, size}
use Rattle.book_depth.specs.Depth.{is_shallow, shallow}
use Rattle.book_depth.proofs.Path.{root_known, next_known, next_shallow, next_deep}
use Rattle.book_depth.proofs.shallow.Goals as goal

pub loop-i-init : goal.loop-i-init
loop-i-init c = (all_none _, root_known _ _ c.no_depths-depths.ensures)

pub offset_bounds-depths-parent : goal.offset_bounds-depths-parent
offset_bounds-depths-parent c = omega (arith, c.field-parent.ensures.is, c.requires.1.parent c.loop-i.i (omega arith))

pub bounds-depths-parent : goal.bounds-depths-parent
bounds-depths-parent c = omega (arith, c.field-parent.ensures.is, c.requires.1.parent c.loop-i.i (omega arith))

pub returns-then-depth-ge-DEEPEST : goal.returns-then-depth-ge-DEEPEST
unfolding shallow
returns-then-depth-ge-DEEPEST c =
    let l : c.loop-i.i < size c.args.book.now contexts = omega arith in
    let deep = next_deep c.args.book.now c.requires.1 c.loop-i.depths c.loop-i.i c.field-parent.result c.loop-i.invariant.1 l c.field-parent.ensures.is c.if-depth-ge-DEEPEST.true in
    all_stop (is_shallow c.args.book.now) _ c.loop-i.i (sym deep) refl l

pub overflow_add-depths : goal.overflow_add-depths
overflow_add-depths c = omega arith

pub bounds-depths-i : goal.bounds-depths-i
bounds-depths-i c = omega arith

pub loop-i-preserved : goal.loop-i-preserved
loop-i-preserved c =
    let l : c.loop-i.i < size c.args.book.now contexts = omega arith in
    let low = next_shallow c.args.book.now c.requires.1 c.loop-i.depths c.loop-i.i c.field-parent.result c.loop-i.invariant.1 l c.field-parent.ensures.is c.if-depth-ge-DEEPEST.false in (
      all_more (is_shallow c.args.book.now) c.loop-i.i c.loop-i.invariant.0 (sym low) refl,
      next_known c.args.book.now c.requires.1 c.loop-i.depths c.loop-i.i c.field-parent.result c.loop-i.invariant.1 l c.field-parent.ensures.is (omega arith),
    )

pub returns : goal.returns
unfolding shallow
returns c = all_done _ _ _ c.loop-i.invariant.0 (omega arith)
