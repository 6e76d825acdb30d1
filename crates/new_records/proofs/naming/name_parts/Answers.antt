use Prim.Native.Nat.{◌+◌}
use mathlib.Core.Path.{refl}
use native.Mathlib.Omega.{arith}
use Rattle.new_records.proofs.Parts.{middle_low, front_is, row_most, parts_are}
use Rattle.new_records.proofs.naming.name_parts.Goals as goal

pub put_text-length-requires : goal.put_text-length-requires
put_text-length-requires c = middle_low _ c.requires.1 c.put_text-middle.ensures

pub overflow_add-behind : goal.overflow_add-behind
overflow_add-behind c = omega (arith, middle_low _ c.requires.1 c.put_text-middle.ensures)

pub put_name-third-requires : goal.put_name-third-requires
put_name-third-requires c = omega (arith, c.put_name-second.ensures.counted, row_most c.args.behind c.args.before.now.probe)

pub overflow_add-behind-2 : goal.overflow_add-behind-2
overflow_add-behind-2 c = omega (arith, front_is _ c.requires.1 c.put_text-middle.ensures c.put_text-length.ensures, c.requires.1)

pub put_name-end-requires : goal.put_name-end-requires
put_name-end-requires c = omega (arith, c.put_name-second.ensures.counted, row_most c.args.behind c.args.before.now.probe, c.put_name-third.ensures.counted, row_most (c.args.behind + c.put_text-middle.result) c.args.before.now.equals)

pub returns : goal.returns
returns c = parts_are _ c.requires.1 c.put_text-middle.ensures c.put_text-length.ensures _ _ c.put_name-second.ensures c.put_name-third.ensures c.put_name-end.ensures refl refl c.filled.ensures c.filled-2.ensures
