use native.Mathlib.Omega.{arith}
use Rattle.printer.proofs.RowText.{at_name, at_row, start, name_falls, name_ready, name_more, row_falls, row_ready, row_lighter, row_more, last_falls, last_ready, last_more, finish}
use Rattle.printer.proofs.text.+parts_to_string.Goals as goal

pub turn_of-turn-requires : goal.turn_of-turn-requires
turn_of-turn-requires t c = c.requires

pub loop-turn-init : goal.loop-turn-init
loop-turn-init t c = start _ c.requires c.turn_of-turn.ensures

pub put_name-m-requires : goal.put_name-m-requires
put_name-m-requires t c = λ n e. name_ready c.well_formed.1.1.1.1.1.0.0 c.loop-turn.invariant c.clip-k.ensures e

pub overflow_add-i : goal.overflow_add-i
overflow_add-i t c = omega (arith, (at_name c.in-Name.is c.loop-turn.invariant.turned).soon)

pub turn_of-turn-requires-in-Name : goal.turn_of-turn-requires-in-Name
turn_of-turn-requires-in-Name t c = c.loop-turn.invariant.ready

pub loop-turn-smaller-in-Name : goal.loop-turn-smaller-in-Name
loop-turn-smaller-in-Name t c = name_falls c.well_formed.1.1.1.1.1.0.0 c.loop-turn.invariant c.clip-k.ensures c.in-Name.is

pub loop-turn-preserved-in-Name : goal.loop-turn-preserved-in-Name
loop-turn-preserved-in-Name t c = name_more c.well_formed.1.1.1.1.1.0.0 c.loop-turn.invariant c.clip-k.ensures c.in-Name.is (c.put_name-m.ensures _ c.in-Name.is) c.put_name-m.auto.out c.sum-n.ensures c.indent_behind-at.ensures c.turn_of-turn-in-Name.ensures

pub parts_to_string-m2-requires : goal.parts_to_string-m2-requires
parts_to_string-m2-requires t c = (omega (arith, row_lighter c.well_formed.1.1.1.1.1.0.0 c.loop-turn.invariant c.clip-k.ensures c.in-Row.is, c.decreases), row_ready c.well_formed.1.1.1.1.1.0.0 c.loop-turn.invariant c.clip-k.ensures c.in-Row.is)

pub overflow_add-i-in-Row : goal.overflow_add-i-in-Row
overflow_add-i-in-Row t c = omega (arith, (at_row c.in-Row.is c.loop-turn.invariant.turned).soon)

pub turn_of-turn-requires-in-Row : goal.turn_of-turn-requires-in-Row
turn_of-turn-requires-in-Row t c = c.loop-turn.invariant.ready

pub loop-turn-smaller-in-Row : goal.loop-turn-smaller-in-Row
loop-turn-smaller-in-Row t c = row_falls c.well_formed.1.1.1.1.1.0.0 c.loop-turn.invariant c.clip-k.ensures c.in-Row.is

pub loop-turn-preserved-in-Row : goal.loop-turn-preserved-in-Row
loop-turn-preserved-in-Row t c = row_more c.well_formed.1.1.1.1.1.0.0 c.loop-turn.invariant c.clip-k.ensures c.in-Row.is c.open_part-m.ensures c.open_part-m.auto.out c.sum-n-in-Row.ensures c.clip-k2.ensures c.parts_to_string-m2.ensures c.parts_to_string-m2.auto.out c.sum-n-in-Row-2.ensures c.indent_behind-at-in-Row.ensures c.turn_of-turn-in-Row.ensures

pub turn_of-turn-requires-in-Last : goal.turn_of-turn-requires-in-Last
turn_of-turn-requires-in-Last t c = last_ready c.well_formed.1.1.1.1.1.0.0 c.loop-turn.invariant c.clip-k.ensures c.in-Last.is

pub loop-turn-smaller : goal.loop-turn-smaller
loop-turn-smaller t c = last_falls c.well_formed.1.1.1.1.1.0.0 c.loop-turn.invariant c.clip-k.ensures c.in-Last.is

pub loop-turn-preserved : goal.loop-turn-preserved
loop-turn-preserved t c = last_more c.well_formed.1.1.1.1.1.0.0 c.loop-turn.invariant c.clip-k.ensures c.in-Last.is c.open_part-m-in-Last.ensures c.open_part-m-in-Last.auto.out c.sum-n-in-Last.ensures c.sum-pending.ensures c.turn_of-turn-in-Last.ensures

pub returns-in-End : goal.returns-in-End
returns-in-End t c = finish c.well_formed.1.1.1.1.1.0.0 c.loop-turn.invariant c.clip-k.ensures c.in-End.is c.repeat-m.ensures c.sum.ensures
