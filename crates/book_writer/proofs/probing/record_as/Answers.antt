use native.Mathlib.Omega.{arith}
use denote.Bor.{Bor}
use mathlib.Core.Path.{refl, ap, ◌∙◌}
use Rattle.basics.specs.Text.{Text}
use Rattle.new_records.specs.Naming.{equals}
use Rattle.new_records.proofs.Names.{handed_on, trace_handed_on}
use Rattle.book_writer.specs.Coded.{probe_by}
use Rattle.book_writer.proofs.Additions.{append_as, probe_added, probe_whole, text_now}
use Rattle.book_writer.proofs.probing.record_as.Goals as goal

pub name_parts-parts-requires : goal.name_parts-parts-requires
unfolding equals
name_parts-parts-requires c = (omega (arith, c.count.ensures.is, c.requires.0.promise.letters_laid.few), rw (handed_on _ _ c.then_some.ensures, handed_on _ _ c.then_some-2.ensures) (omega (arith, c.probe_names-names.ensures.short, c.requires.1)))

pub probe_rows-rows-requires : goal.probe_rows-rows-requires
probe_rows-rows-requires c = (c.requires.0.promise, omega (arith, c.probe_names-names.ensures.low, c.requires.0.promise.names_laid.few))

pub append-requires : goal.append-requires
unfolding equals
append-requires c = (
  c.requires.0,
  probe_whole _ _ _ _ _ _ (probe_added _ _ _ _ _ _ _ c.count.ensures.is c.probe_names-names.ensures (handed_on _ _ c.then_some.ensures) (handed_on _ _ c.then_some-2.ensures)
      (trace_handed_on _ c.probe_names-names.ensures c.then_some-3.ensures c.flatten-new.ensures) c.name_parts-parts.ensures (ap (λ (t : Bor Text). t.now) c.unwrap_or.ensures ∙ text_now c.flatten-new.result _ refl)
      c.probe_rows-rows.ensures c.as_slice.ensures.value c.as_slice-2.ensures.value c.as_slice-3.ensures.value),
)

pub returns : goal.returns
unfolding probe_by equals
returns c = append_as _ _ _ (probe_added _ _ _ _ _ _ _ c.count.ensures.is c.probe_names-names.ensures (handed_on _ _ c.then_some.ensures) (handed_on _ _ c.then_some-2.ensures)
    (trace_handed_on _ c.probe_names-names.ensures c.then_some-3.ensures c.flatten-new.ensures) c.name_parts-parts.ensures (ap (λ (t : Bor Text). t.now) c.unwrap_or.ensures ∙ text_now c.flatten-new.result _ refl)
    c.probe_rows-rows.ensures c.as_slice.ensures.value c.as_slice-2.ensures.value c.as_slice-3.ensures.value) c.next_node.ensures c.append.ensures
