use Rattle.std.proofs.Common.{◌∙◌, ◌&&◌, ap, ap₂, find, not, refl, sym}
use Rattle.std.proofs.lemmas.List.{take_all}
use Rattle.std.specs.List.{list_any}
use Rattle.std.specs.Ordering.{nat_cmp}
use Rattle.datastore_table.specs.declared.row.Row.{Row}
use Rattle.datastore_table.specs.Batch.{is_among, refers_to}
use Rattle.datastore_table.specs.Put.{id_of}
use Rattle.datastore_table.specs.Rows.{earlier}
use Rattle.datastore_table.proofs.DeleteLemmas.{first_staying}
use Rattle.datastore_table.proofs.FirstLemmas.{find_more}
use Rattle.datastore_table.proofs.Merged.{find-nothing}
use Rattle.datastore_table.proofs.removal.first_referred.Goals as goal

pub loop-row-init : goal.loop-row-init
loop-row-init c = sym (ap id_of (find-nothing _ c.args.keys.now (λ key m. refl)))

pub loop-row-preserved : goal.loop-row-preserved
loop-row-preserved c =
    let columns = c.args.columns.now in
    let ids = c.args.ids.now in
    c.lesser-first.ensures ∙ ap₂ (earlier nat_cmp) c.loop-row.invariant c.referred_id.ensures
    ∙ find_more (λ (row : Row) (key : Row). not (is_among ids row.id) && refers_to columns key row) c.args.keys.now
    c.requires.ascending c.args.rows.now c.loop-row.row-index c.row-item.result c.loop-row-test.true
    (sym c.row-item.is)

pub returns : goal.returns
returns c =
    let columns = c.args.columns.now in
    let ids = c.args.ids.now in
    c.loop-row.invariant
    ∙ ap (λ rows. id_of (find (λ key. list_any (λ row. not (is_among ids row.id) && refers_to columns key row) rows)
    c.args.keys.now)) (take_all c.loop-row.row-index c.args.rows.now c.loop-row-test.false)
    ∙ sym (first_staying columns ids c.args.keys.now c.args.rows.now)
