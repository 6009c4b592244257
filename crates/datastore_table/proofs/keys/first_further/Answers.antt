use Rattle.std.proofs.Common.{◌∙◌, ℕ, ap, ap₂, find, get_or, refl, sym}
use Rattle.std.proofs.lemmas.List.{get_or_default, take_all}
use Rattle.std.specs.List.{list_any}
use Rattle.std.specs.Ordering.{nat_cmp}
use Rattle.digest_index.specs.declared.Further.{Further}
use Rattle.datastore_table.specs.Keys.{is_key_at}
use Rattle.datastore_table.specs.Put.{id_of}
use Rattle.datastore_table.specs.Rows.{earlier}
use Rattle.datastore_table.proofs.FirstLemmas.{find_more}
use Rattle.datastore_table.proofs.Merged.{find-nothing}
use Rattle.datastore_table.proofs.keys.first_further.Goals as goal

pub loop-entry-init : goal.loop-entry-init
loop-entry-init c = sym (ap id_of (find-nothing _ c.args.keys.now (λ key m. refl)))

pub loop-entry-preserved : goal.loop-entry-preserved
loop-entry-preserved c =
    let columns = c.args.columns.now in
    let cells = c.args.cells.now in
    let further = c.args.further.now in
    let k = c.loop-entry.entry-index in
    let none : Further ℕ = record { digest = 0; number = 0 } in
    let entry = get_or further k none in
    c.lesser-first.ensures ∙ ap₂ (earlier nat_cmp) c.loop-entry.invariant c.key_at.ensures
    ∙ find_more (λ (e : Further ℕ) key. is_key_at columns cells e.number key) c.args.keys.now c.requires further k entry
    c.loop-entry-test.true (get_or_default further k entry none c.loop-entry-test.true)

pub returns : goal.returns
returns c =
    let columns = c.args.columns.now in
    let cells = c.args.cells.now in
    c.loop-entry.invariant
    ∙ ap (λ es. id_of (find (λ key. list_any (λ (e : Further ℕ). is_key_at columns cells e.number key) es)
    c.args.keys.now))
    (take_all c.loop-entry.entry-index c.args.further.now c.loop-entry-test.false)
