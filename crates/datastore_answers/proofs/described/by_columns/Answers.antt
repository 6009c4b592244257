use Rattle.std.proofs.Common.{◌≡◌, ◌∙◌, [], None, ap}
use Rattle.std.specs.Prelude.{codes, unwrap_or}
use Rattle.packages.specs.LocatedResource.{located_now}
use Rattle.portal_base.specs.KeyErrors.{read_value}
use Rattle.portal_base.specs.Kinds.{present, texts_at}
use Rattle.datastore_answers.specs.Described.{by_fields, descriptor_of, names_or_none, table_of_descriptor}
use Rattle.datastore_answers.specs.Tables.{tables_in, tables_of}
use Rattle.datastore_answers.proofs.CreateLemmas.{described-same, names-read}
use Rattle.datastore_answers.proofs.described.by_columns.Goals as goal

pub returns : goal.returns
returns c =
    let placed = located_now c.args.placed.now in
    let beside = tables_in c.args.placed.now.dataset.now.id (tables_of c.args.tables.now) in
    let given = texts_at (codes "primary_key") c.args.body.now in
    let key : c.as_slice.result.now ≡ names_or_none given =
    c.as_slice.ensures
    ∙ c.names_or_none-key.ensures
    ∙ ap (λ read. unwrap_or (unwrap_or read None) []) (c.in_ok-check.ensures.value ∙ ap read_value c.in_ok-read.ensures)
    ∙ names-read given in
    described-same c.by_fields.result _ _
    (ap (by_fields given (present (codes "schema") c.args.body.now))
    (c.in_ok-described.ensures
    ∙ ap (table_of_descriptor placed beside) (c.in_ok-descriptor.ensures ∙ ap (descriptor_of c.args.items.now) key)))
    c.by_fields.ensures
