use Rattle.std.proofs.Common.{◌∙◌, ap, sym}
use Rattle.std.specs.Prelude.{slice_get}
use Rattle.datastore_query.proofs.FieldNameLemmas.{found_at, found_none}
use Rattle.datastore_query.proofs.field_names.FieldNames.find.Goals as goal

pub returns-in-Some : goal.returns-in-Some
returns-in-Some c =
    c.field_at.ensures ∙ ap (λ fields. slice_get fields c.in-Some.index) c.as_slice.ensures
    ∙ found_at _ c.args.self.now c.in-Some.index (sym c.in-Some.ensures)

pub returns-in-None : goal.returns-in-None
returns-in-None c = found_none _ c.args.self.now (sym c.in-None.ensures)
