use Rattle.std.proofs.Common.{◌∙◌, ap}
use Rattle.datastore_answers.specs.Restrict.{is_referenced}
use Rattle.datastore_answers.specs.Tables.{Stored, tables_in, tables_of}
use Rattle.datastore_answers.proofs.RestrictLemmas.{any_in}
use Rattle.datastore_answers.proofs.tables.Tables.is_referenced.Goals as goal

pub returns : goal.returns
returns c =
    c.any_refers.ensures
    ∙ ap (is_referenced c.args.number) (rw c.as_slice.ensures.value at c.tables_in.ensures)
    ∙ any_in c.args.dataset.now c.args.number c.self.inside.tables.items
    ∙ ap (λ (s : Stored). is_referenced c.args.number (tables_in c.args.dataset.now (tables_of s))) c.self.view_is
