use Rattle.std.proofs.Common.{◌≡◌, ◌∙◌, Option, Some, None, ap, is_some, option_copied, refl}
use Rattle.std.specs.Borrow.{Bor}
use Rattle.datastore_table.specs.declared.row.Row.{Row}
use Rattle.datastore_table.proofs.LookupLemmas.{has_row_is}
use Rattle.datastore_table.proofs.rows.has_row.Goals as goal

copied_some : (found : Option (Bor Row)) → is_some found ≡ is_some (option_copied found)
copied_some None = refl
copied_some (Some row) = refl

pub returns : goal.returns
returns c =
    c.is_some.ensures ∙ copied_some c.row_at.result ∙ ap is_some c.row_at.ensures
    ∙ has_row_is c.args.id c.args.rows.now
