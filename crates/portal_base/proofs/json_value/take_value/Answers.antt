-- The value of the entry that was found is the first value of the key.
use Rattle.std.proofs.Common.{sym, ap, ◌∙◌}
use Rattle.portal_base.proofs.JsonFirst.{first_of-find, value_of_found}
use Rattle.portal_base.proofs.json_value.take_value.Goals as goal

pub returns-in-Some : goal.returns-in-Some
returns-in-Some c =
    sym (first_of-find c.args.key.now c.args.entries ∙ ap value_of_found (sym c.take_entry.ensures ∙ c.in-Some.is))

pub returns-in-None : goal.returns-in-None
returns-in-None c =
    sym (first_of-find c.args.key.now c.args.entries ∙ ap value_of_found (sym c.take_entry.ensures ∙ c.in-None.is))
