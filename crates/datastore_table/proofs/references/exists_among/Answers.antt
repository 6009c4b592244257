use Rattle.std.proofs.Common.{◌≡◌, ◌∙◌, ap, not, rules, sym, true}
use Rattle.lexical_forms.specs.Digits.{is_empty}
use Rattle.datastore_table.proofs.LookupLemmas.{none_without_key}
use Rattle.datastore_table.proofs.references.exists_among.Goals as goal

pub returns-else-not-is_empty : goal.returns-else-not-is_empty
returns-else-not-is_empty c =
    let none : is_empty c.args.key.now ≡ true = search rules in
    ap not c.if-not-is_empty.false
    ∙ sym (none_without_key c.args.key.now c.args.columns.now c.args.row.now c.args.written.now c.args.rows.now none
    c.requires.refers)
