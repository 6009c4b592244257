use Rattle.std.proofs.Common.{◌∙◌, ap, find, sym}
use Rattle.datastore_table.specs.Keys.{is_key_of}
use Rattle.datastore_table.specs.Put.{id_of}
use Rattle.datastore_table.proofs.FirstLemmas.{referred_first, referred_none, referred_some}
use Rattle.datastore_table.proofs.removal.referred_id.Goals as goal

pub first_id-requires-clause-some : goal.first_id-requires-clause-some
first_id-requires-clause-some c =
    referred_some c.args.columns.now c.args.ids.now c.args.row.now (sym c.does_refer.ensures ∙ c.if-does_refer.true)

pub returns-then-does_refer : goal.returns-then-does_refer
returns-then-does_refer c =
    let columns = c.args.columns.now in
    let keys = c.args.keys.now in
    c.first_id.ensures ∙ ap (λ cells. id_of (find (is_key_of columns cells) keys)) c.as_slice.ensures
    ∙ sym (ap id_of (referred_first columns c.args.ids.now c.args.row.now keys
    (sym c.does_refer.ensures ∙ c.if-does_refer.true)))

pub returns-else-does_refer : goal.returns-else-does_refer
returns-else-does_refer c =
    sym (ap id_of (referred_none c.args.columns.now c.args.ids.now c.args.row.now c.args.keys.now
    (sym c.does_refer.ensures ∙ c.if-does_refer.false)))
