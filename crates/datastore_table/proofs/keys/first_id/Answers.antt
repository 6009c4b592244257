use Rattle.std.proofs.Common.{◌≡◌, ◌∙◌, ℕ, [], ap, ap₂, find}
use Rattle.std.specs.List.{list_any}
use Rattle.std.specs.Ordering.{nat_cmp}
use Rattle.digest_index.specs.Index.{entries_under, first_under}
use Rattle.digest_index.specs.declared.Further.{Further}
use Rattle.datastore_table.specs.Cells.{cells_at}
use Rattle.datastore_table.specs.Index.{digest_of}
use Rattle.datastore_table.specs.Keys.{is_key_at, is_key_under}
use Rattle.datastore_table.specs.Put.{id_of}
use Rattle.datastore_table.specs.Rows.{earlier}
use Rattle.datastore_table.proofs.FirstLemmas.{first_found}
use Rattle.datastore_table.proofs.keys.first_id.Goals as goal

pub returns : goal.returns
returns c =
    let keys = c.args.keys.now in
    let index = c.args.index.now in
    let cells = c.args.cells.now in
    let columns = c.args.columns.now in
    let digest : c.digest_at-digest.result ≡ digest_of [] (cells_at columns cells) = c.digest_at-digest.ensures in
    let first : c.first.result ≡ first_under (digest_of [] (cells_at columns cells)) index =
    c.first.ensures ∙ ap (λ d. first_under d index) digest in
    let further : c.further.result.now ≡ entries_under (digest_of [] (cells_at columns cells)) index.further =
    c.further.ensures ∙ ap (λ d. entries_under d index.further) digest in
    c.lesser.ensures
    ∙ ap₂ (earlier nat_cmp)
    (c.key_under.ensures ∙ ap (λ o. id_of (find (is_key_under columns cells o) keys)) first)
    (c.first_further.ensures
    ∙ ap (λ es. id_of (find (λ key. list_any (λ (e : Further ℕ). is_key_at columns cells e.number key) es) keys)) further)
    ∙ first_found columns cells keys index c.requires.found c.requires.some
