use Rattle.std.proofs.Common.{◌≡◌, ◌∙◌, ℕ, [], false, ap, ap₂, sym}
use Rattle.std.specs.List.{list_any}
use Rattle.std.specs.Option.{option_map_or}
use Rattle.digest_index.specs.Index.{entries_under, first_under}
use Rattle.digest_index.specs.declared.Further.{Further}
use Rattle.datastore_table.specs.Index.{digest_of}
use Rattle.datastore_table.specs.KeySet.{is_key_number}
use Rattle.datastore_table.specs.Put.{has_key}
use Rattle.datastore_table.proofs.KeySetLemmas.{has_first, has_further}
use Rattle.datastore_table.proofs.key_set.KeySet.has.Goals as goal

pub returns-then-is_first : goal.returns-then-is_first
returns-then-is_first c =
    let keys = c.self.inside.keys.items in
    let key = c.args.key.now in
    let index = c.self.inside.index in
    let seen : option_map_or (is_key_number c.as_slice-keys.result.now key) c.first.result false
    ≡ option_map_or (is_key_number keys key) (first_under (digest_of [] key) index) false =
    ap₂ (λ ks o. option_map_or (is_key_number ks key) o false) c.as_slice-keys.ensures.value
    (c.first.ensures ∙ ap (λ d. first_under d index) c.cells_digest-digest.ensures) in
    c.if-is_first.true
    ∙ sym (has_first keys key index c.self.invariant (sym seen ∙ sym c.is_first.ensures ∙ c.if-is_first.true))
    ∙ ap (λ ks. has_key ks key) c.self.view_is

pub returns-else-is_first : goal.returns-else-is_first
returns-else-is_first c =
    let keys = c.self.inside.keys.items in
    let key = c.args.key.now in
    let index = c.self.inside.index in
    let seen : option_map_or (is_key_number c.as_slice-keys.result.now key) c.first.result false
    ≡ option_map_or (is_key_number keys key) (first_under (digest_of [] key) index) false =
    ap₂ (λ ks o. option_map_or (is_key_number ks key) o false) c.as_slice-keys.ensures.value
    (c.first.ensures ∙ ap (λ d. first_under d index) c.cells_digest-digest.ensures) in
    c.is_further.ensures
    ∙ ap₂ (λ ks es. list_any (λ (e : Further ℕ). is_key_number ks key e.number) es) c.as_slice-keys.ensures.value
    (c.further.ensures ∙ ap (λ d. entries_under d index.further) c.cells_digest-digest.ensures)
    ∙ sym (has_further keys key index c.self.invariant (sym seen ∙ sym c.is_first.ensures ∙ c.if-is_first.false))
    ∙ ap (λ ks. has_key ks key) c.self.view_is
