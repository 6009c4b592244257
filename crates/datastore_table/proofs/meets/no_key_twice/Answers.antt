use Rattle.std.proofs.Common.{◌≡◌, ◌∙◌, ℕ, List, not, ap, subst, sym}
use Rattle.std.specs.List.{list_any}
use Rattle.digest_index.specs.declared.Further.{Further}
use Rattle.datastore_table.specs.Index.{is_twice, IsIndexedAt}
use Rattle.datastore_table.specs.Meets.{are_apart, has_key_of}
use Rattle.datastore_table.proofs.RestoredLemmas.{keys_colliding}
use Rattle.datastore_table.proofs.meets.no_key_twice.Goals as goal

pub returns : goal.returns
returns c =
    let key = c.args.key.now in
    let rows = c.args.rows.now in
    let index = c.args.index.now in
    let is : key ≡ c.args.schema.now.key = c.requires.key in
    ap not (c.is_any_key_twice.ensures ∙ ap (list_any (λ (e : Further ℕ). is_twice (has_key_of key) rows e.number)) c.colliding.ensures)
    ∙ subst (λ (k : List ℕ). not (list_any (λ (e : Further ℕ). is_twice (has_key_of k) rows e.number) index.further)
    ≡ are_apart (has_key_of k) rows) (sym is)
    (keys_colliding c.args.schema.now rows index c.requires.ascending c.requires.met
    (subst (λ (k : List ℕ). IsIndexedAt k rows index) is c.requires.indexed))
