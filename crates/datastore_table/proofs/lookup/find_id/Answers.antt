-- If the first number of the digest doesn't match, the further ones are searched.
use Rattle.std.proofs.Common.{◌≡◌, ◌∙◌, map, subst, sym, inl, inr, Contains}
use Rattle.digest_index.specs.Index.{IsUnder}
use Rattle.datastore_table.specs.Index.{digest_of, has_cells_at, lookup_cells}
use Rattle.datastore_table.proofs.LookupLemmas.{find_IfSome, find_IfNone, IfNone_from}
use Rattle.datastore_table.proofs.lookup.find_id.Goals as goal

pub returns-in-None-clause-found : goal.returns-in-None-clause-found
returns-in-None-clause-found c =
    find_IfSome (has_cells_at c.args.columns.now (lookup_cells c.args.lookup_key) c.args.rows.now)
    (map (λ e. e.number) c.further.result.now) c.find_further.result c.find_further.ensures

pub returns-in-None-clause-none : goal.returns-in-None-clause-none
returns-in-None-clause-none c =
    let own = digest_of c.args.columns.now (lookup_cells c.args.lookup_key) in
    let digest : c.digest-digest.result ≡ own = c.digest-digest.ensures in
    IfNone_from c.find_further.result _ _
    (find_IfNone (has_cells_at c.args.columns.now (lookup_cells c.args.lookup_key) c.args.rows.now)
    (map (λ e. e.number) c.further.result.now) c.find_further.result c.find_further.ensures)
    (λ beside id under.
    elim (subst (λ d. IsUnder c.args.index.now d id) (sym digest) under) [
      | inl first ↦ c.in-None.ensures.none id (c.first.ensures ∙ first)
      | inr further ↦ beside id
          (subst (λ es. Contains (map (λ e. e.number) es) id) (sym c.further.ensures) further)
    ])
