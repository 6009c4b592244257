use Rattle.std.proofs.Common.{◌∙◌, ap, rules}
use Rattle.std.specs.Prelude.{filter, nat_le}
use Rattle.std.proofs.lemmas.Fn.{filter_same}
use Rattle.facets.specs.Counts.{Facet}
use Rattle.facets.specs.Items.{up_to}
use Rattle.facets.proofs.items.facet_items.Goals as goal

pub returns : goal.returns
returns c =
    c.from.ensures ∙ c.truncate.ensures
    ∙ ap (up_to c.args.limit)
    (filter_same _ (λ item. nat_le c.args.mincount item.1) _ (λ x b f h. search rules) _ _ c.retain.ensures.filtered
    ∙ ap (filter (λ (item : Facet). nat_le c.args.mincount item.1)) c.into_vec-items.ensures)
