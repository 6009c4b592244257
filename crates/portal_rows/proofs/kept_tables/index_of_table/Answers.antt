use Rattle.std.proofs.Common.{rules, ◌∙◌}
use Rattle.std.specs.Cmp.Lexicographic.{slice_cmp}
use Rattle.std.specs.Ordering.{nat_cmp}
use Rattle.std.proofs.lemmas.Cmp.{nat_list_cmp_total}
use Rattle.std.proofs.lemmas.Fn.{always_returns_same}
use Rattle.portal_base.specs.Ordered.{IsKey-field, IsMonotone-field}
use Rattle.portal_base.proofs.Halved.{position_by_halving}
use Rattle.portal_rows.specs.KeptValues.{kept_table_cmp, kept_table_cmp_total}
use Rattle.portal_rows.specs.TableRows.{resource_of_key}
use Rattle.portal_rows.specs.declared.kept_tables.KeptTable.{KeptTable}
use Rattle.portal_rows.proofs.kept_tables.index_of_table.Goals as goal

pub returns-clause-index : goal.returns-clause-index
returns-clause-index c =
    let key = resource_of_key c.args.key.now in
    c.ok.ensures.value
    ∙ position_by_halving kept_table_cmp kept_table_cmp_total (λ (t : KeptTable). slice_cmp nat_cmp t.resource key)
    (IsKey-field (λ (t : KeptTable). t.resource) nat_list_cmp_total key)
    (IsMonotone-field (λ (t : KeptTable). t.resource) nat_list_cmp_total key) c.args.tables.now c.requires
    c.binary_search_by.result c.binary_search_by.ensures.bound
    (c.binary_search_by.ensures.position (λ (t : KeptTable). slice_cmp nat_cmp t.resource key)
    (always_returns_same _ _ _ (λ a r f called. search rules)))
