use Rattle.std.proofs.Common.{◌∙◌, List, ap, subst, sym}
use Rattle.std.specs.List.{list_any}
use Rattle.portal_base.specs.Ordered.{IsAscending}
use Rattle.portal_base.proofs.Unique.{IsIn}
use Rattle.datastore_table.specs.declared.row.Row.{Row}
use Rattle.datastore_table.specs.Batch.{is_among}
use Rattle.datastore_table.specs.Rows.{has_id, row_cmp}
use Rattle.datastore_table.proofs.draft.Draft.new.Goals as goal

pub returns-clause-draft : goal.returns-clause-draft
returns-clause-draft c = record {
  ascending = subst (IsAscending row_cmp) (sym c.new.ensures) tt;
  those = λ id. ap (list_any (has_id id)) c.new.ensures ∙ sym (ap (λ ids. is_among ids id) c.new-3.ensures.items);
  indexed = λ columns m row n. absurd (subst (λ (rs : List Row). IsIn row rs) c.new.ensures n);
}
