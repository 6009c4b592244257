use Rattle.std.proofs.Common.{◌≡◌, ◌<◌, true, false, length, get_or, ap, sym, ◌∙◌, arith}
use Rattle.std.specs.Ordering.{is_eq}
use Rattle.std.proofs.lemmas.List.{get_or_default}
use Rattle.portal_base.proofs.Upserted.{upserted_at, inserted_at}
use Rattle.datastore_answers.specs.Order.{table_cmp, table_cmp_total}
use Rattle.datastore_answers.proofs.TableLemmas.{at}
use Rattle.datastore_answers.proofs.table_index.find_index.Goals as goal
use Rattle.datastore_answers.proofs.table_index.find_index.Goals.{
  else-index-tables-via-then-index-tables+else-is_eq,
  else-index-tables-via-else-index-tables,
}

pub returns-then-is_eq-clause-index : goal.returns-then-is_eq-clause-index
returns-then-is_eq-clause-index c =
    let x = at (record { dataset = c.args.dataset.now; number = c.args.number }) in
    let like : is_eq (table_cmp c.index-tables-index.result x) ≡ true =
    ap is_eq (sym c.compare_address.ensures) ∙ sym c.is_eq.ensures ∙ c.if-is_eq.true in
    (upserted_at table_cmp table_cmp_total x c.args.tables.now c.requires
    c.lower_bound-index.result c.lower_bound-index.ensures.index c.if-index-tables.true c.index-tables-index.result
    c.index-tables-index.is like).0

pub returns-else-index-tables-clause-index : goal.returns-else-index-tables-clause-index
returns-else-index-tables-clause-index c =
    let x = at (record { dataset = c.args.dataset.now; number = c.args.number }) in
    let ts = c.args.tables.now in
    let unlike : c.lower_bound-index.result < length ts
    → is_eq (table_cmp (get_or ts c.lower_bound-index.result x) x) ≡ false =
    elim c.else-index-tables.branch [
      | else-index-tables-via-then-index-tables+else-is_eq w ↦ λ within.
          ap (λ there. is_eq (table_cmp there x))
          (get_or_default ts c.lower_bound-index.result x w.index-tables-index.result within
          ∙ sym w.index-tables-index.is)
          ∙ ap is_eq (sym w.compare_address.ensures) ∙ sym w.is_eq.ensures ∙ w.if-is_eq.false
      | else-index-tables-via-else-index-tables w ↦ λ within. absurd (omega arith)
    ] in
    (inserted_at table_cmp table_cmp_total x ts c.requires c.lower_bound-index.result
    c.lower_bound-index.ensures.index unlike).0
