use Rattle.std.proofs.Common.{ℕ, ◌≤◌, ◌<◌, List, drop, rules, subst, sym, take}
use Rattle.std.specs.Prelude.{All}
use Rattle.std.proofs.lemmas.List.Sorted.{IsPartitionPoint-from_clause}
use Rattle.portal_keeper.specs.Rows.{kind_number}
use Rattle.portal_keeper.specs.declared.row.KeptRow.{KeptRow}
use Rattle.harvest_rows.proofs.KindLemmas.{back_after, front_up_to, is_up_to, kinds-partitioned}
use Rattle.harvest_rows.proofs.kept_parts.split_after.Goals as goal

pub returns-clause-front : goal.returns-clause-front
returns-clause-front c =
    let k = c.number-last.result in
    let rows = c.args.rows.now in
    let i = c.partition_point-index.result in
    let point = IsPartitionPoint-from_clause (is_up_to k) rows i c.partition_point-index.ensures.partitioned
    (kinds-partitioned k rows c.requires) (λ a r f called. search rules) in
    subst (λ (l : List KeptRow). All (λ (row : KeptRow). kind_number row.kind ≤ kind_number c.args.kind) l)
    (sym c.split_at.ensures.front)
    (subst (λ (n : ℕ). All (λ (row : KeptRow). kind_number row.kind ≤ n) (take i rows)) c.number-last.ensures
    (front_up_to k rows i point.0))

pub returns-clause-back : goal.returns-clause-back
returns-clause-back c =
    let k = c.number-last.result in
    let rows = c.args.rows.now in
    let i = c.partition_point-index.result in
    let point = IsPartitionPoint-from_clause (is_up_to k) rows i c.partition_point-index.ensures.partitioned
    (kinds-partitioned k rows c.requires) (λ a r f called. search rules) in
    subst (λ (l : List KeptRow). All (λ (row : KeptRow). kind_number c.args.kind < kind_number row.kind) l)
    (sym c.split_at.ensures.back)
    (subst (λ (n : ℕ). All (λ (row : KeptRow). n < kind_number row.kind) (drop i rows)) c.number-last.ensures
    (back_after k rows i point.1))
