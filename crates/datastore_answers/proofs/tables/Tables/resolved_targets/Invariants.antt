use Rattle.std.proofs.Common.{◌≡◌, ◌+◌, drop}
use Rattle.packages.specs.LocatedResource.{located_now}
use Rattle.datastore_answers.specs.Resolution.{resolved_targets, resolved_target}
use Rattle.datastore_answers.specs.Tables.{tables_in, tables_of}
use Rattle.datastore_table.proofs.ResultLemmas.{each_on}
use Rattle.datastore_answers.proofs.tables.Tables.resolved_targets.Given as goal

abbrev pub invariant-loop-index : goal.invariant-loop-index
invariant-loop-index l =
    let placed = located_now l.placed in
    let beside = tables_in l.placed.dataset.now.id (tables_of l.self) in
    resolved_targets placed beside l.schema
    ≡ each_on (λ index foreign. resolved_target placed beside l.schema (index + 1) foreign) l.index l.targets.items
    (drop l.index l.schema.foreign)
