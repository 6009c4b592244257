use Rattle.std.proofs.Common.{◌≡◌, drop}
use Rattle.portal_base.specs.Kinds.{all_of}
use Rattle.portal_base.proofs.KindLemmas.{read_on}
use Rattle.datastore_query.specs.Filter.{filter_cell}
use Rattle.datastore_query.proofs.filter.filter_cells.Given as goal

abbrev pub invariant-loop-value : goal.invariant-loop-value
invariant-loop-value l =
    all_of (filter_cell l.kind) l.values ≡ read_on (filter_cell l.kind) l.cells.items (drop l.value-index l.values)
