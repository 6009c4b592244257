use Rattle.std.proofs.Common.{◌∙◌}
use Rattle.std.specs.BTreeSet.{contains}
use Rattle.std.specs.Cmp.Lexicographic.{slice_cmp}
use Rattle.std.specs.Ordering.{nat_cmp}
use Rattle.harvest_records.specs.Names.{harvested_name}
use Rattle.harvest_sources.proofs.ListLemmas.{name_added}
use Rattle.harvest_sources.proofs.list.add_name.Goals as goal

pub returns-clause-names : goal.returns-clause-names
returns-clause-names c name =
    c.in_ok-is_new.ensures.updates.0 name
    ∙ name_added c.in_ok-name.name (harvested_name c.args.source.now c.args.iri.now) name
    (contains (slice_cmp nat_cmp) c.args.names.now name) c.in_ok-name.ensures
