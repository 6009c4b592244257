use Rattle.std.proofs.Common.{refl}
use Rattle.harvest_sources.specs.Sources.{SourceWithRoom, source_cmp, stored_cmp}
use Rattle.harvest_stages.proofs.MapLemmas.{map-IsAscending}
use Rattle.harvest_stages.proofs.SourceLemmas.{dropped_so}
use Rattle.harvest_stages.proofs.commits.drop_source.Goals as goal

pub drop_at-requires : goal.drop_at-requires
drop_at-requires c =
    map-IsAscending (λ (s : SourceWithRoom). s.state) stored_cmp source_cmp (λ s t. refl) c.args.sources.now.items
    c.requires.ascending

pub returns-clause-changed : goal.returns-clause-changed
returns-clause-changed c =
    (dropped_so c.args.name.now c.args.sources.now.items c.drop_at.new.items.items c.requires c.drop_at.ensures.rest).0

pub returns-clause-sources : goal.returns-clause-sources
returns-clause-sources c =
    (dropped_so c.args.name.now c.args.sources.now.items c.drop_at.new.items.items c.requires c.drop_at.ensures.rest).1
