use Rattle.std.proofs.Common.{refl}
use Rattle.harvest_sources.specs.Sources.{SourceWithRoom, source_cmp, stored_cmp}
use Rattle.harvest_stages.proofs.ChangeLemmas.{put_so}
use Rattle.harvest_stages.proofs.MapLemmas.{map-IsAscending}
use Rattle.harvest_stages.proofs.commits.put_source.Goals as goal

pub replace_or_put-requires-clause-ascending : goal.replace_or_put-requires-clause-ascending
replace_or_put-requires-clause-ascending c =
    map-IsAscending (λ (s : SourceWithRoom). s.state) stored_cmp source_cmp (λ s t. refl) c.args.sources.now.items
    c.requires.sources.ascending

pub returns-clause-changed : goal.returns-clause-changed
returns-clause-changed c =
    (put_so c.args.sources.now.items c.replace_or_put.new.items.items c.new-source.result c.args.source
    c.requires.sources c.new-source.ensures c.requires.named c.requires.free c.replace_or_put.ensures.items).0

pub returns-clause-sources : goal.returns-clause-sources
returns-clause-sources c =
    (put_so c.args.sources.now.items c.replace_or_put.new.items.items c.new-source.result c.args.source
    c.requires.sources c.new-source.ensures c.requires.named c.requires.free c.replace_or_put.ensures.items).1
