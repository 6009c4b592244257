use Rattle.std.proofs.Common.{◌≡◌, take}
use Rattle.std.specs.List.{filter_map}
use Rattle.std.specs.Option.{option_copied}
use Rattle.dcat_map.specs.Sets.{least}
use Rattle.dcat_map.specs.Terms.{text_cmp}
use Rattle.dcat_map.specs.Picks.{name_or_text}
use Rattle.dcat_map.proofs.picks.least_named.Given as goal

abbrev pub invariant-loop-triple : goal.invariant-loop-triple
invariant-loop-triple l =
    option_copied l.best
    ≡ least text_cmp (filter_map (λ t. name_or_text t.object) (take l.triple-index l.triples))
