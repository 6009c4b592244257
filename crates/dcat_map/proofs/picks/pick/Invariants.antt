use Rattle.std.proofs.Common.{◌≡◌, take}
use Rattle.std.specs.List.{filter_map}
use Rattle.std.specs.Option.{option_copied}
use Rattle.dcat_map.specs.Sets.{least}
use Rattle.dcat_map.specs.Terms.{term_cmp}
use Rattle.dcat_map.specs.Picks.{filled}
use Rattle.dcat_map.proofs.picks.pick.Given as goal

abbrev pub invariant-loop-triple : goal.invariant-loop-triple
invariant-loop-triple l =
    option_copied l.best ≡ least term_cmp (filter_map (λ t. filled t.object) (take l.triple-index l.triples))
