use Rattle.std.proofs.Common.{◌≡◌, drop}
use Rattle.std.specs.Prelude.{option_map, find}
use Rattle.std.specs.Str.{bytes_eq}
use Rattle.packages.specs.Named.{resource_address}
use Rattle.packages.specs.Resources.{number_of_id}
use Rattle.packages.proofs.resource_list.number_of_id.Given as goal

-- none of the resources so far has the id
abbrev pub invariant-loop-resource : goal.invariant-loop-resource
invariant-loop-resource l =
    number_of_id l.dataset l.id
    ≡ option_map (λ resource. resource.number)
    (find (λ resource. bytes_eq (resource_address l.dataset.id resource.number) l.id)
    (drop l.resource-index l.resource-items))
