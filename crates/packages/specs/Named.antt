-- The names of datasets and the addresses of resources.
use Rattle.std.specs.Prelude.{ℕ, List, [], ◌∷◌, ◌++◌, Bool, ◌||◌, ◌==◌, if◌then◌else◌, decimal, is_some, slice_get}
use Rattle.std.specs.Prelude.{Option, Some, None, option_map, option_and_then, find, position}
use Rattle.std.specs.Option.{option_or}
use Rattle.std.specs.Str.{bytes_eq}
use Rattle.packages.specs.declared.package.Package.{Package}
use Rattle.packages.specs.declared.package.Resource.{Resource}

-- the dataset has this id or this name
abbrev pub is_named : List ℕ → Package → Bool
is_named key dataset = bytes_eq dataset.id key || bytes_eq dataset.name key

-- a resource's address, by an id or a name of its dataset: that text, a dot and the resource's number
abbrev pub resource_address : List ℕ → ℕ → List ℕ
resource_address dataset number = dataset ++ 46 ∷ decimal number

-- what precedes an address's last dot: the id or the name of its dataset
abbrev pub dataset_part : List ℕ → Option (List ℕ)
dataset_part [] = None
dataset_part (c ∷ rest) =
    option_or (option_map (λ part. c ∷ part) (dataset_part rest)) (if c == 46 then Some [] else None)

-- the address is that of the dataset's resource, by the dataset's id or by its name
abbrev pub is_addressed : List ℕ → Package → Resource → Bool
is_addressed address dataset resource =
    bytes_eq (resource_address dataset.id resource.number) address
    || bytes_eq (resource_address dataset.name resource.number) address

-- the position of the dataset's first resource with that address
abbrev pub position_of : List ℕ → Package → Option ℕ
position_of address dataset = position (is_addressed address dataset) dataset.resources

-- the dataset has a resource with that address
abbrev pub has_address : List ℕ → Package → Bool
has_address address dataset = is_some (position_of address dataset)

-- a resource, with its dataset and its position in the dataset's list of resources, from 0
pub record Located : Type 0 where
  pub dataset : Package
  pub position : ℕ
  pub resource : Resource

-- the dataset's resource at the position
abbrev pub located_at : Package → ℕ → Option Located
located_at dataset position =
    option_map (λ resource. record { dataset = dataset; position = position; resource = resource })
    (slice_get dataset.resources position)

-- the dataset's first resource with that address
abbrev pub resource_in : List ℕ → Package → Option Located
resource_in address dataset = option_and_then (located_at dataset) (position_of address dataset)

-- the resource with that address in the first of the datasets that has one
abbrev pub resource_named : List Package → List ℕ → Option Located
resource_named datasets address = option_and_then (resource_in address) (find (has_address address) datasets)
