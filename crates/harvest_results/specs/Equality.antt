-- Whether two datasets are equal.
use Rattle.std.specs.Prelude.{ℕ, Bool, ◌&&◌, List, [], ◌∷◌, nat_eq}
use Rattle.std.specs.Cmp.Lexicographic.{pointwise}
use Rattle.std.specs.Ordering.{int_eq}
use Rattle.std.specs.Str.{bytes_eq}
use Rattle.std.proofs.Math.Bool.{beq}
use Rattle.packages.specs.State.{state_name}
use Rattle.packages.specs.declared.package.Package.{Package}
use Rattle.packages.specs.declared.package.Resource.{Resource}

-- the texts of a resource
abbrev pub resource_texts : Resource → List (List ℕ)
resource_texts r = r.name ∷ r.url ∷ r.format ∷ r.description ∷ r.mimetype ∷ []

-- The resources have equal values in all fields.
abbrev pub equal_resources : Resource → Resource → Bool
equal_resources r s = nat_eq r.number s.number && pointwise bytes_eq (resource_texts r) (resource_texts s)

-- the texts of a dataset, with the name of its state
abbrev pub dataset_texts : Package → List (List ℕ)
dataset_texts d =
    d.id ∷ d.name ∷ d.title ∷ d.notes ∷ d.author ∷ d.maintainer ∷ d.license_id ∷ d.url ∷ d.version ∷ d.owner_org
    ∷ d.creator ∷ d.source ∷ d.iri ∷ state_name d.state ∷ []

-- The datasets have equal values in all fields.
abbrev pub equal_datasets : Package → Package → Bool
equal_datasets d e =
    pointwise bytes_eq (dataset_texts d) (dataset_texts e)
    && (beq d.private e.private
    && (pointwise bytes_eq d.tags e.tags
    && (pointwise equal_resources d.resources e.resources
    && (nat_eq d.next_resource e.next_resource && (int_eq d.created e.created && int_eq d.modified e.modified)))))
