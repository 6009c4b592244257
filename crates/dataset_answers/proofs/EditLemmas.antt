-- Edits of datasets.
use Rattle.std.proofs.Common.{◌≡◌, ap, refl}
use Rattle.packages.specs.declared.package.Package.{Package}
use Rattle.dataset_answers.specs.Edits.{Origin, edit_of, edited, origin_of}

-- An edit to what another dataset of the same id, name and origin has makes that dataset.
pub edited-same : (old new : Package) → old.id ≡ new.id → old.name ≡ new.name → origin_of old ≡ origin_of new
    → edited (edit_of new) old ≡ new
edited-same old new id name origin =
    rw (
      id,
      name,
      ap (λ (o : Origin). o.owner_org) origin,
      ap (λ (o : Origin). o.creator) origin,
      ap (λ (o : Origin). o.created) origin,
      ap (λ (o : Origin). o.source) origin,
      ap (λ (o : Origin). o.iri) origin,
    ) refl
