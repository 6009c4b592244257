-- Whoever administers an organization sees whether it owns a source.
use Rattle.std.proofs.Common.{◌≡◌, ℕ, true, ◌||◌, List, [], ◌∷◌, refl, sym, ap, ◌∙◌}
use Rattle.std.specs.Prelude.{IsTrue}
use Rattle.std.specs.List.{list_any}
use Rattle.std.specs.Str.{bytes_eq}
use Rattle.std.proofs.lemmas.Map.Views.{any-filter_same}
use Rattle.std.proofs.lemmas.Slice.Eq.{bytes_eq-Decides}
use Rattle.portal_base.specs.declared.caller.Caller.{Caller}
use Rattle.org_roles.specs.PeopleLists.{PeopleLists}
use Rattle.visibility.specs.View.{administers}
use Rattle.harvest_sources.specs.Sources.{SourceWithRoom, states}
use Rattle.organization_answers.specs.Owners.{owners_of, owners_seen, owns_source}

-- the owner of a source in memory is one of the owners
owner_among : (org : List ℕ) (sources : List SourceWithRoom)
    → list_any (λ s. bytes_eq s.state.source.owner_org org) sources ≡ owns_source org (owners_of (states sources))
owner_among org [] = refl
owner_among org (s ∷ ss) = ap (λ b. bytes_eq s.state.source.owner_org org || b) (owner_among org ss)

-- An organization that the caller administers owns a source that the caller sees just if it owns one at all.
owns_source_administered : (caller : Caller) (people : PeopleLists) (org : List ℕ) (owners : List (List ℕ))
    → IsTrue (administers people caller org)
    → owns_source org (owners_seen caller people owners) ≡ owns_source org owners
owns_source_administered caller people org owners own =
    any-filter_same (λ (owner : List ℕ). bytes_eq owner org) (administers people caller) true
    (λ owner same. ap (administers people caller) ((bytes_eq-Decides owner org).0 same) ∙ own) owners

-- The same, of the sources in memory.
pub owns_source_seen : (caller : Caller) (people : PeopleLists) (org : List ℕ) (sources : List SourceWithRoom)
    → IsTrue (administers people caller org)
    → owns_source org (owners_seen caller people (owners_of (states sources)))
    ≡ list_any (λ s. bytes_eq s.state.source.owner_org org) sources
owns_source_seen caller people org sources own =
    owns_source_administered caller people org (owners_of (states sources)) own ∙ sym (owner_among org sources)
