-- The organizations that own the sources of harvests. An organization that owns a source can't be removed.
use Rattle.std.specs.Prelude.{ℕ, List, Bool, map, filter}
use Rattle.std.specs.List.{list_any}
use Rattle.std.specs.Str.{bytes_eq}
use Rattle.portal_base.specs.declared.caller.Caller.{Caller}
use Rattle.org_roles.specs.PeopleLists.{PeopleLists}
use Rattle.visibility.specs.View.{administers}
use Rattle.visibility.specs.CallView.{context_view}
use Rattle.visibility.specs.declared.context.CallContext.{CallContext}
use Rattle.harvest_sources.specs.Sources.{SourceState, SourceWithRoom, states}

-- the organizations that own these sources
abbrev pub owners_of : List SourceState → List (List ℕ)
owners_of sources = map (λ s. s.source.owner_org) sources

-- those of the owners that the caller administers
abbrev pub owners_seen : Caller → PeopleLists → List (List ℕ) → List (List ℕ)
owners_seen caller people owners = filter (administers people caller) owners

-- those of the owners of these sources that the viewer of a call's context administers
abbrev pub owners_for : CallContext → List SourceWithRoom → List (List ℕ)
owners_for context sources =
    owners_seen context.viewer.caller (context_view context).people (owners_of (states sources))

-- the organization owns a source
abbrev pub owns_source : List ℕ → List (List ℕ) → Bool
owns_source org owners = list_any (λ owner. bytes_eq owner org) owners
