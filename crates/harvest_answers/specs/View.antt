-- A caller's view of the sources of harvests, and who may create one.
use Rattle.std.specs.Prelude.{Bool, ◌||◌, if◌then◌else◌, List, map, filter, Option, Some, None}
use Rattle.std.specs.List.{list_any}
use Rattle.portal_base.specs.declared.caller.Caller.{Caller}
use Rattle.org_roles.specs.PeopleLists.{PeopleLists, is_sysadmin_in}
use Rattle.visibility.specs.View.{administers}
use Rattle.visibility.specs.declared.context.CallContext.{CallContext}
use Rattle.harvest_sources.specs.Sources.{SourceState, SourceWithRoom, states}

-- ---- sources

-- Who administers a source's organization sees the source and its jobs. Nobody else does.
abbrev pub sees_source : PeopleLists → Caller → SourceState → Bool
sees_source people caller s = administers people caller s.source.owner_org

-- What the source's catalogue lists is for the harvest alone, and no caller sees it.
abbrev pub without_listing : SourceState → SourceState
without_listing s = record s { listing = None }

-- the sources that the caller sees, in the same order
abbrev pub sources_seen : Caller → PeopleLists → List SourceState → List SourceState
sources_seen caller people sources = map without_listing (filter (sees_source people caller) sources)

-- a source as the caller sees it, if it does
abbrev pub seen_part : PeopleLists → Caller → SourceState → Option SourceState
seen_part people caller s = if sees_source people caller s then Some (without_listing s) else None

-- a source as the caller sees it, whatever room it has
abbrev pub seen_state : SourceWithRoom → SourceState
seen_state s = without_listing s.state

-- the sources that the viewer of a call's context sees
abbrev pub sources_for : CallContext → List SourceWithRoom → List SourceState
sources_for context sources = sources_seen context.viewer.caller context.viewer.people (states sources)

-- ---- the right to create a source

-- the caller is a sysadmin, or administers some organization
abbrev pub administers_somewhere : PeopleLists → Caller → Bool
administers_somewhere people caller =
    is_sysadmin_in people caller || list_any (λ org. administers people caller org.name) people.orgs
