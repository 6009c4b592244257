-- The bodies of calls on sources and jobs: their errors, and the sources that they describe. The keys are those of
-- CKAN's ckanext-harvest. The bounds and the messages are the portal's own.
use Rattle.std.specs.Prelude.{ℕ, List, [], ◌∷◌, codes, Bool, not, ◌&&◌, ◌||◌, is_some}
use Rattle.std.specs.Prelude.{Option, option_map, option_and_then, unwrap_or, Result}
use Rattle.std.specs.Char.{is_control, is_whitespace}
use Rattle.std.specs.List.{list_any}
use Rattle.std.specs.Str.{chars}
use Rattle.portal_base.specs.declared.json_value.Json.{Json}
use Rattle.portal_base.specs.declared.kinds.KindFault.{KindFault}
use Rattle.portal_base.specs.KeyErrors.{KeyError, error_if, found_value, kind_message, read_value, text_error}
use Rattle.portal_base.specs.KeyErrors.{with_rule_errors}
use Rattle.portal_base.specs.Kinds.{is_nonempty, short_text_at}
use Rattle.portal_base.specs.Name.{name_fault, name_fault_message}
use Rattle.org_roles.specs.PeopleLists.{PeopleLists, org_in}
use Rattle.org_roles.specs.declared.entry.Org.{Org}
use Rattle.packages.specs.Errors.{message_unless, optional_error}
use Rattle.packages.specs.Texts.{or_name, text_given}
use Rattle.portal_calls.specs.Answer.{required_text, required_value}
use Rattle.harvest_sources.specs.Sources.{SourceState, open_job}
use Rattle.harvest_sources.specs.declared.source.HarvestSource.{HarvestSource}

-- ---- the name

-- The most characters of a source's name. The name of a harvested dataset begins with `hv-`, the source's name and `-`,
-- and ends with 40 digits: so it has at most 100 characters, as many as a dataset's name may have.
abbrev pub longest_source_name : ℕ
longest_source_name = 56

-- the error of a text that has to be the name of a source
abbrev pub source_name_error : List ℕ → Option (List ℕ)
source_name_error text = option_map (name_fault_message longest_source_name) (name_fault text longest_source_name)

-- ---- the organization

-- the organization that the body gives, if there is one of that name
abbrev pub organization_given : PeopleLists → Json → Option Org
organization_given people body = option_and_then (org_in people) (text_given (codes "owner_org") body)

-- the error of a text that has to be the name of an organization
abbrev pub organization_error : PeopleLists → List ℕ → Option (List ℕ)
organization_error people name = message_unless (is_some (org_in people name)) (codes "Organization does not exist")

-- ---- the title

abbrev pub title_read : Json → Result (Option (List ℕ)) KindFault
title_read body = short_text_at 2000 (codes "title") body

-- The title that the body gives to the source of this name. An empty one is the name, and where none is given it is
-- `kept`.
abbrev pub title_or : List ℕ → List ℕ → Json → List ℕ
title_or kept name body = unwrap_or (option_map (or_name name) (found_value (title_read body))) kept

-- ---- the location

abbrev pub location_read : Json → Result (Option (List ℕ)) KindFault
location_read body = short_text_at 2000 (codes "url") body

-- white space (Unicode's White_Space), or a control character (Unicode's general category Cc)
abbrev pub is_space_or_control : ℕ → Bool
is_space_or_control c = is_whitespace c || is_control c

-- The text isn't empty, and has neither white space nor control characters.
abbrev pub is_location : List ℕ → Bool
is_location text = is_nonempty text && not (list_any is_space_or_control (chars text))

-- the error of a text that has to be where a catalogue's document is
abbrev pub location_error : List ℕ → Option (List ℕ)
location_error text = message_unless (is_location text) (codes "Must be a location")

-- ---- a new source

abbrev pub creation_errors : PeopleLists → Json → List KeyError
creation_errors people body =
    with_rule_errors (
    (codes "name", text_error source_name_error (required_text (codes "name") body))
    ∷ (codes "owner_org", text_error (organization_error people) (required_text (codes "owner_org") body))
    ∷ (codes "title", kind_message (title_read body))
    ∷ (codes "url", text_error location_error (required_value (location_read body)))
    ∷ []
    ) []

-- the text that was read, and else an empty one
abbrev pub text_or_empty : Result (List ℕ) KindFault → List ℕ
text_or_empty read = unwrap_or (read_value read) []

-- The source that the body describes. An absent title is the name. The first job has the number 1.
abbrev pub created_source : Json → HarvestSource
created_source body =
    let name = text_or_empty (required_text (codes "name") body) in
    record {
      name = name;
      title = title_or name name body;
      url = text_or_empty (required_value (location_read body));
      owner_org = text_or_empty (required_text (codes "owner_org") body);
      next_job = 1;
    }

-- ---- a source that exists

-- No change of a source, and no further job, while one of its jobs is new or running.
abbrev pub unfinished_error : SourceState → Option (List ℕ)
unfinished_error s = message_unless (not (is_some (open_job s))) (codes "A job of this source is not finished")

abbrev pub update_errors : SourceState → Json → List KeyError
update_errors s body =
    with_rule_errors (
    (codes "id", unfinished_error s)
    ∷ (codes "title", kind_message (title_read body))
    ∷ (codes "url", optional_error location_error (location_read body))
    ∷ []
    ) []

-- The source after the update. What the body doesn't give stays as it is.
abbrev pub edited_source : Json → HarvestSource → HarvestSource
edited_source body source = record source {
  title = title_or source.title source.name body;
  url = unwrap_or (found_value (location_read body)) source.url;
}

-- the error of a removal, and of a further job, at the key that names the source
abbrev pub unfinished_errors : List ℕ → SourceState → List KeyError
unfinished_errors key s = error_if key (unfinished_error s) []
