-- What the bodies of rows are read as. A key that is absent, or that has a value of another kind, is read as a default,
-- so that a value is read of nearly any body. Its own row shows whether the body was that of the value.
use Rattle.std.specs.Prelude.{ℕ, ◌+◌, ◌-◌, ◌*◌, ◌^◌, pos, nat_le, nat_lt, ◌&&◌, if◌then◌else◌, List, [], ◌∷◌, codes}
use Rattle.std.specs.Prelude.{drop, length, map, Option, Some, None, option_and_then, option_map, unwrap_or}
use Rattle.std.specs.Str.{bytes_eq}
use Rattle.portal_base.specs.Json.{member_of}
use Rattle.portal_base.specs.declared.json_value.Json.{Json, out-Json}
use Rattle.portal_base.specs.declared.json_value.Json.TheOpen.{Json-F}
use Rattle.dataset_rows.specs.Reading.{at_key, items_of, json_read, moment_of, text_of}
use Rattle.harvest_sources.specs.declared.cause.Cause.{Cause}
use Rattle.harvest_sources.specs.declared.cause.Cause.TheVariants.{ReadFault, Missing, TooLong, NotNTriples, NoCatalog}
use Rattle.harvest_sources.specs.declared.cause.Cause.TheVariants.{NotDescribed, NoTitle, SameName}
use Rattle.harvest_sources.specs.declared.job.Job.{Job}
use Rattle.harvest_sources.specs.declared.job.JobState.{JobState}
use Rattle.harvest_sources.specs.declared.job.JobState.TheVariants.{New, Finished, Broken}
use Rattle.harvest_sources.specs.declared.job.SourceReport.{SourceReport}
use Rattle.harvest_sources.specs.declared.source.HarvestSource.{HarvestSource}

-- ---- numbers

-- a number that is a `u64`, or zero
abbrev pub number_of_level : Json-F Json → ℕ
number_of_level (Json-F.Whole (pos n)) = if nat_lt n (2 ^ 64) then n else 0
number_of_level other = 0

abbrev pub number_or_zero : Json → ℕ
number_or_zero value = number_of_level (out-Json value)

-- the number at a key
unfoldable pub number_of : List ℕ → Json → ℕ
number_of key value = at_key number_or_zero 0 key value

-- the number with one more decimal digit, if that is below 2^64
abbrev pub with_digit : ℕ → ℕ → Option ℕ
with_digit n c =
    if (nat_le 48 c && nat_le c 57) && nat_lt (n * 10 + (c - 48)) (2 ^ 64) then Some (n * 10 + (c - 48)) else None

-- the number of these digits after the digits of a number
abbrev pub digits_from : ℕ → List ℕ → Option ℕ
digits_from n [] = Some n
digits_from n (c ∷ cs) = option_and_then (λ m. digits_from m cs) (with_digit n c)

-- the number that the text spells, or zero
unfoldable pub number_spelled : List ℕ → ℕ
number_spelled text = unwrap_or (digits_from 0 text) 0

-- ---- a source

-- the source of that name
unfoldable pub source_in : List ℕ → Json → HarvestSource
source_in name value = record {
  name = name;
  title = text_of (codes "title") value;
  url = text_of (codes "url") value;
  owner_org = text_of (codes "owner_org") value;
  next_job = number_of (codes "next_job") value;
}

-- the source of that name, if the body is JSON
abbrev pub source_read : List ℕ → List ℕ → Option HarvestSource
source_read name body = option_map (source_in name) (json_read body)

-- ---- a job

-- The cause of that text. The number of a bad line follows twelve bytes.
unfoldable pub cause_named : List ℕ → Cause
cause_named text =
    if bytes_eq text (codes "ReadFault") then ReadFault
    else if bytes_eq text (codes "Missing") then Missing
    else if bytes_eq text (codes "TooLong") then TooLong
    else if bytes_eq text (codes "NoCatalog") then NoCatalog
    else if bytes_eq text (codes "NotDescribed") then NotDescribed
    else if bytes_eq text (codes "NoTitle") then NoTitle
    else if bytes_eq text (codes "SameName") then SameName
    else NotNTriples (number_spelled (drop 12 text))

-- the state of that name, with the cause of that text
unfoldable pub state_from : List ℕ → List ℕ → JobState
state_from name cause =
    if bytes_eq name (codes "Finished") then Finished
    else if bytes_eq name (codes "Broken") then Broken (cause_named cause)
    else New

-- a listed IRI that gave no dataset, with its cause
unfoldable pub bad_in : Json → List ℕ × Cause
bad_in value = (text_of (codes "iri") value, cause_named (text_of (codes "cause") value))

-- the report of a dictionary
unfoldable pub report_in : Json → SourceReport
report_in value = record {
  source = text_of (codes "source") value;
  state = state_from (text_of (codes "state") value) (text_of (codes "cause") value);
  added = number_of (codes "added") value;
  updated = number_of (codes "updated") value;
  unchanged = number_of (codes "unchanged") value;
  deleted = number_of (codes "deleted") value;
  unnamed = number_of (codes "unnamed") value;
  bad = map bad_in (items_of (codes "bad") value);
}

-- the number in a job's id, which follows the source's name and a dot
abbrev pub number_in_id : List ℕ → List ℕ → ℕ
number_in_id source id = number_spelled (drop 1 (drop (length source) id))

-- the job of that id, whose report says which source it is of
abbrev pub job_with : List ℕ → Json → SourceReport → Job
job_with id value report = record {
  source = report.source;
  number = number_in_id report.source id;
  created = moment_of (codes "created") value;
  report = report;
}

-- the job of that id, if the value has a report
abbrev pub job_in : List ℕ → Json → Option Job
job_in id value = option_map (λ stats. job_with id value (report_in stats)) (member_of (codes "stats") value)

-- the job of that id, if the body is JSON and has a report
abbrev pub job_read : List ℕ → List ℕ → Option Job
job_read id body = option_and_then (job_in id) (json_read body)
