-- What a run begins with: the default portal, or that of a portal file. And why a run begins with none.
use Rattle.std.specs.Prelude.{◌≡◌, ◌⊎◌, ◌≤◌, ℕ, List, ◌++◌, length, codes, Option, Some, None, Ok}
use Rattle.std.specs.Prelude.{Err}
use Rattle.portal_base.specs.Outside.{Rose}
use Rattle.portal_state.specs.declared.opening.Opening.{Opening}
use Rattle.portal_file.specs.File.{file_of}
use Rattle.portal_file.specs.Rules.{rule_name}
use Rattle.portal_file.specs.declared.file.PortalFile.{PortalFile}
use Rattle.portal_file.specs.declared.rule.FileRule.{FileRule}
use Rattle.portal_serve.specs.Defaults.{default_opening, default_digests}
use Rattle.portal_links.specs.Tokens.{Digests}
use Rattle.portal_status.specs.declared.status.Status.{Status}
use Rattle.portal_status.specs.declared.status.Status.TheVariants as status
use Rattle.portal_status.specs.Fetch.{FailsToFetch, FetchTrace, HoldsFile}

-- what a portal is opened with, and the digests of its users' tokens
pub record Beginning : Type 0 where
  pub opening : Opening
  pub digests : Digests

abbrev pub beginning_with : Opening → Digests → Beginning
beginning_with opening digests = record { opening = opening; digests = digests }

-- the default portal
abbrev pub default_beginning : Beginning
default_beginning = beginning_with default_opening default_digests

-- the portal of a portal file
abbrev pub opening_of : PortalFile → Opening
opening_of file = record { users = file.users; orgs = file.orgs; roles = file.roles }

abbrev pub beginning_of_file : PortalFile → Beginning
beginning_of_file file = beginning_with (opening_of file) file.tokens

-- The bytes are a portal file, and this is its portal.
abbrev pub IsFileOf : List ℕ → Beginning → Type 0
IsFileOf bytes beginning = (file : PortalFile) × (file_of bytes ≡ Ok file) × (beginning ≡ beginning_of_file file)

-- Why the bytes are no portal file, by the status: memory ran out, or they break the rule that it names, and none
-- before it.
abbrev pub RejectsFile : List ℕ → Status → Type 0
RejectsFile bytes ended =
    (ended ≡ status.OutOfMemory)
    ⊎ ((rule : FileRule) × (file_of bytes ≡ Err rule)
    × (ended ≡ status.PortalFile (codes "portal file: " ++ rule_name rule)))

-- ---- over a fetcher

-- What a run begins with: the portal of the file at the location, or the default portal if no location is given.
abbrev pub Begins : FetchTrace → Option (List ℕ) → Beginning → Type 0
Begins fetch_trace None beginning = beginning ≡ default_beginning
Begins fetch_trace (Some location) beginning = HoldsFile fetch_trace location (λ bytes. IsFileOf bytes beginning)

-- Why a run begins with no portal, by its status: its file can't be fetched, or is no portal file, or memory ran out.
abbrev pub FailsToBegin : FetchTrace → Option (List ℕ) → Status → Type 0
FailsToBegin fetch_trace None ended = ended ≡ status.OutOfMemory
FailsToBegin fetch_trace (Some location) ended =
    FailsToFetch fetch_trace location ended ⊎ HoldsFile fetch_trace location (λ bytes. RejectsFile bytes ended)

-- A run began with a portal, and then did what P says. Or it began with none for the reason in its status, and left its
-- devices untouched.
abbrev pub BeginsAnd : FetchTrace → Option (List ℕ) → Status → (Beginning → Type 0) → Type 0 → Type 0
BeginsAnd fetch_trace portal status P Untouched =
    ((beginning : Beginning) × Begins fetch_trace portal beginning × P beginning) ⊎
    (FailsToBegin fetch_trace portal status × Untouched)

-- Where the fetcher is observable, the status for a file of at most 16 MiB (16,777,216 bytes) that breaks a rule names
-- that rule, unless memory ran out or the fetcher failed.
abbrev pub ReportsRule : FetchTrace → Option (List ℕ) → Status → Type 0
ReportsRule fetch_trace portal ended =
    (location bytes : List ℕ) → (rule : FileRule) → (held : List ℕ → Option (List ℕ)) → portal ≡ Some location
    → fetch_trace.held ≡ Some held → held location ≡ Some bytes → length bytes ≤ 16777216 → file_of bytes ≡ Err rule
    → (ended ≡ status.PortalFile (codes "portal file: " ++ rule_name rule))
    ⊎ ((ended ≡ status.OutOfMemory) ⊎ Rose fetch_trace.before fetch_trace.after)
