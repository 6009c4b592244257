-- The portal's state: lists that ascend by their keys.
use Rattle.std.specs.Prelude.{ℕ, Bool, List, unwrap_or, option_map, find}
use Rattle.std.specs.declared.cmp.Ordering.{Ordering}
use Rattle.std.specs.Ordering.{nat_cmp}
use Rattle.std.specs.Cmp.{IsTotalOrder}
use Rattle.std.specs.Cmp.Lexicographic.{slice_cmp}
use Rattle.std.specs.Str.{bytes_eq}
use Rattle.std.proofs.lemmas.Cmp.{on_total, nat_list_cmp_total}
use Rattle.portal_base.specs.Ordered.{IsKey, IsKey-field, IsMonotone, IsMonotone-field}
use Rattle.portal_base.specs.declared.caller.Caller.{Caller}
use Rattle.portal_base.specs.declared.caller.Caller.TheVariants.{Anonymous, Named}
use Rattle.org_roles.specs.PeopleLists.{PeopleLists}
use Rattle.packages.specs.declared.package.Package.{Package}
use Rattle.datastore_answers.specs.declared.resource_table.ResourceTable.{ResourceTable}
use Rattle.harvest_sources.specs.Sources.{SourceState}
use Rattle.portal_state.specs.declared.quota.QuotaUsed.{QuotaUsed}

-- Users ascend by name, organizations by name, roles by organization and user, datasets by id, tables by their
-- dataset's id and their resource's number, sources of harvests by name, each with its jobs by number, and quotas by user.
pub record State : Type 0 where
  pub people : PeopleLists
  pub datasets : List Package
  pub tables : List ResourceTable
  pub sources : List SourceState
  pub quota_used : List QuotaUsed

-- the order by user
abbrev pub quota_used_cmp : QuotaUsed → QuotaUsed → Ordering
quota_used_cmp s t = slice_cmp nat_cmp s.user t.user

pub quota_used_cmp_total : IsTotalOrder quota_used_cmp
quota_used_cmp_total = on_total (λ s. s.user) nat_list_cmp_total

-- the order of an entry's user against this user
abbrev pub quota_used_at : List ℕ → QuotaUsed → Ordering
quota_used_at user s = slice_cmp nat_cmp s.user user

-- An entry is looked up by its user.
pub IsKey-quota_used_at : (user : List ℕ) → IsKey quota_used_cmp (quota_used_at user)
IsKey-quota_used_at user = IsKey-field (λ s. s.user) nat_list_cmp_total user

pub IsMonotone-quota_used_at : (user : List ℕ) → IsMonotone quota_used_cmp (quota_used_at user)
IsMonotone-quota_used_at user = IsMonotone-field (λ s. s.user) nat_list_cmp_total user

-- how much of the quota each user has used, and whether there is room for one more entry
pub record Ledger : Type 0 where
  pub used : List QuotaUsed
  pub room : Bool

-- the bytes that were accepted from the user
abbrev pub accepted_bytes_of_user : List ℕ → List QuotaUsed → ℕ
accepted_bytes_of_user user quota_used = unwrap_or (option_map (λ s. s.bytes)
    (find (λ s. bytes_eq s.user user) quota_used)) 0

-- the bytes that were accepted from the caller; those of the anonymous caller aren't counted
abbrev pub accepted_bytes_of : Caller → List QuotaUsed → ℕ
accepted_bytes_of Anonymous quota_used = 0
accepted_bytes_of (Named user) quota_used = accepted_bytes_of_user user quota_used
