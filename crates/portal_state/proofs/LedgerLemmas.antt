-- What a look-up in the ledger of the quota finds.
use Rattle.std.proofs.Common.{◌≡◌, ℕ, List, ap, sym}
use Rattle.std.specs.Prelude.{unwrap_or, option_map}
use Rattle.std.proofs.lemmas.Map.Text.{is_eq-slice_cmp}
use Rattle.portal_base.specs.Ordered.{found}
use Rattle.portal_base.proofs.Filtered.{find-same}
use Rattle.portal_state.specs.declared.quota.QuotaUsed.{QuotaUsed}
use Rattle.portal_state.specs.State.{accepted_bytes_of_user, quota_used_at}

-- The user's bytes are those of the entry that is found at the user.
pub bytes_found : (user : List ℕ) (used : List QuotaUsed)
    → accepted_bytes_of_user user used ≡ unwrap_or (option_map (λ s. s.bytes) (found (quota_used_at user) used)) 0
bytes_found user used =
    ap (λ entry. unwrap_or (option_map (λ s. s.bytes) entry) 0)
    (find-same _ _ (λ s. sym (is_eq-slice_cmp s.user user)) used)
