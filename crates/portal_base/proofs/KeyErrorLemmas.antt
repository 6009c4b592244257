-- The errors still ascend by their keys after one is added.
use Rattle.std.proofs.Common.{◌≡◌, ℕ, false, List, ◌∙◌}
use Rattle.std.proofs.lemmas.Map.Text.{is_eq-slice_cmp}
use Rattle.portal_base.specs.KeyErrors.{KeyError, key_error_cmp, key_error_cmp_total, has_error}
use Rattle.portal_base.specs.Ordered.{IsAscending, inserted}
use Rattle.portal_base.proofs.Inserted.{IsAscending-inserted, list_any-same}

pub with_error-ascending : (key message : List ℕ) (errors : List KeyError) → IsAscending key_error_cmp errors
    → has_error key errors ≡ false
    → IsAscending key_error_cmp (inserted key_error_cmp (key, message) errors)
with_error-ascending key message errors up absent =
    IsAscending-inserted key_error_cmp key_error_cmp_total (key, message) errors up
    (list_any-same _ _ (λ (f : KeyError). is_eq-slice_cmp f.0 key) errors ∙ absent)
