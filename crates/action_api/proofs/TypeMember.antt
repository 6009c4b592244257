-- The place of the member `__type` among the members of an error.
use Rattle.std.proofs.Common.{◌≡◌, ℕ, List, map, ap, ◌∙◌}
use Rattle.std.specs.Prelude.{codes, insert}
use Rattle.std.specs.List.{prefix_len}
use Rattle.std.specs.Ordering.{nat_cmp, is_lt}
use Rattle.std.specs.Cmp.Lexicographic.{slice_cmp}
use Rattle.portal_base.proofs.Inserted.{insert-prefix_len}
use Rattle.portal_base.specs.KeyErrors.{KeyError}
use Rattle.portal_base.specs.Ordered.{inserted}
use Rattle.portal_base.specs.declared.json_value.Json.{Json, Map, Text}
use Rattle.action_api.specs.Error.{fault_member, member_cmp, validation_dictionary}

-- The type, inserted after the members with smaller keys, makes the validation error of the faults.
pub type_inserted : (faults : List KeyError) (members all : List (List ℕ × Json)) (index : ℕ)
    → members ≡ map fault_member faults
    → index ≡ prefix_len (λ m. is_lt (slice_cmp nat_cmp m.0 (codes "__type"))) members
    → all ≡ insert members index (codes "__type", Text (codes "Validation Error"))
    → Map all ≡ validation_dictionary faults
type_inserted faults members all index made at put =
    ap Map (put ∙ ap (λ n. insert members n (codes "__type", Text (codes "Validation Error"))) at
    ∙ insert-prefix_len member_cmp (codes "__type", Text (codes "Validation Error")) members
    ∙ ap (inserted member_cmp (codes "__type", Text (codes "Validation Error"))) made)
