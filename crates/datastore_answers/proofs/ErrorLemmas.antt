-- The errors of records, and the refusals for them.
use Rattle.std.proofs.Common.{◌≡◌, ℕ, ◌+◌, Bool, true, false, List, [], ◌∷◌, Some, None, refl, if◌then◌else◌}
use Rattle.std.proofs.Common.{◌++◌}
use Rattle.std.specs.Prelude.{codes}
use Rattle.std.specs.List.{list_all}
use Rattle.portal_base.specs.KeyErrors.{KeyError, error_if}
use Rattle.portal_base.specs.declared.json_value.Json.{Json}
use Rattle.portal_calls.specs.Answer.{denial_of, quota_error}
use Rattle.portal_calls.specs.declared.answer.Quota.{Quota}
use Rattle.portal_calls.proofs.Answering.{error_if-none}
use Rattle.table_schema.specs.Values.{is_map}
use Rattle.datastore_answers.specs.Errors.{row_text, non_dictionary_error}

-- Items without an error are dictionaries.
pub non_dictionary_error-none : (number : ℕ) (items : List Json) → non_dictionary_error number items ≡ None
    → list_all is_map items ≡ true
non_dictionary_error-none number [] none = refl
non_dictionary_error-none number (item ∷ items) none = by (is_map item) refl none
    (non_dictionary_error-none (number + 1) items)
  where
    by : (b : Bool) → is_map item ≡ b
        → (if b then non_dictionary_error (number + 1) items else Some
        (row_text number ++ codes ": not a dictionary")) ≡ None
        → (non_dictionary_error (number + 1) items ≡ None → list_all is_map items ≡ true)
        → list_all is_map (item ∷ items) ≡ true
    by true is e rest = rw is (rest e)
    by false is e rest = absurd (cc)

-- If there is no denial, there are no errors.
pub undenied : (quota : Quota) (errors : List KeyError)
    → denial_of (error_if (codes "body") (quota_error quota) errors) ≡ None → errors ≡ []
undenied quota errors none = (error_if-none (codes "body") (quota_error quota) errors (empty _ none)).0
  where
    empty : (errors : List KeyError) → denial_of errors ≡ None → errors ≡ []
    empty [] e = refl
    empty (f ∷ fs) e = absurd (cc)
