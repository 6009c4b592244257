-- The reading of a JSON text.
use Rattle.std.proofs.Common.{◌≡◌, ◌⊎◌, List, ℕ, Some, None, Result, Ok, Err, IfOk, IfErr, IsUtf8, inl, inr, refl}
use Rattle.std.proofs.Common.{sym, ap, ◌∙◌}
use Rattle.std.proofs.lemmas.Bool.{cond_both}
use Rattle.std.proofs.lemmas.Str.{IsUtf8-from_is_utf8, is_utf8-from_IsUtf8}
use Rattle.std.specs.Str.{is_utf8}
use Rattle.serde_json.specs.Data.{Data}
use Rattle.serde_json.specs.Read.{read}
use Rattle.portal_base.specs.Json.{json_of, or_fault, reading_of, json_reading}
use Rattle.portal_base.specs.declared.json_value.Json.{Json}
use Rattle.portal_base.specs.declared.json_value.JsonFault.{JsonFault}
use Rattle.portal_base.specs.declared.json_value.JsonFault.TheVariants.{NotJson, Fraction, OutOfMemory}

pub reading_of_data : (bytes : List ℕ) (d : Data) → IsUtf8 bytes → read bytes ≡ Some d
    → json_reading bytes ≡ or_fault Fraction (json_of d)
reading_of_data bytes d text is = rw (is_utf8-from_IsUtf8 bytes text) (ap reading_of is)

pub reading_refused : (bytes : List ℕ) → (IsUtf8 bytes → read bytes ≡ None) → json_reading bytes ≡ Err NotJson
reading_refused bytes none =
    cond_both (is_utf8 bytes) (reading_of (read bytes)) (Err NotJson) (λ r. r ≡ Err NotJson)
    (λ e. ap reading_of (none (IsUtf8-from_is_utf8 bytes e))) (λ e. refl)

pub value_read : (r : Result Json JsonFault) (d : Data) (reading : Result Json JsonFault)
    → reading ≡ or_fault Fraction (json_of d) → IfOk r (λ j. json_of d ≡ Some j) → IfOk r (λ j. reading ≡ Ok j)
value_read (Ok j) d reading is ok = is ∙ ap (or_fault Fraction) ok
value_read (Err fault) d reading is ok = tt

fault_kept : (fault : JsonFault) (d : Data) (reading : Result Json JsonFault)
    → reading ≡ or_fault Fraction (json_of d) → (fault ≡ OutOfMemory) ⊎ ((fault ≡ Fraction) × (json_of d ≡ None))
    → (fault ≡ OutOfMemory) ⊎ (reading ≡ Err fault)
fault_kept fault d reading is (inl memory) = inl memory
fault_kept fault d reading is (inr found) = inr (is ∙ ap (or_fault Fraction) found.1 ∙ ap Err (sym found.0))

pub fault_read : (r : Result Json JsonFault) (d : Data) (reading : Result Json JsonFault)
    → reading ≡ or_fault Fraction (json_of d)
    → IfErr r (λ fault. (fault ≡ OutOfMemory) ⊎ ((fault ≡ Fraction) × (json_of d ≡ None)))
    → IfErr r (λ fault. (fault ≡ OutOfMemory) ⊎ (reading ≡ Err fault))
fault_read (Ok j) d reading is err = tt
fault_read (Err fault) d reading is err = fault_kept fault d reading is err
