use Rattle.std.proofs.Common.{◌≡◌, ◌≢◌, ◌⊎◌, ◌∙◌, IfOk, IsUtf8, List, OnOk, Option, Result, Ok, Err, Some, inl, inr, ℕ}
use Rattle.portal_base.specs.Json.{json_text, json_reading, IsReadable}
use Rattle.portal_base.specs.declared.json_value.Json.{Json}
use Rattle.portal_base.specs.declared.json_value.JsonFault.{JsonFault}
use Rattle.portal_base.specs.declared.json_value.JsonFault.TheVariants.{OutOfMemory}
use Rattle.portal_rows.proofs.JsonBack.{read_back}
use Rattle.portal_rows.proofs.body.value_of_body.Goals as goal

-- The body is read as the value.
read : (body bytes : List ℕ) (value : Json) → IsUtf8 bytes → bytes ≡ body → IsReadable value → body ≡ json_text value
    → json_reading bytes ≡ Ok value
read body bytes value utf8 same can is = read_back value bytes utf8 (same ∙ is) can

pub returns-in-Ok-clause-back : goal.returns-in-Ok-clause-back
returns-in-Ok-clause-back c = λ value can is.
    let back : json_reading c.as_bytes.result.now ≡ Ok value =
    read c.args.body.now c.as_bytes.result.now value c.as_bytes.ensures.utf8
    (c.as_bytes.ensures.value ∙ c.as_str.ensures) can is in
    let was = c.in-Ok.ensures.value in
    cc

refused : {E : Type 0} (r : Result (Option Json) E) (bytes : List ℕ) (fault : JsonFault) (value : Json)
    → (fault ≡ OutOfMemory) ⊎ (json_reading bytes ≡ Err fault) → OnOk r (fault ≢ OutOfMemory)
    → json_reading bytes ≡ Ok value → IfOk r (λ found. found ≡ Some value)
refused (Err e) bytes fault value why memory back = tt
refused (Ok found) bytes fault value (inl is) memory back = absurd (memory is)
refused (Ok found) bytes fault value (inr other) memory back = absurd (cc)

each_back : {E : Type 0} (r : Result (Option Json) E) (body : List ℕ)
    → ((value : Json) → IsReadable value → body ≡ json_text value → IfOk r (λ found. found ≡ Some value))
    → IfOk r (λ found. (value : Json) → IsReadable value → body ≡ json_text value → found ≡ Some value)
each_back (Ok found) body all = all
each_back (Err e) body all = tt

pub returns-in-Err-clause-back : goal.returns-in-Err-clause-back
returns-in-Err-clause-back c =
    each_back c.none_unless_memory.result c.args.body.now (λ value can is.
    refused c.none_unless_memory.result c.as_bytes.result.now c.in-Err.fault value c.in-Err.ensures.fault
    c.none_unless_memory.ensures.fault
    (read c.args.body.now c.as_bytes.result.now value c.as_bytes.ensures.utf8
    (c.as_bytes.ensures.value ∙ c.as_str.ensures) can is))
