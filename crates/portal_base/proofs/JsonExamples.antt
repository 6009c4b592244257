-- Worked examples of the definitions on JSON.
use Rattle.std.proofs.Common.{◌≡◌, [], ◌∷◌, pos, codes, Ok, Err, refl, ap, rules}
use Rattle.std.specs.Fmt.{digits}
use Rattle.std.specs.Str.{chars, is_utf8}
use Rattle.serde_json.specs.Data.{unsigned, null, number, object, no_members, member}
use Rattle.serde_json.specs.Written.{compact_text}
use Rattle.serde_json.proofs.OnLiterals.{serde_json_on_literals}
use Rattle.portal_base.specs.Json.{data_of, json_text, json_reading}
use Rattle.portal_base.specs.declared.json_value.Json as json
use Rattle.portal_base.specs.declared.json_value.Json.{Json, the_lemmas}
use Rattle.portal_base.specs.declared.json_value.JsonFault.TheVariants.{NotJson, Fraction}

-- the last value of a key counts, and the keys ascend
keys_in_order : json_reading (codes "{\"b\":1,\"a\":2,\"b\":3}")
    ≡ Ok (json.Map ((codes "a", json.Whole (pos 2)) ∷ (codes "b", json.Whole (pos 3)) ∷ []))
unfolding serde_json_on_literals is_utf8 chars
keys_in_order = refl

fraction : json_reading (codes "[1.5]") ≡ Err Fraction
unfolding serde_json_on_literals is_utf8 chars
fraction = refl

minus_zero : json_reading (codes "-0") ≡ Err Fraction
unfolding serde_json_on_literals is_utf8 chars
minus_zero = refl

not_closed : json_reading (codes "[1") ≡ Err NotJson
unfolding serde_json_on_literals is_utf8 chars
not_closed = refl

abbrev two_entries : Json
two_entries = json.Map ((codes "b", json.Whole (pos 18446744073709551616)) ∷ (codes "a", json.Null) ∷ [])

two_entries_data : data_of two_entries
    ≡ object (member (codes "b") (number (unsigned 18446744073709551616)) (member (codes "a") null no_members))
two_entries_data = search (rules, the_lemmas)

-- a map keeps the order of its list, and a whole number its digits
written : json_text two_entries ≡ codes "{\"b\":18446744073709551616,\"a\":null}"
unfolding serde_json_on_literals digits
written = ap compact_text two_entries_data
