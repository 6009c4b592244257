-- The length of the body of an insert: one more record adds its own length, and a comma if it comes after others.
use Rattle.std.proofs.Common.{◌≡◌, ◌≤◌, ℕ, ◌+◌, true, false, List, [], ◌∷◌, ◌++◌, length, map, codes, refl}
use Rattle.std.proofs.Common.{ap, arith, rules, true≢false}
use Rattle.std.proofs.lemmas.Bool.Decides.{nat_tests}
use Rattle.std.proofs.lemmas.List.{length-append, map-append, length_push}
use Rattle.serde_json.specs.Data.{Data, string, array, object, no_members, member}
use Rattle.serde_json.specs.View.{items_of}
use Rattle.serde_json.specs.Written.{compact_text, items_text}
use Rattle.serde_json.proofs.OnLiterals.{serde_json_on_literals}
use Rattle.portal_base.specs.Json.{data_of, items_data, json_text}
use Rattle.portal_base.specs.declared.json_value.Json.{Json, the_lemmas}
use Rattle.row_inserts.specs.Inserts.{fit, insert_body, insert_size, is_empty}

-- ---- a list of data

after_others : (ds : List Data) (d : Data)
    → length (items_text true (items_of (ds ++ d ∷ [])))
    ≡ length (items_text true (items_of ds)) + 1 + length (compact_text d)
after_others [] d = omega (arith, length-append (compact_text d) (93 ∷ []))
after_others (e ∷ es) d =
    omega (
      arith,
      after_others es d,
      length-append (compact_text e) (items_text true (items_of (es ++ d ∷ []))),
      length-append (compact_text e) (items_text true (items_of es)),
    )

list_alone : (d : Data)
    → length (items_text false (items_of (d ∷ []))) ≡ length (items_text false (items_of [])) + length (compact_text d)
list_alone d = omega (arith, length-append (compact_text d) (93 ∷ []))

list_after : (e : Data) (es : List Data) (d : Data)
    → length (items_text false (items_of (e ∷ es ++ d ∷ [])))
    ≡ length (items_text false (items_of (e ∷ es))) + 1 + length (compact_text d)
list_after e es d =
    omega (
      arith,
      after_others es d,
      length-append (compact_text e) (items_text true (items_of (es ++ d ∷ []))),
      length-append (compact_text e) (items_text true (items_of es)),
    )

-- ---- the body

body_data : (resource : List ℕ) (records : List Json)
    → data_of (insert_body resource records)
    ≡ object (member (codes "method") (string (codes "insert"))
    (member (codes "records") (array (items_data records))
    (member (codes "resource_id") (string resource) no_members)))
body_data resource records = search (rules, the_lemmas)

-- the text of the body, by the texts of the records and of the name of the resource
abbrev body_pieces : List ℕ → List ℕ → List ℕ
body_pieces list resource =
    codes "{\"method\":\"insert\",\"records\":[" ++ (list ++ (codes ",\"resource_id\":" ++ (resource ++ codes "}")))

body_is : (resource : List ℕ) (records : List Json)
    → json_text (insert_body resource records)
    ≡ body_pieces (items_text false (items_data records)) (compact_text (string resource))
unfolding serde_json_on_literals
body_is resource records = ap compact_text (body_data resource records)

around : (before list after : List ℕ) → length (before ++ (list ++ after))
    ≡ length before + length list + length after
around before list after = omega (arith, length-append before (list ++ after), length-append list after)

-- The lengths of bodies differ by those of their lists.
sized : (resource : List ℕ) (records others : List Json)
    → insert_size resource records + length (items_text false (items_data others))
    ≡ insert_size resource others + length (items_text false (items_data records))
sized resource records others =
    let before = codes "{\"method\":\"insert\",\"records\":[" in
    let after = codes ",\"resource_id\":" ++ (compact_text (string resource) ++ codes "}") in
    omega (
      arith,
      ap length (body_is resource records),
      ap length (body_is resource others),
      around before (items_text false (items_data records)) after,
      around before (items_text false (items_data others)) after,
    )

-- ---- one more record

pub size_alone : (resource : List ℕ) (added : Json)
    → insert_size resource (added ∷ []) ≡ insert_size resource [] + length (json_text added)
size_alone resource added =
    omega (arith, sized resource (added ∷ []) [], list_alone (data_of added))

pub size_after : (resource : List ℕ) (records : List Json) (added : Json) → is_empty records ≡ false
    → insert_size resource (records ++ added ∷ [])
    ≡ insert_size resource records + 1 + length (json_text added)
size_after resource [] added some = absurd (true≢false some)
size_after resource (first ∷ records) added some =
    omega (
      arith,
      sized resource (first ∷ records ++ added ∷ []) (first ∷ records),
      ap (λ ds. length (items_text false (items_of (data_of first ∷ ds)))) (map-append data_of records (added ∷ [])),
      list_after (data_of first) (map data_of records) (data_of added),
    )

-- ---- more records

pub size_more : (resource : List ℕ) (records : List Json) (added : Json)
    → insert_size resource records ≤ insert_size resource (records ++ added ∷ [])
size_more resource [] added = omega (arith, size_alone resource added)
size_more resource (first ∷ records) added = omega (arith, size_after resource (first ∷ records) added refl)

-- Records that fit with one more record fit.
pub fit_less : (resource : List ℕ) (records : List Json) (added : Json)
    → fit resource (records ++ added ∷ []) ≡ true → fit resource records ≡ true
fit_less resource records added fits =
    let longer = length_push records added in
    let larger = size_more resource records added in
    grind (arith, nat_tests)
