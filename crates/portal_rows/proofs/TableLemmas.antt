-- Rows of tables are read back as they were written.
use Rattle.std.proofs.Common.{◌≡◌, ℕ, ◌<◌, ◌^◌, ℤ, pos, negsuc, Bool, true, false, cond, List, [], ◌∷◌, map, refl}
use Rattle.std.proofs.Common.{ap, ◌∙◌, subst, arith, codes}
use Rattle.std.specs.Prelude.{Option, Some, None, Result, Ok, Err, nat_lt, option_and_then}
use Rattle.std.specs.Result.{result_ok}
use Rattle.std.proofs.lemmas.Bool.Decides.{nat_tests}
use Rattle.portal_base.specs.Json.{IsReadable, member_of}
use Rattle.portal_base.specs.Kinds.{list_in}
use Rattle.portal_base.specs.declared.json_value.Json as json
use Rattle.portal_base.specs.declared.json_value.Json.{Json, out-Json}
use Rattle.portal_base.specs.declared.json_value.Json.TheOpen.{Json-F}
use Rattle.table_schema.specs.Field.{SchemaValue}
use Rattle.table_schema.specs.Keys.{schema_reading}
use Rattle.table_schema.specs.Written.{schema_value}
use Rattle.table_schema.specs.declared.fault.SchemaFault.{SchemaFault}
use Rattle.table_schema.proofs.WrittenLemmas.{reading-described}
use Rattle.portal_rows.specs.Readings.{all_read, head_from, head_reading, next_id_reading, number_below, number_in}
use Rattle.portal_rows.specs.Readings.{number_of, schema_member_reading, targets_reading}
use Rattle.portal_rows.specs.TableRows.{IsHead, head_value, number_value}
use Rattle.portal_rows.specs.declared.tables.TableHead.{TableHead}
use Rattle.portal_rows.proofs.JsonLemmas.{AreWithin, deeper, list_in-List, member_of-Map, member_orderly}
use Rattle.portal_rows.proofs.JsonLemmas.{out-Whole, readable, within-List, within-Map, within-Whole}
use Rattle.portal_rows.proofs.ReadLemmas.{Each, all-each, all_read-back, and_then-some, each-all, first-some}
use Rattle.portal_rows.proofs.SchemaLemmas.{descriptor-within}

-- ---- numbers

number-back : (limit n : ℕ) → n < limit → number_in limit (number_value n) ≡ Some n
number-back limit n small =
    let less : nat_lt n limit ≡ true = grind (arith, nat_tests) in
    ap (number_of limit) (out-Whole (pos n)) ∙ (rw less refl)

below_limit : (limit : ℕ) (z : ℤ) (n : ℕ) → number_below limit z ≡ Some n → n < limit
below_limit limit (pos m) n e = by (nat_lt m limit) refl e
  where
    by : (b : Bool) → nat_lt m limit ≡ b → cond b (Some m) None ≡ Some n → n < limit
    by true is h = let same : m ≡ n = cc in let less : m < limit = grind (arith, nat_tests) in omega arith
    by false is h = absurd (cc)
below_limit limit (negsuc m) n e = absurd (cc)

number-below : (limit : ℕ) (value : Json) (n : ℕ) → number_in limit value ≡ Some n → n < limit
number-below limit value n e = by (out-Json value) e
  where
    by : (v : Json-F Json) → number_of limit v ≡ Some n → n < limit
    by Json-F.Null h = absurd (cc)
    by (Json-F.Truth b) h = absurd (cc)
    by (Json-F.Whole z) h = below_limit limit z n h
    by (Json-F.Text text) h = absurd (cc)
    by (Json-F.List items) h = absurd (cc)
    by (Json-F.Map entries) h = absurd (cc)

-- ---- a head is read back

result-ok : (r : Result SchemaValue SchemaFault) (schema : SchemaValue) → result_ok r ≡ Some schema → r ≡ Ok schema
result-ok (Ok x) schema e = cc
result-ok (Err fault) schema e = absurd (cc)

pub head-back : (head : TableHead) → IsHead head → head_reading (head_value head) ≡ Some head
head-back head is =
    let value = head_value head in
    let schema : schema_member_reading value ≡ Some head.schema =
    ap (option_and_then (λ descriptor. result_ok (schema_reading descriptor)))
    (member_of-Map (codes "schema") _ (schema_value head.schema) refl)
    ∙ ap result_ok is.described in
    let next_id : next_id_reading value ≡ Some head.next_id =
    ap (option_and_then (number_in (2 ^ 64))) (member_of-Map (codes "next_id") _ (number_value head.next_id) refl)
    ∙ number-back (2 ^ 64) head.next_id is.next_id in
    let targets : targets_reading value ≡ Some head.targets =
    ap (λ o. option_and_then (all_read (number_in (2 ^ 32))) (option_and_then list_in o))
    (member_of-Map (codes "targets") _ (json.List (map number_value head.targets)) refl)
    ∙ ap (option_and_then (all_read (number_in (2 ^ 32)))) (list_in-List (map number_value head.targets))
    ∙ all_read-back (number_in (2 ^ 32)) number_value (λ n. n < 2 ^ 32) (number-back (2 ^ 32)) head.targets
    (each-all (λ n. n < 2 ^ 32) head.targets is.targets) in
    ap (λ s. head_from s (next_id_reading value) (targets_reading value)) schema
    ∙ ap (λ n. head_from (Some head.schema) n (targets_reading value)) next_id
    ∙ ap (head_from (Some head.schema) (Some head.next_id)) targets

-- ---- the body can be read

numbers_within : (targets : List ℕ) → Each (λ n. n < 2 ^ 32) targets → AreWithin 0 (map number_value targets)
numbers_within [] small = tt
numbers_within (n ∷ targets) small = (within-Whole 0 (pos n) (omega (arith, small.0)), numbers_within targets small.1)

pub head_value-readable : (head : TableHead) → IsHead head → IsReadable (head_value head)
head_value-readable head is =
    readable 6 (head_value head) (omega arith)
    (within-Map 5 _ refl (
      within-Whole 5 (pos head.next_id) is.next_id,
      (
        descriptor-within (schema_value head.schema) head.schema is.described,
        (
          deeper 1 5 (json.List (map number_value head.targets)) (omega arith)
              (within-List 0 (map number_value head.targets)
              (numbers_within head.targets (each-all (λ n. n < 2 ^ 32) head.targets is.targets))),
          tt,
        ),
      ),
    ))

-- ---- what is read is a head

parts_of : (s : Option SchemaValue) (n : Option ℕ) (t : Option (List ℕ)) (head : TableHead)
    → head_from s n t ≡ Some head
    → (s ≡ Some head.schema) × (n ≡ Some head.next_id) × (t ≡ Some head.targets)
parts_of None n t head e = absurd (cc)
parts_of (Some schema) None t head e = absurd (cc)
parts_of (Some schema) (Some next_id) None head e = absurd (cc)
parts_of (Some schema) (Some next_id) (Some targets) head e =
    let made : TableHead = record { schema = schema; next_id = next_id; targets = targets } in
    let same : made ≡ head = cc in (
      ap (λ (h : TableHead). Some h.schema) same,
      ap (λ (h : TableHead). Some h.next_id) same,
      ap (λ (h : TableHead). Some h.targets) same,
    )

targets_below : (values : List Json) (targets : List ℕ) → all_read (number_in (2 ^ 32)) values ≡ Some targets
    → Each (λ n. n < 2 ^ 32) targets
targets_below [] targets e = let none : [] ≡ targets = cc in subst (Each (λ n. n < 2 ^ 32)) none tt
targets_below (value ∷ values) targets e =
    let parts = first-some (number_in (2 ^ 32) value) (all_read (number_in (2 ^ 32)) values) targets e in
    subst (Each (λ n. n < 2 ^ 32)) parts.1.1.2
    (number-below (2 ^ 32) value parts.0 parts.1.1.0, targets_below values parts.1.0 parts.1.1.1)

pub head_read : (value : Json) (head : TableHead) → head_reading value ≡ Some head → IsHead head
head_read value head e =
    let parts = parts_of (schema_member_reading value) (next_id_reading value) (targets_reading value) head e in
    let schema = and_then-some (λ descriptor. result_ok (schema_reading descriptor)) (member_of (codes "schema") value)
    head.schema parts.0 in
    let next_id = and_then-some (number_in (2 ^ 64)) (member_of (codes "next_id") value) head.next_id parts.1 in
    let targets = and_then-some (all_read (number_in (2 ^ 32)))
    (option_and_then list_in (member_of (codes "targets") value)) head.targets parts.2 in
    record {
      described = reading-described schema.0 head.schema (result-ok (schema_reading schema.0) head.schema schema.1.1);
      next_id = number-below (2 ^ 64) next_id.0 head.next_id next_id.1.1;
      targets = all-each (λ n. n < 2 ^ 32) head.targets (targets_below targets.0 head.targets targets.1.1);
    }
