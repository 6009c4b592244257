-- The values of a dictionary's keys are read back.
use Rattle.std.proofs.Common.{◌≡◌, ℕ, ◌<◌, ◌^◌, Bool, true, false, List, [], Option, Some, None, option_map, refl}
use Rattle.std.proofs.Common.{ap, ◌∙◌, rules, arith, lt-ltb, ltb-true}
use Rattle.std.specs.Prelude.{nat_lt, unwrap_or, if◌then◌else◌, ℤ, pos, negsuc}
use Rattle.portal_base.specs.Json.{first_of, member_in, member_of}
use Rattle.portal_base.specs.Kinds as kinds
use Rattle.portal_base.specs.Moment.{IsMoment}
use Rattle.portal_base.specs.MomentReading.{moment_reading}
use Rattle.portal_base.specs.MomentText.{moment_text}
use Rattle.portal_base.specs.declared.json_value.Json as json
use Rattle.portal_base.specs.declared.json_value.Json.{Json, out-Json, the_lemmas}
use Rattle.portal_base.specs.declared.json_value.Json.TheOpen.{Json-F}
use Rattle.portal_base.proofs.ReadingBack.{reading-moment_text, reading-only}
use Rattle.dataset_rows.specs.Reading.{at_key, items_of, items_or_none, moment_of, text_of, text_or_empty}
use Rattle.harvest_rows.specs.Readings.{number_of, number_of_level, number_or_zero}

-- ---- values by their kinds

out-Text : (text : List ℕ) → out-Json (json.Text text) ≡ Json-F.Text text
out-Text text = search (rules, the_lemmas)

out-Whole : (z : ℤ) → out-Json (json.Whole z) ≡ Json-F.Whole z
out-Whole z = search (rules, the_lemmas)

out-List : (items : List Json) → out-Json (json.List items) ≡ Json-F.List items
out-List items = search (rules, the_lemmas)

out-Map : (entries : List (List ℕ × Json)) → out-Json (json.Map entries) ≡ Json-F.Map entries
out-Map entries = search (rules, the_lemmas)

text_or_empty-Text : (text : List ℕ) → text_or_empty (json.Text text) ≡ text
unfolding text_or_empty
text_or_empty-Text text = ap (λ v. unwrap_or (kinds.text_of v) []) (out-Text text)

items_or_none-List : (items : List Json) → items_or_none (json.List items) ≡ items
items_or_none-List items = ap (λ v. unwrap_or (kinds.list_of v) []) (out-List items)

number_or_zero-Whole : (n : ℕ) → n < 2 ^ 64 → number_or_zero (json.Whole (pos n)) ≡ n
number_or_zero-Whole n fits =
    ap number_of_level (out-Whole (pos n)) ∙ ap (λ b. if b then n else 0) (lt-ltb n (2 ^ 64) fits)

-- ---- the values of keys

pub member_of-found : (key : List ℕ) (es : List (List ℕ × Json)) (v : Json) → first_of key es ≡ Some v
    → member_of key (json.Map es) ≡ Some v
member_of-found key es v found = ap (member_in key) (out-Map es) ∙ found

-- the value of a key is read, once it is found
at_key-found : {A : Type 0} (read_value : Json → A) (absent : A) (key : List ℕ) (es : List (List ℕ × Json)) (v : Json)
    → first_of key es ≡ Some v → at_key read_value absent key (json.Map es) ≡ read_value v
at_key-found read_value absent key es v found =
    ap (λ o. unwrap_or (option_map read_value o) absent) (member_of-found key es v found)

pub text_of-found : (key : List ℕ) (es : List (List ℕ × Json)) (text : List ℕ)
    → first_of key es ≡ Some (json.Text text) → text_of key (json.Map es) ≡ text
unfolding text_of
text_of-found key es text found =
    at_key-found text_or_empty [] key es (json.Text text) found ∙ text_or_empty-Text text

pub items_of-found : (key : List ℕ) (es : List (List ℕ × Json)) (items : List Json)
    → first_of key es ≡ Some (json.List items) → items_of key (json.Map es) ≡ items
unfolding items_of
items_of-found key es items found =
    at_key-found items_or_none [] key es (json.List items) found ∙ items_or_none-List items

pub number_of-found : (key : List ℕ) (es : List (List ℕ × Json)) (n : ℕ)
    → first_of key es ≡ Some (json.Whole (pos n)) → n < 2 ^ 64 → number_of key (json.Map es) ≡ n
unfolding number_of
number_of-found key es n found fits =
    at_key-found number_or_zero 0 key es (json.Whole (pos n)) found ∙ number_or_zero-Whole n fits

pub moment_of-found : (key : List ℕ) (es : List (List ℕ × Json)) (moment : ℤ)
    → first_of key es ≡ Some (json.Text (moment_text moment)) → IsMoment moment → moment_of key (json.Map es) ≡ moment
unfolding moment_of
moment_of-found key es moment found within =
    ap (λ text. unwrap_or (moment_reading text) (pos 0)) (text_of-found key es (moment_text moment) found)
    ∙ ap (λ o. unwrap_or o (pos 0)) (reading-moment_text moment within)

-- ---- what is read is of its type

small : (n : ℕ) (b : Bool) → nat_lt n (2 ^ 64) ≡ b → (if b then n else 0) < 2 ^ 64
small n true is = ltb-true n (2 ^ 64) is
small n false is = omega arith

number_of_level-small : (level : Json-F Json) → number_of_level level < 2 ^ 64
number_of_level-small Json-F.Null = omega arith
number_of_level-small (Json-F.Truth b) = omega arith
number_of_level-small (Json-F.Whole (pos n)) = small n (nat_lt n (2 ^ 64)) refl
number_of_level-small (Json-F.Whole (negsuc n)) = omega arith
number_of_level-small (Json-F.Text text) = omega arith
number_of_level-small (Json-F.List items) = omega arith
number_of_level-small (Json-F.Map entries) = omega arith

found_small : (found : Option Json) → unwrap_or (option_map number_or_zero found) 0 < 2 ^ 64
found_small None = omega arith
found_small (Some value) = number_of_level-small (out-Json value)

pub number_of-small : (key : List ℕ) (value : Json) → number_of key value < 2 ^ 64
unfolding number_of
number_of-small key value = found_small (member_of key value)

moment_found : (text : List ℕ) (found : Option ℤ) → moment_reading text ≡ found → IsMoment (unwrap_or found (pos 0))
moment_found text None is = search rules
moment_found text (Some moment) is = (reading-only moment text is).0

pub moment_of-IsMoment : (key : List ℕ) (value : Json) → IsMoment (moment_of key value)
unfolding moment_of
moment_of-IsMoment key value = moment_found (text_of key value) (moment_reading (text_of key value)) refl
