-- Examples of values by their kinds, and of keys of a body.
use Rattle.std.proofs.Common.{◌≡◌, [], ◌∷◌, List, ℕ, pos, negsuc, true, false, codes, refl, rules}
use Rattle.std.specs.Prelude.{Some, None, Ok, Err}
use Rattle.std.specs.Fmt.{digits}
use Rattle.portal_base.specs.declared.json_value.Json as json
use Rattle.portal_base.specs.declared.json_value.Json.{Json, out-Json, the_lemmas}
use Rattle.portal_base.specs.declared.json_value.Json.TheOpen.{Json-F}
use Rattle.portal_base.specs.declared.kinds.KindFault.TheVariants.{Missing, NotText, NotWholeFromZero, NotWhole}
use Rattle.portal_base.specs.declared.kinds.KindFault.TheVariants.{NotTruth, NotTexts, NotList, NotDictionary, Longer}
use Rattle.portal_base.specs.Kinds.{whole_of, whole_spelled, truth_of, truth_spelled, texts_in, texts_spelled, text_at}
use Rattle.portal_base.specs.Kinds.{whole_at, count_at, truth_at, texts_at, list_at, dictionary_at, short_text_at}
use Rattle.portal_base.specs.Kinds.{required, message_of}

-- ---- whole numbers

one_digit : whole_spelled (codes "7") ≡ Some (pos 7)
one_digit = refl

leading_zeros : whole_spelled (codes "0001") ≡ Some (pos 1)
leading_zeros = refl

minus_zero : whole_spelled (codes "-0") ≡ Some (pos 0)
minus_zero = refl

minus_five : whole_spelled (codes "-5") ≡ Some (negsuc 4)
minus_five = refl

eighteen_digits : whole_spelled (codes "999999999999999999") ≡ Some (pos 999999999999999999)
eighteen_digits = refl

minus_eighteen_digits : whole_spelled (codes "-000000000000000012") ≡ Some (negsuc 11)
minus_eighteen_digits = refl

nineteen_digits : whole_spelled (codes "0000000000000000001") ≡ None
nineteen_digits = refl

minus_nineteen_digits : whole_spelled (codes "-1000000000000000000") ≡ None
minus_nineteen_digits = refl

plus : whole_spelled (codes "+1") ≡ None
plus = refl

space : whole_spelled (codes " 1") ≡ None
space = refl

minus_alone : whole_spelled (codes "-") ≡ None
minus_alone = refl

two_minuses : whole_spelled (codes "--1") ≡ None
two_minuses = refl

nothing : whole_spelled [] ≡ None
nothing = refl

fraction : whole_spelled (codes "1.0") ≡ None
fraction = refl

-- A digit of another script, the Arabic-Indic one, in UTF-8.
other_digit : whole_spelled (217 ∷ 161 ∷ []) ≡ None
other_digit = refl

truth_is_no_number : whole_of (Json-F.Truth true) ≡ None
truth_is_no_number = refl

-- ---- truth values

true_text : truth_spelled (codes "true") ≡ Some true
true_text = refl

True_text : truth_spelled (codes "True") ≡ Some true
True_text = refl

one_text : truth_spelled (codes "1") ≡ Some true
one_text = refl

false_text : truth_spelled (codes "false") ≡ Some false
false_text = refl

False_text : truth_spelled (codes "False") ≡ Some false
False_text = refl

zero_text : truth_spelled (codes "0") ≡ Some false
zero_text = refl

TRUE_text : truth_spelled (codes "TRUE") ≡ None
TRUE_text = refl

yes_text : truth_spelled (codes "yes") ≡ None
yes_text = refl

one_is_no_truth : truth_of (Json-F.Whole (pos 1)) ≡ None
one_is_no_truth = refl

-- ---- lists of texts

parts : texts_spelled (codes " a , ,b") ≡ codes "a" ∷ codes "b" ∷ []
parts = refl

tabs : texts_spelled (9 ∷ 97 ∷ 32 ∷ 98 ∷ 9 ∷ 32 ∷ []) ≡ codes "a b" ∷ []
tabs = refl

commas_alone : texts_spelled (codes ",, ,") ≡ []
commas_alone = refl

empty_text : texts_spelled [] ≡ []
empty_text = refl

-- Only spaces and tabs are trimmed: a line feed stays.
line_feed : texts_spelled (10 ∷ 97 ∷ []) ≡ (10 ∷ 97 ∷ []) ∷ []
line_feed = refl

list_as_it_is : texts_in (json.List (json.Text [] ∷ json.Text (codes " a") ∷ [])) ≡ Some ([] ∷ codes " a" ∷ [])
list_as_it_is = search (rules, the_lemmas)

list_with_a_number : texts_in (json.List (json.Text (codes "a") ∷ json.Whole (pos 1) ∷ [])) ≡ None
list_with_a_number = search (rules, the_lemmas)

number_is_no_list : texts_in (json.Whole (pos 1)) ≡ None
number_is_no_list = search (rules, the_lemmas)

-- ---- keys of a body

-- a body of one key `k`
abbrev body : Json → Json
body value = json.Map ((codes "k", value) ∷ [])

abbrev k : List ℕ
k = codes "k"

absent : text_at (codes "j") (body (json.Text [])) ≡ Ok None
absent = search (rules, the_lemmas)

null_is_absent : text_at k (body json.Null) ≡ Ok None
null_is_absent = search (rules, the_lemmas)

no_dictionary_has_no_key : text_at k (json.Text k) ≡ Ok None
no_dictionary_has_no_key = search (rules, the_lemmas)

missing : required {A = List ℕ} None ≡ Err Missing
missing = refl

no_text : text_at k (body (json.Whole (pos 1))) ≡ Err NotText
no_text = search (rules, the_lemmas)

no_whole : whole_at k (body (json.Text (codes "one"))) ≡ Err NotWhole
no_whole = search (rules, the_lemmas)

negative : count_at k (body (json.Whole (negsuc 0))) ≡ Err NotWholeFromZero
negative = search (rules, the_lemmas)

negative_text : count_at k (body (json.Text (codes "-1"))) ≡ Err NotWholeFromZero
negative_text = search (rules, the_lemmas)

minus_zero_counts : count_at k (body (json.Text (codes "-0"))) ≡ Ok (Some 0)
minus_zero_counts = search (rules, the_lemmas)

negative_allowed : whole_at k (body (json.Whole (negsuc 0))) ≡ Ok (Some (negsuc 0))
negative_allowed = search (rules, the_lemmas)

no_truth : truth_at k (body (json.Whole (pos 0))) ≡ Err NotTruth
no_truth = search (rules, the_lemmas)

no_texts : texts_at k (body (json.Truth true)) ≡ Err NotTexts
no_texts = search (rules, the_lemmas)

no_list : list_at k (body (json.Text k)) ≡ Err NotList
no_list = search (rules, the_lemmas)

no_dictionary : dictionary_at k (body (json.List [])) ≡ Err NotDictionary
no_dictionary = search (rules, the_lemmas)

-- Two characters of two bytes each, é, are four bytes.
abbrev accents : List ℕ
accents = 195 ∷ 169 ∷ 195 ∷ 169 ∷ []

at_its_bound : short_text_at 4 k (body (json.Text accents)) ≡ Ok (Some accents)
at_its_bound = search (rules, the_lemmas)

one_byte_more : short_text_at 3 k (body (json.Text accents)) ≡ Err (Longer 3)
one_byte_more = search (rules, the_lemmas)

-- The kind comes before the bound.
kind_first : short_text_at 0 k (body (json.Whole (pos 10))) ≡ Err NotText
kind_first = search (rules, the_lemmas)

-- ---- messages

longer : message_of (Longer 2000) ≡ codes "Longer than 2000 bytes"
unfolding digits
longer = refl
