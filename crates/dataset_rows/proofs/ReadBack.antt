-- JSON values that are read back from their texts.
use Rattle.std.proofs.Common.{◌≡◌, ℕ, suc, ◌≤◌, ◌<◌, ◌^◌, pos, Bool, List, [], ◌∷◌, Option, Some, option_map}
use Rattle.std.proofs.Common.{option_and_then, refl, sym, ap, ◌∙◌, subst, append-nil, rules, arith, None, Ok, Err}
use Rattle.std.proofs.Common.{◌⊎◌, inl, inr, IsUtf8}
use Rattle.std.specs.Prelude.{⊤, if◌then◌else◌}
use Rattle.std.proofs.lemmas.Str.{is_utf8-from_IsUtf8}
use Rattle.json.specs.Json as grammar
use Rattle.json.specs.Lex.{tokens}
use Rattle.json.specs.Token.{Token}
use Rattle.json.specs.Tree as tree
use Rattle.json.specs.Tree.{json_tokens, HasNumbers, ItemsHaveNumbers, MembersHaveNumbers}
use Rattle.json.proofs.Printed.Decimals.{IsNumber-decimal}
use Rattle.json.proofs.Printed.Tokens.{tokens-print}
use Rattle.json.proofs.Printed.Trees.{value-json_tokens, ArePrintable-json_tokens}
use Rattle.serde_json.specs.Data.{unsigned, Data, boolean, number, string, array, object}
use Rattle.serde_json.specs.Data.{Items, item, Members, no_members, member, put}
use Rattle.serde_json.specs.Read.{of_json, of_items, of_members, read, max_depth}
use Rattle.serde_json.specs.Written.{outline, items_outline, members_outline, compact_text}
use Rattle.serde_json.proofs.Numbers.{number_of-decimal}
use Rattle.serde_json.proofs.Texts.{print-outline}
use Rattle.portal_base.specs.Json.{data_of, items_data, members_data, json_of, list_of, entries_of, json_text}
use Rattle.portal_base.specs.declared.json_value.Json as json
use Rattle.portal_base.specs.Json.{or_fault, reading_of, json_reading}
use Rattle.portal_base.specs.declared.json_value.Json.{Json, the_lemmas}
use Rattle.portal_base.specs.declared.json_value.JsonFault.{JsonFault}
use Rattle.portal_base.specs.declared.json_value.JsonFault.TheVariants.{NotJson, Fraction, OutOfMemory}
use Rattle.dataset_rows.specs.Reading.{json_read}

-- ---- the data of a value, level by level

pub data_of-Text : (text : List ℕ) → data_of (json.Text text) ≡ string text
data_of-Text text = search (rules, the_lemmas)

pub data_of-Truth : (b : Bool) → data_of (json.Truth b) ≡ boolean b
data_of-Truth b = search (rules, the_lemmas)

pub data_of-Whole : (n : ℕ) → data_of (json.Whole (pos n)) ≡ number (unsigned n)
data_of-Whole n = search (rules, the_lemmas)

pub data_of-List : (js : List Json) → data_of (json.List js) ≡ array (items_data js)
data_of-List js = search (rules, the_lemmas)

pub data_of-Map : (es : List (List ℕ × Json)) → data_of (json.Map es) ≡ object (members_data es)
data_of-Map es = search (rules, the_lemmas)

-- ---- data that is read back

-- The grammar reads the data again from its own value, which nests at most so many levels. The data is that of the value.
pub record IsBack (levels : ℕ) (j : Json) (d : Data) : Type 0 where
  pub numbers : HasNumbers (outline d)
  pub nests : tree.depth (outline d) ≤ levels
  pub reads : of_json (outline d) ≡ Some d
  pub same : json_of d ≡ Some j

-- the value is read back
abbrev pub IsReadBack : ℕ → Json → Type 0
IsReadBack levels j = IsBack levels j (data_of j)

by_data : (levels : ℕ) (j : Json) (d : Data) → data_of j ≡ d → IsBack levels j d → IsReadBack levels j
by_data levels j d is back = subst (λ (x : Data). IsBack levels j x) (sym is) back

pub text_back : (levels : ℕ) (text : List ℕ) → IsReadBack levels (json.Text text)
text_back levels text = by_data levels (json.Text text) (string text) (data_of-Text text)
    (record { numbers = tt; nests = omega arith; reads = refl; same = refl })

pub truth_back : (levels : ℕ) (b : Bool) → IsReadBack levels (json.Truth b)
truth_back levels b = by_data levels (json.Truth b) (boolean b) (data_of-Truth b)
    (record { numbers = tt; nests = omega arith; reads = refl; same = refl })

pub whole_back : (levels n : ℕ) → n < 2 ^ 64 → IsReadBack levels (json.Whole (pos n))
whole_back levels n fits = by_data levels (json.Whole (pos n)) (number (unsigned n)) (data_of-Whole n)
    (record {
      numbers = IsNumber-decimal n fits;
      nests = omega arith;
      reads = ap (option_map number) (number_of-decimal n fits);
      same = refl;
    })

-- ---- lists

-- each value is read back
abbrev pub AreReadBack : ℕ → List Json → Type 0
AreReadBack levels [] = ⊤
AreReadBack levels (j ∷ js) = IsReadBack levels j × AreReadBack levels js

record AreItemsBack (levels : ℕ) (js : List Json) (ds : Items) : Type 0 where
  numbers : ItemsHaveNumbers (items_outline ds)
  nests : tree.items_depth (items_outline ds) ≤ levels
  reads : of_items (items_outline ds) ≡ Some ds
  same : list_of ds ≡ Some js

items_back : (levels : ℕ) (js : List Json) → AreReadBack levels js → AreItemsBack levels js (items_data js)
items_back levels [] all = record { numbers = tt; nests = omega arith; reads = refl; same = refl }
items_back levels (j ∷ js) all =
    let rest = items_back levels js all.1 in
    record {
      numbers = (all.0.numbers, rest.numbers);
      nests = omega (arith, all.0.nests, rest.nests);
      reads = rw all.0.reads (ap (option_map (item (data_of j))) rest.reads);
      same = rw all.0.same (ap (option_map (λ (ks : List Json). j ∷ ks)) rest.same);
    }

pub list_back : (levels : ℕ) (js : List Json) → AreReadBack levels js → IsReadBack (suc levels) (json.List js)
list_back levels js all =
    let items = items_back levels js all in
    by_data (suc levels) (json.List js) (array (items_data js)) (data_of-List js)
    (record {
      numbers = items.numbers;
      nests = omega (arith, items.nests);
      reads = ap (option_map array) items.reads;
      same = ap (option_map json.List) items.same;
    })

-- ---- dictionaries

-- the value of each entry is read back
abbrev pub AreEntriesReadBack : ℕ → List (List ℕ × Json) → Type 0
AreEntriesReadBack levels [] = ⊤
AreEntriesReadBack levels (e ∷ es) = IsReadBack levels e.1 × AreEntriesReadBack levels es

-- the members after these are put among them, one after the other
abbrev pub with_members : Members → Members → Members
with_members no_members found = found
with_members (member k d ms) found = with_members ms (put k d found)

record AreMembersBack (levels : ℕ) (es : List (List ℕ × Json)) (ms : Members) : Type 0 where
  numbers : MembersHaveNumbers (members_outline ms)
  nests : tree.members_depth (members_outline ms) ≤ levels
  reads : (found : Members) → of_members (members_outline ms) found ≡ Some (with_members ms found)
  same : entries_of ms ≡ Some es

members_back : (levels : ℕ) (es : List (List ℕ × Json)) → AreEntriesReadBack levels es
    → AreMembersBack levels es (members_data es)
members_back levels [] all = record { numbers = tt; nests = omega arith; reads = λ found. refl; same = refl }
members_back levels (e ∷ es) all =
    let rest = members_back levels es all.1 in
    let d = data_of e.1 in
    record {
      numbers = (all.0.numbers, rest.numbers);
      nests = omega (arith, all.0.nests, rest.nests);
      reads = λ found. rw all.0.reads (rest.reads (put e.0 d found));
      same = rw all.0.same (ap (option_map (λ (fs : List (List ℕ × Json)). e ∷ fs)) rest.same);
    }

-- Keys that ascend are put at the end, one after the other.
pub map_back : (levels : ℕ) (es : List (List ℕ × Json)) → with_members (members_data es) no_members ≡ members_data es
    → AreEntriesReadBack levels es → IsReadBack (suc levels) (json.Map es)
map_back levels es in_order all =
    let members = members_back levels es all in
    by_data (suc levels) (json.Map es) (object (members_data es)) (data_of-Map es)
    (record {
      numbers = members.numbers;
      nests = omega (arith, members.nests);
      reads = ap (option_map object) (members.reads no_members ∙ ap Some in_order);
      same = ap (option_map json.Map) members.same;
    })

-- ---- the text of a value

-- the data of a text without a rest
abbrev whole : Option (grammar.Json × List Token) → Option Data
whole found = option_and_then of_json (option_and_then (λ p. grammar.if_last p.0 p.1) found)

pub read-json_text : (levels : ℕ) (j : Json) → levels ≤ max_depth → IsReadBack levels j
    → read (json_text j) ≡ Some (data_of j)
read-json_text levels j shallow back =
    let d = data_of j in
    let ts = json_tokens (outline d) in
    let lexed : tokens (compact_text d) ≡ ts = ap tokens (sym (print-outline d))
    ∙ tokens-print ts (ArePrintable-json_tokens (outline d) back.numbers) in
    let nests : tree.depth (outline d) ≤ max_depth = omega (arith, back.nests) in
    let parsed = value-json_tokens (outline d) max_depth [] nests in
    ap (λ us. whole (grammar.value max_depth us)) (lexed ∙ sym (append-nil ts)) ∙ ap whole parsed ∙ back.reads

-- ---- the value of a text in UTF-8

reading_of_utf8 : (text : List ℕ) → IsUtf8 text → json_reading text ≡ reading_of (read text)
reading_of_utf8 text utf8 =
    ap (λ b. if b then reading_of (read text) else Err NotJson) (is_utf8-from_IsUtf8 text utf8)

whole_value : (found : Option Json) (j : Json) → or_fault Fraction found ≡ Ok j → found ≡ Some j
whole_value None j is = absurd (cc)
whole_value (Some k) j is = cc

no_value : (found : Option Json) (fault : JsonFault) → or_fault Fraction found ≡ Err fault → found ≡ None
no_value None fault is = refl
no_value (Some k) fault is = absurd (cc)

value_of : (found : Option Data) (j : Json) → reading_of found ≡ Ok j → option_and_then json_of found ≡ Some j
value_of None j is = absurd (cc)
value_of (Some d) j is = whole_value (json_of d) j is

none_of : (found : Option Data) (fault : JsonFault) → reading_of found ≡ Err fault → option_and_then json_of found ≡ None
none_of None fault is = refl
none_of (Some d) fault is = no_value (json_of d) fault is

read_of : (found : Option Data) (j : Json) → option_and_then json_of found ≡ Some j → reading_of found ≡ Ok j
read_of None j is = absurd (cc)
read_of (Some d) j is = ap (or_fault Fraction) is

pub json_read-Ok : (text : List ℕ) (j : Json) → IsUtf8 text → json_reading text ≡ Ok j → json_read text ≡ Some j
unfolding json_read
json_read-Ok text j utf8 is = value_of (read text) j (sym (reading_of_utf8 text utf8) ∙ is)

-- the fault is that the text isn't JSON, or has a number with a fraction
abbrev IsOfText : JsonFault → Type 0
IsOfText fault = (fault ≡ NotJson) ⊎ (fault ≡ Fraction)

of_text : (fault : JsonFault) → IsOfText fault → fault ≡ OutOfMemory → ⊥
of_text fault (inl is) memory = cc
of_text fault (inr is) memory = cc

pub json_read-Err : (text : List ℕ) (fault : JsonFault) → IsUtf8 text → (fault ≡ NotJson) ⊎ (fault ≡ Fraction)
    → (fault ≡ OutOfMemory) ⊎ (json_reading text ≡ Err fault) → json_read text ≡ None
unfolding json_read
json_read-Err text fault utf8 other (inl memory) = absurd (of_text fault other memory)
json_read-Err text fault utf8 other (inr is) = none_of (read text) fault (sym (reading_of_utf8 text utf8) ∙ is)

pub json_reading-Ok : (text : List ℕ) (j : Json) → IsUtf8 text → json_read text ≡ Some j → json_reading text ≡ Ok j
unfolding json_read
json_reading-Ok text j utf8 is = reading_of_utf8 text utf8 ∙ read_of (read text) j is
