-- A value that can be read is read back from its own text. portal_base has this for a value in memory alone, as the clause
-- of `Json::text`.
use Rattle.std.proofs.Common.{◌≡◌, ℕ, ℤ, suc, max, ◌≤◌, pos, negsuc, List, [], ◌∷◌, map, false, Option, Some, option_map}
use Rattle.std.proofs.Common.{option_and_then, Ok, Less, Greater, IsUtf8, nat_cmp, refl, sym, ap, ap₂, ◌∙◌, subst}
use Rattle.std.proofs.Common.{append-nil}
use Rattle.std.proofs.lemmas.Bool.{or_parts}
use Rattle.std.proofs.lemmas.Cmp.{nat_list_cmp_total}
use Rattle.std.proofs.lemmas.Option.{same_Some}
use Rattle.std.proofs.lemmas.Str.{is_utf8-from_IsUtf8}
use Rattle.std.specs.Cmp.Lexicographic.{slice_cmp}
use Rattle.std.specs.Ordering.{ordering_reverse}
use Rattle.std.specs.Prelude.{⊤}
use Rattle.json.specs.Json as grammar
use Rattle.json.specs.Lex.{tokens}
use Rattle.json.specs.Token.{Token}
use Rattle.json.specs.Print.{IsNumber}
use Rattle.json.specs.Tree as tree
use Rattle.json.specs.Tree.{json_tokens, HasNumbers, ItemsHaveNumbers, MembersHaveNumbers}
use Rattle.json.proofs.Printed.Decimals.{IsNumber-decimal, IsNumber-signed_decimal}
use Rattle.json.proofs.Printed.Tokens.{tokens-print}
use Rattle.json.proofs.Printed.Trees.{value-json_tokens, ArePrintable-json_tokens}
use Rattle.serde_json.specs.Data.{Num, unsigned, negative, float, Data, null, boolean, number, string, array, object}
use Rattle.serde_json.specs.Data.{Items, no_items, item, Members, no_members, member, put, depth, items_depth}
use Rattle.serde_json.specs.Data.{members_depth}
use Rattle.serde_json.specs.Find.{as_integer, is_float, of_integer}
use Rattle.serde_json.specs.Read.{number_of, of_json, of_items, of_members, read, max_depth}
use Rattle.serde_json.specs.Written.{number_text, outline, items_outline, members_outline, has_float}
use Rattle.serde_json.specs.Written.{items_have_float, members_have_float, compact_text}
use Rattle.serde_json.proofs.Numbers.{number_of-decimal, number_of-negative}
use Rattle.serde_json.proofs.Texts.{print-outline}
use Rattle.portal_base.specs.Json.{Fits, Precedes, IsOrderly, ItemsAreOrderly, MembersAreOrderly, IsReadable, data_of}
use Rattle.portal_base.specs.Json.{data_step, items_data, members_data, json_of, list_of, entries_of}
use Rattle.portal_base.specs.Json.{json_text, json_reading, or_fault, reading_of}
use Rattle.portal_base.specs.declared.json_value.Json.{Json}
use Rattle.portal_base.specs.declared.json_value.Json.TheOpen.{Json-F}
use Rattle.portal_base.specs.declared.json_value.Json.TheFolds.{map-Json, fold-roll-Json, ind-Json}
use Rattle.portal_base.specs.declared.json_value.Json.TheVariants.{rolls-Null, rolls-Truth, rolls-Whole, rolls-Text}
use Rattle.portal_base.specs.declared.json_value.Json.TheVariants.{rolls-List, rolls-Map}
use Rattle.portal_base.specs.declared.json_value.Json.TheViews.{roll-Json}
use Rattle.portal_base.specs.declared.json_value.JsonFault.TheVariants.{Fraction}

-- ---- a value's data has no float, and is the value's data alone

as_integer-of_integer : (z : ℤ) → as_integer (of_integer z) ≡ Some z
as_integer-of_integer (pos n) = refl
as_integer-of_integer (negsuc n) = refl

is_float-of_integer : (z : ℤ) → is_float (of_integer z) ≡ false
is_float-of_integer (pos n) = refl
is_float-of_integer (negsuc n) = refl

abbrev IsKept : Json → Type 0
IsKept j = (has_float (data_of j) ≡ false) × (json_of (data_of j) ≡ Some j)

abbrev Kept : Type 0
Kept = (j : Json) × IsKept j

items_kept : (es : List Kept)
    → (items_have_float (items_data (map (λ e. e.0) es)) ≡ false)
    × (list_of (items_data (map (λ e. e.0) es)) ≡ Some (map (λ e. e.0) es))
items_kept [] = (refl, refl)
items_kept (e ∷ es) = let rest = items_kept es in (rw e.1.0 rest.0, rw e.1.1 (rw rest.1))

entries_kept : (es : List (List ℕ × Kept))
    → (members_have_float (members_data (map (λ e. (e.0, e.1.0)) es)) ≡ false)
    × (entries_of (members_data (map (λ e. (e.0, e.1.0)) es)) ≡ Some (map (λ e. (e.0, e.1.0)) es))
entries_kept [] = (refl, refl)
entries_kept (e ∷ es) = let rest = entries_kept es in (rw e.1.1.0 rest.0, rw e.1.1.1 (rw rest.1))

abbrev IsLayerKept : Json-F Json → Type 0
IsLayerKept x = (has_float (data_step (map-Json Json Data data_of x)) ≡ false)
    × (json_of (data_step (map-Json Json Data data_of x)) ≡ Some (roll-Json x))

layer_kept : (y : Json-F Kept) → IsLayerKept (map-Json Kept Json (λ e. e.0) y)
layer_kept Json-F.Null = (refl, ap Some (sym rolls-Null))
layer_kept (Json-F.Truth b) = (refl, ap Some (sym (rolls-Truth b)))
layer_kept (Json-F.Whole z) = (is_float-of_integer z, rw (as_integer-of_integer z) (ap Some (sym (rolls-Whole z))))
layer_kept (Json-F.Text s) = (refl, ap Some (sym (rolls-Text s)))
layer_kept (Json-F.List es) = let all = items_kept es in (all.0, rw all.1 (ap Some (sym (rolls-List _))))
layer_kept (Json-F.Map es) = let all = entries_kept es in (all.0, rw all.1 (ap Some (sym (rolls-Map _))))

kept : (j : Json) → IsKept j
kept = ind-Json IsKept (λ x y is.
    let layer = subst IsLayerKept is (layer_kept y) in
    let opened = fold-roll-Json Data data_step x in
    (ap has_float opened ∙ layer.0, ap json_of opened ∙ layer.1))

has_float-data_of : (j : Json) → has_float (data_of j) ≡ false
has_float-data_of j = (kept j).0

json_of-data_of : (j : Json) → json_of (data_of j) ≡ Some j
json_of-data_of j = (kept j).1

-- ---- the data is read back

IsNumber-number_text : (n : Num) → is_float n ≡ false → Fits n → IsNumber (number_text n)
IsNumber-number_text (unsigned n) whole h = IsNumber-decimal n h
IsNumber-number_text (negative (pos n)) whole h = absurd h
IsNumber-number_text (negative (negsuc n)) whole h = IsNumber-signed_decimal (negsuc n) h
IsNumber-number_text (float x) whole h = absurd (cc)

number_of-number_text : (n : Num) → is_float n ≡ false → Fits n → number_of (number_text n) ≡ Some n
number_of-number_text (unsigned n) whole h = number_of-decimal n h
number_of-number_text (negative (pos n)) whole h = absurd h
number_of-number_text (negative (negsuc n)) whole h = number_of-negative n h
number_of-number_text (float x) whole h = absurd (cc)

-- ---- members that are added one after another

abbrev joined : Members → Members → Members
joined no_members ms = ms
joined (member k d done) ms = member k d (joined done ms)

joined_none : (done : Members) → joined done no_members ≡ done
joined_none no_members = refl
joined_none (member k d done) = ap (member k d) (joined_none done)

-- the keys so far come before the others
abbrev AllPrecede : Members → Members → Type 0
AllPrecede no_members ms = ⊤
AllPrecede (member k d done) ms = Precedes k ms × AllPrecede done ms

after : (k l : List ℕ) → slice_cmp nat_cmp l k ≡ Less → slice_cmp nat_cmp k l ≡ Greater
after k l below = nat_list_cmp_total.antisymm k l ∙ ap ordering_reverse below

put_last : (done : Members) (k : List ℕ) (d : Data) (ms : Members) → AllPrecede done (member k d ms)
    → joined (put k d done) ms ≡ joined done (member k d ms)
put_last no_members k d ms h = refl
put_last (member l e done) k d ms h = let above = after k l h.0.0 in
    rw above (ap (member l e) (put_last done k d ms h.1))

put_precedes : (done : Members) (k : List ℕ) (d : Data) (ms : Members) → AllPrecede done (member k d ms)
    → Precedes k ms → AllPrecede (put k d done) ms
put_precedes no_members k d ms h first = (first, tt)
put_precedes (member l e done) k d ms h first = let above = after k l h.0.0 in
    rw above (h.0.1, put_precedes done k d ms h.1 first)

-- ---- the grammar's value of the data

record IsBack (d : Data) : Type 0 where
  numbers : HasNumbers (outline d)
  nests : tree.depth (outline d) ≡ depth d
  reads : of_json (outline d) ≡ Some d

record AreItemsBack (ds : Items) : Type 0 where
  numbers : ItemsHaveNumbers (items_outline ds)
  nests : tree.items_depth (items_outline ds) ≡ items_depth ds
  reads : of_items (items_outline ds) ≡ Some ds

record AreMembersBack (ms : Members) : Type 0 where
  numbers : MembersHaveNumbers (members_outline ms)
  nests : tree.members_depth (members_outline ms) ≡ members_depth ms
  reads : (done : Members) → AllPrecede done ms → of_members (members_outline ms) done ≡ Some (joined done ms)

mutual
  back : (d : Data) → has_float d ≡ false → IsOrderly d → IsBack d
  back null whole h = record { numbers = tt; nests = refl; reads = refl }
  back (boolean b) whole h = record { numbers = tt; nests = refl; reads = refl }
  back (number n) whole h =
      record {
        numbers = IsNumber-number_text n whole h;
        nests = refl;
        reads = ap (option_map number) (number_of-number_text n whole h);
      }
  back (string s) whole h = record { numbers = tt; nests = refl; reads = refl }
  back (array ds) whole h = let all = items_back ds whole h in
      record { numbers = all.numbers; nests = ap suc all.nests; reads = ap (option_map array) all.reads }
  back (object ms) whole h = let all = members_back ms whole h in
      record {
        numbers = all.numbers;
        nests = ap suc all.nests;
        reads = ap (option_map object) (all.reads no_members tt);
      }

  items_back : (ds : Items) → items_have_float ds ≡ false → ItemsAreOrderly ds → AreItemsBack ds
  items_back no_items whole h = record { numbers = tt; nests = refl; reads = refl }
  items_back (item d ds) whole h =
      let parts = or_parts (has_float d) (items_have_float ds) whole in
      let first = back d parts.0 h.0 in
      let rest = items_back ds parts.1 h.1 in
      record {
        numbers = (first.numbers, rest.numbers);
        nests = ap₂ max first.nests rest.nests;
        reads = rw first.reads (ap (option_map (item d)) rest.reads);
      }

  members_back : (ms : Members) → members_have_float ms ≡ false → MembersAreOrderly ms → AreMembersBack ms
  members_back no_members whole h =
      record { numbers = tt; nests = refl; reads = λ done before. ap Some (sym (joined_none done)) }
  members_back (member k d ms) whole h =
      let parts = or_parts (has_float d) (members_have_float ms) whole in
      let first = back d parts.0 h.1 in
      let rest = members_back ms parts.1 h.2 in
      record {
        numbers = (first.numbers, rest.numbers);
        nests = ap₂ max first.nests rest.nests;
        reads = λ done before. ap (option_and_then (λ e. of_members (members_outline ms) (put k e done))) first.reads
            ∙ rest.reads (put k d done) (put_precedes done k d ms before h.0) ∙ ap Some (put_last done k d ms before);
      }

-- the data of a text without a rest
abbrev whole : Option (grammar.Json × List Token) → Option Data
whole o = option_and_then of_json (option_and_then (λ p. grammar.if_last p.0 p.1) o)

data_back : (d : Data) → has_float d ≡ false → IsOrderly d → depth d ≤ max_depth → read (compact_text d) ≡ Some d
data_back d whole_numbers orderly shallow =
    let is = back d whole_numbers orderly in
    let ts = json_tokens (outline d) in
    let lexed : tokens (compact_text d) ≡ ts = ap tokens (sym (print-outline d))
    ∙ tokens-print ts (ArePrintable-json_tokens (outline d) is.numbers) in
    let parsed = value-json_tokens (outline d) max_depth [] (subst (λ n. n ≤ max_depth) (sym is.nests) shallow) in
    ap (λ us. whole (grammar.value max_depth us)) (lexed ∙ sym (append-nil ts)) ∙ ap whole parsed ∙ is.reads

reading_of_data : (bytes : List ℕ) (d : Data) → IsUtf8 bytes → read bytes ≡ Some d
    → json_reading bytes ≡ or_fault Fraction (json_of d)
reading_of_data bytes d text is = rw (is_utf8-from_IsUtf8 bytes text) (ap reading_of is)

-- A value that can be read is read back from its own text.
pub read_back : (j : Json) (text : List ℕ) → IsUtf8 text → text ≡ json_text j → IsReadable j → json_reading text ≡ Ok j
read_back j text utf8 is readable =
    let found : read text ≡ Some (data_of j) = ap read is ∙ data_back (data_of j) (has_float-data_of j) readable.0
    readable.1 in
    reading_of_data text (data_of j) utf8 found ∙ ap (or_fault Fraction) (json_of-data_of j)

-- Values that can be read are equal if their texts are.
pub same_value : (i j : Json) → IsReadable i → IsReadable j → json_text i ≡ json_text j → i ≡ j
same_value i j readable also same =
    let both : Some (data_of i) ≡ Some (data_of j) =
    sym (data_back (data_of i) (has_float-data_of i) readable.0 readable.1) ∙ ap read same
    ∙ data_back (data_of j) (has_float-data_of j) also.0 also.1 in
    same_Some i j (sym (json_of-data_of i) ∙ ap (option_and_then json_of) both ∙ json_of-data_of j)
