-- A sort's text is read as the rules say.
use Rattle.std.proofs.Common.{◌≡◌, ◌∙◌, ◌↔◌, ℕ, zero, suc, ◌<◌, Bool, true, false, ◌||◌, List, [], ◌∷◌, ◌++◌}
use Rattle.std.proofs.Common.{Option, Some, None, Result, Ok, Err, refl, sym, ap, ap₂, subst, arith, map, length, get_or}
use Rattle.std.specs.Prelude.{Contains, is_none, option_map, option_to_list}
use Rattle.table_schema.specs.Field.{FieldValue}
use Rattle.datastore_query.specs.declared.column.Column.{Column}
use Rattle.datastore_query.specs.declared.sort.Sort.{Sort}
use Rattle.datastore_query.specs.declared.sort.SortName.{SortName}
use Rattle.datastore_query.specs.Column.{column_of, no_field_error}
use Rattle.datastore_query.specs.SortText.{part_reading, parts_of}
use Rattle.datastore_query.specs.Sort.{first_unknown, is_unreadable, name_if, or_next}
use Rattle.datastore_query.specs.Sort.{parts_reading, sort_of, sort_on, sort_reading, sorts_in, unknown_name, unless_unknown}
use Rattle.datastore_query.specs.Sort.{unless_unreadable}
use Rattle.datastore_query.specs.SortReading.{AllNameColumns, IsSortReading, IsSortText, NamesColumn}
use Rattle.datastore_query.specs.SortReading.NamesColumn.{names, unreadable}
use Rattle.datastore_query.specs.SortReading.IsSortReading.{each_read, no_field, not_readable}
use Rattle.datastore_query.proofs.GrammarLemmas.{sort_parts_by_grammar}

-- ---- names without a column

known_is : (fields : List FieldValue) (part : Option SortName) → NamesColumn fields part
    → unknown_name fields part ≡ None
known_is fields _ unreadable = refl
known_is fields _ (names part on e) = ap (name_if part.name) e

all_known : (fields : List FieldValue) (parts : List (Option SortName)) → AllNameColumns fields parts
    → first_unknown fields parts ≡ None
all_known fields [] known = refl
all_known fields (part ∷ parts) known =
    ap (λ o. or_next o (first_unknown fields parts)) (known_is fields part known.0) ∙ all_known fields parts known.1

first_is : (fields : List FieldValue) (before after : List (Option SortName)) (part : SortName)
    → AllNameColumns fields before → column_of fields part.name ≡ None
    → first_unknown fields (before ++ Some part ∷ after) ≡ Some part.name
first_is fields [] after part known e = ap (λ o. or_next (name_if part.name o) (first_unknown fields after)) e
first_is fields (other ∷ before) after part known e =
    ap (λ o. or_next o (first_unknown fields (before ++ Some part ∷ after))) (known_is fields other known.0)
    ∙ first_is fields before after part known.1 e

-- ---- reading

abbrev read_by : Option (List ℕ) → Bool → List Sort → Result (List Sort) (List ℕ)
read_by unknown unread sorts = unless_unknown (unless_unreadable unread sorts) unknown

none_unread : (parts : List (Option SortName)) (d : Option SortName) (k : ℕ) → k < length parts
    → get_or parts k None ≡ None → is_unreadable parts ≡ true
none_unread [] d k lt e = absurd (omega arith)
none_unread (part ∷ parts) d zero lt e = ap (λ o. is_none o || is_unreadable parts) e
none_unread (part ∷ parts) d (suc k) lt e =
    ap (λ b. is_none part || b) (none_unread parts d k (omega arith) e) ∙ either (is_none part)
  where
    either : (b : Bool) → (b || true) ≡ true
    either true = refl
    either false = refl

-- the sorts of parts that can be read, each with a column
each_is : (fields : List FieldValue) (parts : List (Option SortName)) (read : List Sort)
    → map (sort_of fields) parts ≡ map Some read
    → (first_unknown fields parts ≡ None) × (is_unreadable parts ≡ false) × (sorts_in fields parts ≡ read)
each_is fields [] [] e = (refl, refl, refl)
each_is fields [] (sort ∷ read) e = absurd (cc)
each_is fields (part ∷ parts) [] e = absurd (cc)
each_is fields (part ∷ parts) (sort ∷ read) e =
    by part (cc) (each_is fields parts read (cc))
  where
    by_column : (one : SortName) (o : Option Column) → column_of fields one.name ≡ o
        → option_map (sort_on one.direction) o ≡ Some sort → unknown_name fields (Some one) ≡ None
    by_column one (Some on) e is = ap (name_if one.name) e
    by_column one None e is = absurd (cc)

    by : (p : Option SortName) → sort_of fields p ≡ Some sort
        → (first_unknown fields parts ≡ None) × (is_unreadable parts ≡ false) × (sorts_in fields parts ≡ read)
        → (first_unknown fields (p ∷ parts) ≡ None) × (is_unreadable (p ∷ parts) ≡ false)
        × (sorts_in fields (p ∷ parts) ≡ sort ∷ read)
    by None is rest = absurd (cc)
    by (Some one) is rest = (
      ap (λ o. or_next o (first_unknown fields parts)) (by_column one (column_of fields one.name) refl is) ∙ rest.0,
      rest.1,
      ap₂ (λ o (sorts : List Sort). option_to_list o ++ sorts) is rest.2,
    )

reading_is : (fields : List FieldValue) (parts : List (Option SortName)) (read : Result (List Sort) (List ℕ))
    → IsSortReading fields parts read → parts_reading fields parts ≡ read
reading_is fields parts _ (each_read read e) =
    let facts = each_is fields parts read e in
    ap (λ o. read_by o (is_unreadable parts) (sorts_in fields parts)) facts.0
    ∙ ap (λ b. read_by None b (sorts_in fields parts)) facts.1
    ∙ ap Ok facts.2
reading_is fields parts _ (no_field before after part whole known none) =
    ap (λ o. read_by o (is_unreadable parts) (sorts_in fields parts))
    (ap (first_unknown fields) whole ∙ first_is fields before after part known none)
reading_is fields parts _ (not_readable known (k, lt, e)) =
    ap (λ o. read_by o (is_unreadable parts) (sorts_in fields parts)) (all_known fields parts known)
    ∙ ap (λ b. read_by None b (sorts_in fields parts)) (none_unread parts None k lt e)

-- ---- the rule that holds

-- the first name without a column, if there is one
record FirstUnknown (fields : List FieldValue) (parts : List (Option SortName)) (name : List ℕ) : Type 0 where
  before : List (Option SortName)
  after : List (Option SortName)
  part : SortName
  whole : parts ≡ before ++ Some part ∷ after
  known : AllNameColumns fields before
  none : column_of fields part.name ≡ None
  is : part.name ≡ name

abbrev WhichUnknown : List FieldValue → List (Option SortName) → Option (List ℕ) → Type 0
WhichUnknown fields parts None = AllNameColumns fields parts
WhichUnknown fields parts (Some name) = FirstUnknown fields parts name

which : (fields : List FieldValue) (parts : List (Option SortName))
    → WhichUnknown fields parts (first_unknown fields parts)
which fields [] = tt
which fields (part ∷ parts) = by part (which fields parts)
  where
    later : (p : Option SortName) → NamesColumn fields p → (o : Option (List ℕ)) → WhichUnknown fields parts o
        → WhichUnknown fields (p ∷ parts) o
    later p known None all = (known, all)
    later p known (Some name) first = record {
      before = p ∷ first.before;
      after = first.after;
      part = first.part;
      whole = ap (λ (xs : List (Option SortName)). p ∷ xs) first.whole;
      known = (known, first.known);
      none = first.none;
      is = first.is;
    }

    by_column : (one : SortName) (o : Option Column) → column_of fields one.name ≡ o
        → WhichUnknown fields parts (first_unknown fields parts)
        → WhichUnknown fields (Some one ∷ parts) (or_next (name_if one.name o) (first_unknown fields parts))
    by_column one None e more = record {
      before = [];
      after = parts;
      part = one;
      whole = refl;
      known = tt;
      none = e;
      is = refl;
    }
    by_column one (Some on) e more = later (Some one) (names one on e) (first_unknown fields parts) more

    by : (p : Option SortName) → WhichUnknown fields parts (first_unknown fields parts)
        → WhichUnknown fields (p ∷ parts) (first_unknown fields (p ∷ parts))
    by None more = later None unreadable (first_unknown fields parts) more
    by (Some one) more = by_column one (column_of fields one.name) refl more

unread_at : (parts : List (Option SortName)) → is_unreadable parts ≡ true → Contains parts None
unread_at [] e = absurd (cc)
unread_at (None ∷ parts) e = (0, omega arith, refl)
unread_at (Some part ∷ parts) e =
    let more = unread_at parts e in
    (suc more.0, omega (arith, more.1), more.2)

each_sorted : (fields : List FieldValue) (parts : List (Option SortName)) → AllNameColumns fields parts
    → is_unreadable parts ≡ false → map (sort_of fields) parts ≡ map Some (sorts_in fields parts)
each_sorted fields [] known read = refl
each_sorted fields (part ∷ parts) known read = by part known.0 read (each_sorted fields parts known.1)
  where
    by : (p : Option SortName) → NamesColumn fields p → is_unreadable (p ∷ parts) ≡ false
        → (is_unreadable parts ≡ false → map (sort_of fields) parts ≡ map Some (sorts_in fields parts))
        → map (sort_of fields) (p ∷ parts) ≡ map Some (sorts_in fields (p ∷ parts))
    by _ unreadable read more = absurd (cc)
    by _ (names one on e) read more =
        let sort : sort_of fields (Some one) ≡ Some (sort_on one.direction on) =
        ap (option_map (sort_on one.direction)) e in
        ap₂ (λ o (sorts : List (Option Sort)). o ∷ sorts) sort (more read)
        ∙ ap (λ o. map Some (option_to_list o ++ sorts_in fields parts)) (sym sort)

rule_holds : (fields : List FieldValue) (parts : List (Option SortName))
    → IsSortReading fields parts (parts_reading fields parts)
rule_holds fields parts = by (first_unknown fields parts) (which fields parts) (is_unreadable parts) refl
  where
    by : (o : Option (List ℕ)) → WhichUnknown fields parts o → (b : Bool) → is_unreadable parts ≡ b
        → IsSortReading fields parts (read_by o b (sorts_in fields parts))
    by (Some name) first b e =
        subst (λ n. IsSortReading fields parts (Err (no_field_error n))) first.is
        (no_field first.before first.after first.part first.whole first.known first.none)
    by None known true e = not_readable known (unread_at parts e)
    by None known false e = each_read (sorts_in fields parts) (each_sorted fields parts known e)

-- A sort's text is read exactly as the grammar and the rules say.
pub sort_by_grammar : (fields : List FieldValue) (text : List ℕ) (read : Result (List Sort) (List ℕ))
    → (sort_reading fields text ≡ read) ↔ IsSortText fields text read
sort_by_grammar fields text read = (
  λ e. record {
    parts = map part_reading (parts_of text);
    named = (sort_parts_by_grammar text (map part_reading (parts_of text))).0 refl;
    reading = subst (IsSortReading fields (map part_reading (parts_of text))) e
        (rule_holds fields (map part_reading (parts_of text)));
  },
  λ is.
      ap (parts_reading fields) ((sort_parts_by_grammar text is.parts).1 is.named)
      ∙ reading_is fields is.parts read is.reading,
)
