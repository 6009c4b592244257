-- A schema reads back from the descriptor that it is written as.
use Rattle.std.proofs.Common.{◌≡◌, ℕ, suc, ◌<◌, ◌≤◌, nat_le, ◌==◌, arith, Bool, true, false, ◌&&◌, ◌||◌, not, refl}
use Rattle.std.proofs.Common.{ap, sym, ◌∙◌, subst, List, [], ◌∷◌, ◌++◌, map, length, codes}
use Rattle.std.specs.Prelude.{if◌then◌else◌, Option, Some, None, option_map, Result, Ok, Err, All}
use Rattle.std.specs.List.{list_all}
use Rattle.std.specs.Str.{bytes_eq}
use Rattle.std.proofs.lemmas.Bool.{and_parts, and_from}
use Rattle.std.proofs.lemmas.Slice.Eq.{bytes_eq-Decides}
use Rattle.std.proofs.lemmas.Bool.Decides.{nat_tests}
use Rattle.portal_base.specs.declared.json_value.Json as json
use Rattle.portal_base.specs.declared.json_value.Json.{Json, out-Json}
use Rattle.table_schema.specs.declared.column.Column.{Column}
use Rattle.table_schema.specs.declared.fault.SchemaFault.{SchemaFault}
use Rattle.table_schema.specs.declared.fault.SchemaFault.TheVariants.{NotJson, NoFields, BadKey}
use Rattle.table_schema.specs.declared.foreign.Foreign.{Foreign}
use Rattle.table_schema.specs.Descriptor.{dictionaries, field_items, columns_reading}
use Rattle.lexical_forms.specs.Digits.{is_empty}
use Rattle.table_schema.specs.Field.{FieldValue, SchemaValue, schema_from}
use Rattle.table_schema.specs.Keys.{field_of, missing_in, index_of, is_new, indices_from, indices_of, indices_in}
use Rattle.table_schema.specs.Keys.{key_in}
use Rattle.table_schema.specs.Keys.{refers_to_key, foreign_key_of, reference_in, resource_in, target_in, foreign_key_in}
use Rattle.table_schema.specs.Keys.{foreign_keys_in, fields_from, schema_of, schema_with_keys, columns_in}
use Rattle.table_schema.specs.Keys.{schema_reading}
use Rattle.table_schema.specs.Printed.{HasValues}
use Rattle.portal_base.specs.Kinds.{present, text_in, list_in}
use Rattle.table_schema.specs.Values.{◌>>=◌, ◌>>>◌, or_fault, or_default, is_map, dictionary_in, texts_in, names_of}
use Rattle.table_schema.specs.Values.{names_in, all_of}
use Rattle.table_schema.specs.Written.{texts_value, field_value, name_at, reference_value, foreign_key_value}
use Rattle.table_schema.specs.Written.{IsDescribed, schema_value}
use Rattle.table_schema.proofs.ColumnLemmas.{field_items-of}
use Rattle.table_schema.specs.Texts.{IsSpelled}
use Rattle.table_schema.proofs.DescriptorLemmas.{texts_in-back, columns-back, columns-length, columns-all, IsColumn}
use Rattle.table_schema.proofs.ValueLemmas.{bind-some, bind-same, bind-ok, ok-same, map-some, gated, or_fault-ok}
use Rattle.table_schema.proofs.ValueLemmas.{if_some, all_of-back, texts-back, out-List, text_in-Text, list_in-List}
use Rattle.table_schema.proofs.ValueLemmas.{dictionary_in-Map, is_map-Map, full-Text, full-List, full-Map}
use Rattle.table_schema.proofs.ValueLemmas.{present-Map}

-- ---- names of fields

-- The field at the index of a name has the name.
index_named : (columns : List Column) (name : List ℕ) (p : ℕ) (missing : List (List ℕ)) (key : List ℕ) (q : ℕ)
    → index_of columns name ≡ Some p → name_at (fields_from missing key q columns) p ≡ name
index_named [] name p missing key q e = cc
index_named (column ∷ columns) name p missing key q e =
    chosen (bytes_eq column.name name) refl e (λ index found. index_named columns name index missing key (suc q) found)
  where
    chosen : (b : Bool) → bytes_eq column.name name ≡ b
        → (if b then Some 0 else option_map suc (index_of columns name)) ≡ Some p
        → ((index : ℕ) → index_of columns name ≡ Some index
        → name_at (fields_from missing key (suc q) columns) index ≡ name)
        → name_at (fields_from missing key q (column ∷ columns)) p ≡ name
    chosen true is h rest = let first : 0 ≡ p = cc in
        subst (λ x. name_at (fields_from missing key q (column ∷ columns)) x ≡ name) first
        ((bytes_eq-Decides column.name name).0 is)
    chosen false is h rest =
        let later = map-some suc (index_of columns name) p h in
        subst (λ x. name_at (fields_from missing key q (column ∷ columns)) x ≡ name) later.1.1 (rest later.0 later.1.0)

abbrev next_indices : List Column → List ℕ → List (List ℕ) → ℕ → Option (List ℕ)
next_indices columns before names index =
    if is_new before index then option_map (λ indices. index ∷ indices)
    (indices_from columns (before ++ index ∷ []) names) else None

indices-back : (columns : List Column) (missing : List (List ℕ)) (key before : List ℕ) (names : List (List ℕ))
    (indices : List ℕ) → indices_from columns before names ≡ Some indices
    → indices_from columns before (map (name_at (fields_from missing key 0 columns)) indices) ≡ Some indices
indices-back columns missing key before [] indices e =
    let none : [] ≡ indices = cc in
    subst (λ l. indices_from columns before (map (name_at (fields_from missing key 0 columns)) l) ≡ Some l) none refl
indices-back columns missing key before (name ∷ names) indices e =
    let fields = fields_from missing key 0 columns in
    let found = bind-some (index_of columns name) (next_indices columns before names) indices e in
    let index = found.0 in
    let new =
    gated (is_new before index) (option_map (λ ps. index ∷ ps) (indices_from columns (before ++ index ∷ []) names))
    indices found.1.1 in
    let rest = map-some (λ ps. index ∷ ps) (indices_from columns (before ++ index ∷ []) names) indices new.1 in
    let again : index_of columns (name_at fields index) ≡ Some index =
    ap (index_of columns) (index_named columns name index missing key 0 found.1.0) ∙ found.1.0 in
    let others = map (name_at fields) rest.0 in
    subst (λ l. indices_from columns before (map (name_at fields) l) ≡ Some l) rest.1.1 (
    bind-same (index_of columns (name_at fields index)) (next_indices columns before others) index again
    ∙ ap (λ b. if b then option_map (λ ps. index ∷ ps) (indices_from columns (before ++ index ∷ []) others) else None)
    new.0
    ∙ ap (option_map (λ ps. index ∷ ps))
    (indices-back columns missing key (before ++ index ∷ []) names rest.0 rest.1.0))

names_in-back : (names : List (List ℕ)) → names_in (texts_value names) ≡ Some names
names_in-back names = ap names_of (out-List (map json.Text names)) ∙ texts-back names

-- ---- the keys

key-back : (columns : List Column) (missing : List (List ℕ)) (all : List ℕ) (o : Option Json) (key : List ℕ)
    → or_default (indices_in columns) [] o ≡ Some key
    → indices_of columns (map (name_at (fields_from missing all 0 columns)) key) ≡ Some key
key-back columns missing all None key e =
    let none : [] ≡ key = cc in
    subst (λ l. indices_of columns (map (name_at (fields_from missing all 0 columns)) l) ≡ Some l) none refl
key-back columns missing all (Some value) key e =
    let names = bind-some (names_in value) (indices_of columns) key e in
    indices-back columns missing all [] names.0 key names.1.1

abbrev after_resource : List Column → List ℕ → List ℕ → Json → List ℕ → Option Foreign
after_resource columns key indices reference resource =
    target_in reference >>= foreign_key_of columns key indices resource

abbrev after_reference : List Column → List ℕ → List ℕ → Json → Option Foreign
after_reference columns key indices reference = resource_in reference >>= after_resource columns key indices reference

abbrev after_indices : List Column → List ℕ → Json → List ℕ → Option Foreign
after_indices columns key item indices = reference_in item >>= after_reference columns key indices

abbrev fits_together : List Column → List ℕ → List ℕ → List ℕ → List (List ℕ) → Bool
fits_together columns key indices resource target =
    (length indices == length target) && (not (is_empty resource) || refers_to_key columns indices key target)

foreign-back : (columns : List Column) (missing : List (List ℕ)) (key : List ℕ) (item : Json) (f : Foreign)
    → foreign_key_in columns key item ≡ Some f
    → foreign_key_in columns key (foreign_key_value (fields_from missing key 0 columns) f) ≡ Some f
foreign-back columns missing key item f e =
    let fields = fields_from missing key 0 columns in
    let p = bind-some (present (codes "fields") item >>= indices_in columns) (after_indices columns key item) f e in
    let indices = p.0 in
    let v = bind-some (present (codes "fields") item) (indices_in columns) indices p.1.0 in
    let n = bind-some (names_in v.0) (indices_of columns) indices v.1.1 in
    let r = bind-some (reference_in item) (after_reference columns key indices) f p.1.1 in
    let s = bind-some (resource_in r.0) (after_resource columns key indices r.0) f r.1.1 in
    let resource = s.0 in
    let t = bind-some (target_in r.0) (foreign_key_of columns key indices resource) f s.1.1 in
    let target = t.0 in
    let whole : Foreign = record { fields = indices; resource = resource; target = target } in
    let fit = if_some (fits_together columns key indices resource target) whole f t.1.1 in
    let value = foreign_key_value fields whole in
    let reference = reference_value whole in
    let indices_so : (present (codes "fields") value >>= indices_in columns) ≡ Some indices =
    ap (λ o. o >>= indices_in columns) (present-Map (codes "fields") _ ∙ full-List _)
    ∙ ap (λ o. o >>= indices_of columns) (names_in-back (map (name_at fields) indices))
    ∙ indices-back columns missing key [] n.0 indices n.1.1 in
    let reference_so : reference_in value ≡ Some reference =
    ap (λ o. o >>= dictionary_in) (present-Map (codes "reference") _ ∙ full-Map _) ∙ dictionary_in-Map _ in
    let resource_so : resource_in reference ≡ Some resource =
    ap (or_default text_in []) (present-Map (codes "resource") _ ∙ full-Text resource) ∙ text_in-Text resource in
    let target_so : target_in reference ≡ Some target =
    ap (λ o. o >>= names_in) (present-Map (codes "fields") _ ∙ full-List _) ∙ names_in-back target in
    subst (λ x. foreign_key_in columns key (foreign_key_value fields x) ≡ Some x) fit.1 (
    bind-same (present (codes "fields") value >>= indices_in columns) (after_indices columns key value) indices
    indices_so
    ∙ bind-same (reference_in value) (after_reference columns key indices) reference reference_so
    ∙ bind-same (resource_in reference) (after_resource columns key indices reference) resource resource_so
    ∙ bind-same (target_in reference) (foreign_key_of columns key indices resource) target target_so
    ∙ ap (λ b. if b then Some whole else None) fit.0)

foreign_keys-back : (columns : List Column) (missing : List (List ℕ)) (key : List ℕ) (o : Option Json)
    (fs : List Foreign)
    → or_default (λ items. list_in items >>= all_of (foreign_key_in columns key)) [] o ≡ Some fs
    → all_of (foreign_key_in columns key) (map (foreign_key_value (fields_from missing key 0 columns)) fs) ≡ Some fs
foreign_keys-back columns missing key None fs e =
    let none : [] ≡ fs = cc in
    subst (λ l. all_of (foreign_key_in columns key) (map (foreign_key_value (fields_from missing key 0 columns)) l)
    ≡ Some l)
    none refl
foreign_keys-back columns missing key (Some value) fs e =
    let items = bind-some (list_in value) (all_of (foreign_key_in columns key)) fs e in
    all_of-back (foreign_key_in columns key) (foreign_key_value (fields_from missing key 0 columns))
    (foreign-back columns missing key) items.0 fs items.1.1

-- ---- the list of fields

ok_gate : {A : Type 0} (fault : SchemaFault) (b : Bool) (r : Result A SchemaFault) (x : A)
    → (if b then r else Err fault) ≡ Ok x → r ≡ Ok x
ok_gate fault true r x e = e
ok_gate fault false r x e = cc

pub items_size : (value : Json) (items : List Json) → field_items value ≡ Ok items
    → (0 < length items) × (length items ≤ 500)
items_size value items e =
    let found = or_fault-ok NoFields (present (codes "fields") value >>= list_in >>= dictionaries) items
    (ok_gate NotJson (is_map value)
    (or_fault NoFields (present (codes "fields") value >>= list_in >>= dictionaries)) items e) in
    let list = bind-some (present (codes "fields") value >>= list_in) dictionaries items found in
    let fit = if_some (nat_le 1 (length list.0) && nat_le (length list.0) 500 && list_all is_map list.0) list.0 items
    list.1.1 in
    let sizes = and_parts (nat_le 1 (length list.0)) (nat_le (length list.0) 500)
    (and_parts (nat_le 1 (length list.0) && nat_le (length list.0) 500) (list_all is_map list.0) fit.0).0 in
    subst (λ l. (0 < length l) × (length l ≤ 500)) fit.1 (sized (length list.0) sizes.0 sizes.1)
  where
    sized : (n : ℕ) → nat_le 1 n ≡ true → nat_le n 500 ≡ true → (0 < n) × (n ≤ 500)
    sized n least most = (grind (arith, nat_tests), grind (arith, nat_tests))

-- There are at most 500 fields.
pub columns_few : (value : Json) (columns : List Column) → columns_in value ≡ Ok columns → length columns ≤ 500
columns_few value columns e =
    let items = bind-ok (field_items value) (columns_reading 1 []) columns e in
    let as_many : length columns ≡ length items.0 = columns-length 1 [] items.0 columns items.1.1 in
    omega (arith, as_many, (items_size value items.0 items.1.0).1)

values-length : (columns : List Column) (missing : List (List ℕ)) (key : List ℕ) (index : ℕ)
    → length (map field_value (fields_from missing key index columns)) ≡ length columns
values-length [] missing key index = refl
values-length (column ∷ columns) missing key index = ap suc (values-length columns missing key (suc index))

values-maps : (fields : List FieldValue) → list_all is_map (map field_value fields) ≡ true
values-maps [] = refl
values-maps (field ∷ fields) = and_from (is_map (field_value field)) (list_all is_map (map field_value fields))
    (is_map-Map _) (values-maps fields)

-- ---- the schema

abbrev after_key : List Column → List (List ℕ) → Json → List ℕ → Option SchemaValue
after_key columns missing value key =
    foreign_keys_in columns key value >>= λ foreign. Some (schema_of columns missing key foreign)

abbrev after_missing : List Column → Json → List (List ℕ) → Option SchemaValue
after_missing columns value missing = key_in columns value >>= after_key columns missing value

schema_with_keys-back : (columns : List Column) (value : Json) (items : List Json) (missing : List (List ℕ))
    (key : List ℕ)
    (foreign : List Foreign) → field_items value ≡ Ok items → columns_reading 1 [] items ≡ Ok columns
    → key_in columns value ≡ Some key → foreign_keys_in columns key value ≡ Some foreign
    → schema_reading (schema_value (schema_of columns missing key foreign)) ≡ Ok (schema_of columns missing key foreign)
unfolding schema_reading schema_value
schema_with_keys-back columns value items missing key foreign there read keys references =
    let schema = schema_of columns missing key foreign in
    let fields = fields_from missing key 0 columns in
    let values = map field_value fields in
    let back = schema_value schema in
    let size = items_size value items there in
    let as_many : length values ≡ length items = values-length columns missing key 0
    ∙ columns-length 1 [] items columns read in
    let items_so : field_items back ≡ Ok values =
    field_items-of back (json.List values) values (is_map-Map _) (present-Map (codes "fields") _ ∙ full-List values)
    (list_in-List values) (omega (arith, as_many, size.0)) (omega (arith, as_many, size.1)) (values-maps fields) in
    let columns_so : (field_items back >>> columns_reading 1 []) ≡ Ok columns =
    ok-same (field_items back) (columns_reading 1 []) values items_so ∙ columns-back 1 [] items columns missing key 0
    read in
    let missing_so : missing_in back ≡ Some missing =
    ap (or_default texts_in ([] ∷ [])) (present-Map (codes "missingValues") _ ∙ full-List _) ∙ texts_in-back missing in
    let key_so : key_in columns back ≡ Some key =
    ap (or_default (indices_in columns) []) (present-Map (codes "primaryKey") _ ∙ full-List _)
    ∙ ap (λ o. o >>= indices_of columns) (names_in-back (map (name_at fields) key))
    ∙ key-back columns missing key (present (codes "primaryKey") value) key keys in
    let foreign_so : foreign_keys_in columns key back ≡ Some foreign =
    ap (or_default (λ list. list_in list >>= all_of (foreign_key_in columns key)) [])
    (present-Map (codes "foreignKeys") _ ∙ full-List _)
    ∙ ap (λ o. o >>= all_of (foreign_key_in columns key)) (list_in-List (map (foreign_key_value fields) foreign))
    ∙ foreign_keys-back columns missing key (present (codes "foreignKeys") value) foreign references in
    let schema_with_keys_so : schema_with_keys columns back ≡ Some schema =
    bind-same (missing_in back) (after_missing columns back) missing missing_so
    ∙ bind-same (key_in columns back) (after_key columns missing back) key key_so
    ∙ bind-same (foreign_keys_in columns key back) (λ f. Some (schema_of columns missing key f)) foreign foreign_so in
    ok-same (field_items back >>> columns_reading 1 []) (λ cs. or_fault BadKey (schema_with_keys cs back)) columns
    columns_so
    ∙ ap (or_fault BadKey) schema_with_keys_so

-- The schema of fields that were read reads back from its own descriptor.
pub schema_with_keys_back : (columns : List Column) (value : Json) (schema : SchemaValue)
    → columns_in value ≡ Ok columns
    → schema_with_keys columns value ≡ Some schema → schema_reading (schema_value schema) ≡ Ok schema
schema_with_keys_back columns value schema e whole =
    let items = bind-ok (field_items value) (columns_reading 1 []) columns e in
    let missing = bind-some (missing_in value) (after_missing columns value) schema whole in
    let key = bind-some (key_in columns value) (after_key columns missing.0 value) schema missing.1.1 in
    let foreign =
    bind-some (foreign_keys_in columns key.0 value) (λ f. Some (schema_of columns missing.0 key.0 f)) schema
    key.1.1 in
    let same : schema_of columns missing.0 key.0 foreign.0 ≡ schema = cc (foreign.1.1) in
    subst (λ s. schema_reading (schema_value s) ≡ Ok s) same
    (schema_with_keys-back columns value items.0 missing.0 key.0 foreign.0 items.1.0 items.1.1 key.1.0 foreign.1.0)

-- The schema that a descriptor reads as is described by its own descriptor.
pub reading-described : (value : Json) (schema : SchemaValue) → schema_reading value ≡ Ok schema → IsDescribed schema
unfolding schema_reading
reading-described value schema e =
    let read = bind-ok (columns_in value) (λ cs. or_fault BadKey (schema_with_keys cs value)) schema e in
    schema_with_keys_back read.0 value schema read.1.0
    (or_fault-ok BadKey (schema_with_keys read.0 value) schema read.1.1)

-- A property of each field that was read holds of the schema's fields.
schema-all : (P : FieldValue → Type 0) (value : Json) (schema : SchemaValue)
    → ((missing : List (List ℕ)) (key : List ℕ) (names : List (List ℕ)) (index : ℕ) (column : Column)
    → IsColumn names column → P (field_of missing key index column))
    → schema_reading value ≡ Ok schema → All P schema.fields
unfolding schema_reading
schema-all P value schema each e =
    let read =
    bind-ok (field_items value >>> columns_reading 1 []) (λ cs. or_fault BadKey (schema_with_keys cs value)) schema
    e in
    let columns = read.0 in
    let items = bind-ok (field_items value) (columns_reading 1 []) columns read.1.0 in
    let whole = or_fault-ok BadKey (schema_with_keys columns value) schema read.1.1 in
    let missing = bind-some (missing_in value) (after_missing columns value) schema whole in
    let key = bind-some (key_in columns value) (after_key columns missing.0 value) schema missing.1.1 in
    let foreign =
    bind-some (foreign_keys_in columns key.0 value) (λ f. Some (schema_of columns missing.0 key.0 f)) schema
    key.1.1 in
    let same : schema_of columns missing.0 key.0 foreign.0 ≡ schema = cc (foreign.1.1) in
    subst (λ s. All P s.fields) same
    (columns-all P missing.0 key.0 (each missing.0 key.0) 1 [] items.0 columns 0 items.1.1)

-- The bounds and the allowed cells of its fields are values.
pub schema-values : (value : Json) (schema : SchemaValue) → schema_reading value ≡ Ok schema
    → All (λ (f : FieldValue). HasValues f.constraints) schema.fields
schema-values value schema e =
    schema-all (λ (f : FieldValue). HasValues f.constraints) value schema
    (λ missing key names index column is. is.constraints.values) e

-- Its number fields have spellings that a descriptor can give.
pub schema-spelled : (value : Json) (schema : SchemaValue) → schema_reading value ≡ Ok schema
    → All (λ (f : FieldValue). IsSpelled f.form) schema.fields
schema-spelled value schema e =
    schema-all (λ (f : FieldValue). IsSpelled f.form) value schema
    (λ missing key names index column is. is.form.spelled) e

-- The schema of these parts is the reading of the keys.
pub schema_with_keys_parts : (columns : List Column) (value : Json) (fields : List FieldValue) (missing : List (List ℕ))
    (key : List ℕ) (foreign : List Foreign) → missing_in value ≡ Some missing → key_in columns value ≡ Some key
    → foreign_keys_in columns key value ≡ Some foreign → fields ≡ fields_from missing key 0 columns
    → schema_with_keys columns value ≡ Some (schema_from fields key foreign missing)
schema_with_keys_parts columns value fields missing key foreign missing_so key_so foreign_so fields_so =
    bind-same (missing_in value) (after_missing columns value) missing missing_so
    ∙ bind-same (key_in columns value) (after_key columns missing value) key key_so
    ∙ bind-same (foreign_keys_in columns key value) (λ f. Some (schema_of columns missing key f)) foreign foreign_so
    ∙ ap (λ fs. Some (schema_from fs key foreign missing)) (sym fields_so)

-- The reading of the fields.
pub columns_so : (value : Json) (items : List Json) (columns : List Column) → field_items value ≡ Ok items
    → columns_reading 1 [] items ≡ Ok columns → columns_in value ≡ Ok columns
columns_so value items columns there read = ok-same (field_items value) (columns_reading 1 []) items there ∙ read
