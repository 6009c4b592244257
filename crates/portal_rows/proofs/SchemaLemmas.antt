-- The descriptor of a schema can be read from its own text.
use Rattle.std.proofs.Common.{◌≡◌, ℕ, suc, ℤ, pos, negsuc, Bool, true, false, ◌&&◌, List, [], ◌∷◌, ◌++◌}
use Rattle.std.proofs.Common.{map, append_assoc, refl, sym, ap, ◌∙◌, subst, arith, rules, codes}
use Rattle.std.specs.Prelude.{◌<◌, ◌^◌, nat_lt, IfSome, Option, Some, None, Result, Ok, Err, option_map, if◌then◌else◌}
use Rattle.std.specs.Cmp.Lexicographic.{slice_cmp}
use Rattle.std.specs.Ordering.{nat_cmp}
use Rattle.std.proofs.lemmas.Bool.{and_from, and_parts}
use Rattle.std.proofs.lemmas.Bool.Decides.{nat_tests}
use Rattle.serde_json.specs.Find.{of_integer}
use Rattle.portal_base.specs.Dictionary.{is_less, keys_ascend, precedes}
use Rattle.portal_base.specs.Json.{Fits as FitsNumber, IsOrderly, IsReadable, ItemsAreOrderly, data_of, items_data}
use Rattle.portal_base.specs.Json.{member_of}
use Rattle.portal_base.specs.Kinds.{is_null_in, list_in, list_of, non_null, present}
use Rattle.portal_base.specs.declared.json_value.Json as json
use Rattle.portal_base.specs.declared.json_value.Json.{Json, out-Json, the_lemmas}
use Rattle.portal_base.specs.declared.json_value.Json.TheOpen.{Json-F}
use Rattle.table_schema.specs.declared.cell.Cell.{Cell}
use Rattle.table_schema.specs.declared.column.Column.{Column}
use Rattle.table_schema.specs.declared.constraint.Constraints.{Constraints}
use Rattle.table_schema.specs.declared.fault.SchemaFault.{SchemaFault}
use Rattle.table_schema.specs.declared.fault.SchemaFault.TheVariants.{NotJson, NoFields, BadConstraint, BadKey}
use Rattle.table_schema.specs.declared.foreign.Foreign.{Foreign}
use Rattle.table_schema.specs.declared.form.Form.{Form}
use Rattle.table_schema.specs.declared.form.Form.TheVariants as form
use Rattle.table_schema.specs.declared.form.Kind.{Kind}
use Rattle.table_schema.specs.Descriptor.{allowed_in, bound_in, column_of, column_reading, columns_reading}
use Rattle.table_schema.specs.Descriptor.{constraints_in, constraints_of, count_of, dictionaries, field_items, form_in}
use Rattle.table_schema.specs.Descriptor.{format_reading, has_length, has_order, kind_reading, length_in, name_reading}
use Rattle.table_schema.specs.Descriptor.{new_name, no_constraints, pattern_reading, some_of}
use Rattle.table_schema.specs.Field.{FieldValue, SchemaValue}
use Rattle.table_schema.specs.Form.{kind_of}
use Rattle.table_schema.specs.Keys.{fields_from, foreign_keys_in, key_in, missing_in, schema_of}
use Rattle.table_schema.specs.Keys.{schema_reading, schema_with_keys}
use Rattle.table_schema.specs.Printed.{cell_value}
use Rattle.table_schema.specs.Reading.{value_reading}
use Rattle.table_schema.specs.Values.{◌>>=◌, ◌>>>◌, all_of, dictionary_in, is_map, optional, or_default, or_fault}
use Rattle.table_schema.specs.Values.{truth_in, whole_in, whole_of}
use Rattle.table_schema.specs.Written.{MemberList, allowed_member, bare_number_member, character_value}
use Rattle.table_schema.specs.Written.{constraints_value, field_value, foreign_key_value, kind_name, member_if, member_where}
use Rattle.table_schema.specs.Written.{name_at, options_before_format, options_before_name}
use Rattle.table_schema.specs.Written.{options_before_type, schema_value, texts_value}
use Rattle.table_schema.proofs.CellLemmas.{Fits, value_reading-IsOf}
use Rattle.portal_rows.proofs.CellLemmas.{cell_within}
use Rattle.portal_rows.proofs.JsonLemmas.{AreWithin, EntriesAreWithin, IsWithin, data_of-List, data_of-Whole, deeper}
use Rattle.portal_rows.proofs.JsonLemmas.{member_orderly, readable, within-List, within-Map, within-Text, within-Truth, within-Whole}
use Rattle.portal_rows.proofs.ReadLemmas.{Each, map-some}

-- ---- steps of a reading

bind-some : {A B : Type 0} (o : Option A) (f : A → Option B) (y : B) → (o >>= f) ≡ Some y
    → (x : A) × ((o ≡ Some x) × (f x ≡ Some y))
bind-some None f y e = absurd (cc)
bind-some (Some x) f y e = (x, (refl, e))

bind-ok : {A B : Type 0} (r : Result A SchemaFault) (f : A → Result B SchemaFault) (y : B) → (r >>> f) ≡ Ok y
    → (x : A) × ((r ≡ Ok x) × (f x ≡ Ok y))
bind-ok (Err fault) f y e = absurd (cc)
bind-ok (Ok x) f y e = (x, (refl, e))

or_fault-ok : {A : Type 0} (fault : SchemaFault) (o : Option A) (x : A) → or_fault fault o ≡ Ok x → o ≡ Some x
or_fault-ok fault None x e = cc
or_fault-ok fault (Some y) x e = cc

-- ---- lengths and cells

counted : (w z : ℤ) → count_of w ≡ Some z → FitsNumber (of_integer z)
counted (pos n) z e = by (nat_lt n (2 ^ 64)) refl e
  where
    by : (b : Bool) → nat_lt n (2 ^ 64) ≡ b → (if b then Some (pos n) else None) ≡ Some z → FitsNumber (of_integer z)
    by true small h =
        let same : pos n ≡ z = cc in
        let below : n < 2 ^ 64 = grind (arith, nat_tests) in
        subst (λ y. FitsNumber (of_integer y)) same below
    by false large h = absurd (cc)
counted (negsuc n) z e = absurd (cc)

length-fits : (k : Kind) (value : Json) (z : ℤ) → length_in k value ≡ Some z → FitsNumber (of_integer z)
length-fits k value z e = by (has_length k) e
  where
    by : (b : Bool) → (if b then (whole_in value >>= count_of) else None) ≡ Some z → FitsNumber (of_integer z)
    by false h = absurd (cc)
    by true h =
        let read = bind-some (whole_in value) count_of z h in
        counted read.0 z read.1.1

bound-fits : (k : Kind) (value : Json) (c : Cell) → bound_in k value ≡ Some c → Fits c
bound-fits k value c e = by (has_order k) e
  where
    by : (b : Bool) → (if b then value_reading k value else None) ≡ Some c → Fits c
    by false h = absurd (cc)
    by true h = (value_reading-IsOf k value c h).fits

cells-fit : (k : Kind) (items : List Json) (cells : List Cell) → all_of (value_reading k) items ≡ Some cells
    → Each Fits cells
cells-fit k [] cells e = let none : [] ≡ cells = cc in subst (Each Fits) none tt
cells-fit k (item ∷ items) cells e =
    let first = bind-some (value_reading k item) (λ c. option_map (λ cs. c ∷ cs) (all_of (value_reading k) items)) cells
    e in
    let rest = map-some (λ cs. first.0 ∷ cs) (all_of (value_reading k) items) cells first.1.1 in
    subst (Each Fits) rest.1.1 ((value_reading-IsOf k item first.0 first.1.0).fits, cells-fit k items rest.0 rest.1.0)

allowed-fit : (k : Kind) (value : Json) (cells : List Cell) → allowed_in k value ≡ Some cells → Each Fits cells
allowed-fit k value cells e =
    let read = bind-some (list_in value >>= some_of) (all_of (value_reading k)) cells e in
    cells-fit k read.0 cells read.1.1

-- ---- the constraints of a field

-- The numbers and the cells of the constraints have the range of their types.
record ConstraintsFit (constraints : Constraints) : Type 0 where
  min_length : IfSome constraints.min_length (λ z. FitsNumber (of_integer z))
  max_length : IfSome constraints.max_length (λ z. FitsNumber (of_integer z))
  minimum : IfSome constraints.minimum Fits
  maximum : IfSome constraints.maximum Fits
  allowed : Each Fits constraints.allowed

optional-fits : {A : Type 0} (read : Json → Option A) (P : A → Type 0) (o : Option Json) (r : Option A)
    → ((value : Json) (x : A) → o ≡ Some value → read value ≡ Some x → P x) → optional read o ≡ Some r → IfSome r P
optional-fits read P None r holds e = let none : None ≡ r = cc in subst (λ s. IfSome s P) none tt
optional-fits read P (Some value) r holds e =
    let got = map-some Some (read value) r e in
    subst (λ s. IfSome s P) got.1.1 (holds value got.0 refl got.1.0)

default-fit : (k : Kind) (o : Option Json) (cells : List Cell) → or_default (allowed_in k) [] o ≡ Some cells
    → Each Fits cells
default-fit k None cells e = let none : [] ≡ cells = cc in subst (Each Fits) none tt
default-fit k (Some value) cells e = allowed-fit k value cells e

abbrev made : Bool → Bool → Option ℤ → Option ℤ → Option Cell → Option Cell → List Cell → Option Constraints
made required unique min_length max_length minimum maximum allowed = Some (record {
  required = required;
  unique = unique;
  min_length = min_length;
  max_length = max_length;
  minimum = minimum;
  maximum = maximum;
  allowed = allowed;
})

abbrev after_maximum : Kind → Json → Bool → Bool → Option ℤ → Option ℤ → Option Cell → Option Cell → Option Constraints
after_maximum k value r u a b c d =
    or_default (allowed_in k) [] (present (codes "enum") value) >>= made r u a b c d

abbrev after_minimum : Kind → Json → Bool → Bool → Option ℤ → Option ℤ → Option Cell → Option Constraints
after_minimum k value r u a b c = optional (bound_in k) (present (codes "maximum") value) >>= after_maximum k value r u a b c

abbrev after_max_length : Kind → Json → Bool → Bool → Option ℤ → Option ℤ → Option Constraints
after_max_length k value r u a b = optional (bound_in k) (present (codes "minimum") value) >>= after_minimum k value r u a b

abbrev after_min_length : Kind → Json → Bool → Bool → Option ℤ → Option Constraints
after_min_length k value r u a =
    optional (length_in k) (present (codes "maxLength") value) >>= after_max_length k value r u a

abbrev after_unique : Kind → Json → Bool → Bool → Option Constraints
after_unique k value r u = optional (length_in k) (present (codes "minLength") value) >>= after_min_length k value r u

abbrev after_required : Kind → Json → Bool → Option Constraints
after_required k value r = or_default truth_in false (present (codes "unique") value) >>= after_unique k value r

constraints_in-fit : (k : Kind) (value : Json) (constraints : Constraints)
    → constraints_in k value ≡ Some constraints → ConstraintsFit constraints
constraints_in-fit k value constraints e =
    let r = bind-some (or_default truth_in false (present (codes "required") value)) (after_required k value) constraints
    e in
    let u = bind-some (or_default truth_in false (present (codes "unique") value)) (after_unique k value r.0) constraints
    r.1.1 in
    let a = bind-some (optional (length_in k) (present (codes "minLength") value)) (after_min_length k value r.0 u.0)
    constraints u.1.1 in
    let b = bind-some (optional (length_in k) (present (codes "maxLength") value)) (after_max_length k value r.0 u.0 a.0)
    constraints a.1.1 in
    let c = bind-some (optional (bound_in k) (present (codes "minimum") value)) (after_minimum k value r.0 u.0 a.0 b.0)
    constraints b.1.1 in
    let d = bind-some (optional (bound_in k) (present (codes "maximum") value))
    (after_maximum k value r.0 u.0 a.0 b.0 c.0) constraints c.1.1 in
    let l = bind-some (or_default (allowed_in k) [] (present (codes "enum") value))
    (made r.0 u.0 a.0 b.0 c.0 d.0) constraints d.1.1 in
    let read : Constraints = record {
      required = r.0;
      unique = u.0;
      min_length = a.0;
      max_length = b.0;
      minimum = c.0;
      maximum = d.0;
      allowed = l.0;
    } in
    let last : Some read ≡ Some constraints = l.1.1 in
    let same : read ≡ constraints = cc in
    subst ConstraintsFit same (record {
      min_length = optional-fits (length_in k) (λ z. FitsNumber (of_integer z)) (present (codes "minLength") value) a.0
          (λ v z there got. length-fits k v z got) a.1.0;
      max_length = optional-fits (length_in k) (λ z. FitsNumber (of_integer z)) (present (codes "maxLength") value) b.0
          (λ v z there got. length-fits k v z got) b.1.0;
      minimum = optional-fits (bound_in k) Fits (present (codes "minimum") value) c.0
          (λ v x there got. bound-fits k v x got) c.1.0;
      maximum = optional-fits (bound_in k) Fits (present (codes "maximum") value) d.0
          (λ v x there got. bound-fits k v x got) d.1.0;
      allowed = default-fit k (present (codes "enum") value) l.0 l.1.0;
    })

constraints_of-fit : (k : Kind) (item : Json) (constraints : Constraints)
    → constraints_of k item ≡ Some constraints → ConstraintsFit constraints
constraints_of-fit k item constraints e = by (present (codes "constraints") item) refl e
  where
    by : (o : Option Json) → present (codes "constraints") item ≡ o
        → or_default (λ value. dictionary_in value >>= constraints_in k) no_constraints o ≡ Some constraints
        → ConstraintsFit constraints
    by None is h =
        let none : no_constraints ≡ constraints = cc in
        subst ConstraintsFit none
        (record { min_length = tt; max_length = tt; minimum = tt; maximum = tt; allowed = tt })
    by (Some value) is h =
        let read = bind-some (dictionary_in value) (constraints_in k) constraints h in
        constraints_in-fit k read.0 constraints read.1.1

-- ---- the fields

abbrev after_spelling : List ℕ → Kind → Json → Form → Option Column
after_spelling name k item spelling =
    constraints_of k item >>= λ constraints.
    Some (record { name = name; form = spelling; constraints = constraints })

column_of-fit : (name : List ℕ) (k : Kind) (item : Json) (column : Column)
    → column_of name k item ≡ Some column → ConstraintsFit column.constraints
column_of-fit name k item column e =
    let spelling = bind-some (form_in k item) (after_spelling name k item) column e in
    let read = bind-some (constraints_of k item)
    (λ constraints. Some (record { name = name; form = spelling.0; constraints = constraints })) column
    spelling.1.1 in
    let made : Column = record { name = name; form = spelling.0; constraints = read.0 } in
    let last : Some made ≡ Some column = read.1.1 in
    let same : made ≡ column = cc in
    subst (λ (c : Column). ConstraintsFit c.constraints) same (constraints_of-fit k item read.0 read.1.0)

abbrev after_pattern : ℕ → List ℕ → Kind → Json → Bool → Result Column SchemaFault
after_pattern number name k item pattern = or_fault (BadConstraint number) (column_of name k item)

abbrev after_format : ℕ → List ℕ → Kind → Json → Bool → Result Column SchemaFault
after_format number name k item format = pattern_reading item >>> after_pattern number name k item

abbrev after_kind : ℕ → List ℕ → Json → Kind → Result Column SchemaFault
after_kind number name item k = format_reading item >>> after_format number name k item

abbrev after_name : ℕ → Json → List ℕ → Result Column SchemaFault
after_name number item name = kind_reading number item >>> after_kind number name item

column_reading-fit : (number : ℕ) (names : List (List ℕ)) (item : Json) (column : Column)
    → column_reading number names item ≡ Ok column → ConstraintsFit column.constraints
unfolding column_reading
column_reading-fit number names item column e =
    let name = bind-ok (name_reading number item >>> new_name number names) (after_name number item) column e in
    let k = bind-ok (kind_reading number item) (after_kind number name.0 item) column name.1.1 in
    let format = bind-ok (format_reading item) (after_format number name.0 k.0 item) column k.1.1 in
    let pattern = bind-ok (pattern_reading item) (after_pattern number name.0 k.0 item) column format.1.1 in
    column_of-fit name.0 k.0 item column
    (or_fault-ok (BadConstraint number) (column_of name.0 k.0 item) column pattern.1.1)

abbrev rest_after : ℕ → List (List ℕ) → List Json → Column → Result (List Column) SchemaFault
rest_after number names items column =
    columns_reading (suc number) (names ++ column.name ∷ []) items >>> λ columns. Ok (column ∷ columns)

abbrev read_as : List Column → Result (List Column) SchemaFault
read_as columns = Ok columns

ok-is : (columns others : List Column) → read_as columns ≡ read_as others → columns ≡ others
ok-is columns others e = cc

columns-fit : (number : ℕ) (names : List (List ℕ)) (items : List Json) (columns : List Column)
    → columns_reading number names items ≡ Ok columns
    → Each (λ (column : Column). ConstraintsFit column.constraints) columns
columns-fit number names [] columns e =
    let none : [] ≡ columns = cc in
    subst (Each (λ (column : Column). ConstraintsFit column.constraints)) none tt
columns-fit number names (item ∷ items) columns e =
    let first = bind-ok (column_reading number names item) (rest_after number names items) columns e in
    let rest = bind-ok (columns_reading (suc number) (names ++ first.0.name ∷ []) items)
    (λ others. Ok (first.0 ∷ others)) columns first.1.1 in
    let same : first.0 ∷ rest.0 ≡ columns = ok-is (first.0 ∷ rest.0) columns rest.1.1 in
    subst (Each (λ (column : Column). ConstraintsFit column.constraints)) same (
      column_reading-fit number names item first.0 first.1.0,
      columns-fit (suc number) (names ++ first.0.name ∷ []) items rest.0 rest.1.0,
    )

-- The constraints of the field fit.
abbrev FieldFits : FieldValue → Type 0
FieldFits field = ConstraintsFit field.constraints

fields-fit : (missing : List (List ℕ)) (key : List ℕ) (index : ℕ) (columns : List Column)
    → Each (λ (column : Column). ConstraintsFit column.constraints) columns
    → Each FieldFits (fields_from missing key index columns)
fields-fit missing key index [] fit = tt
fields-fit missing key index (column ∷ columns) fit =
    (fit.0, fields-fit missing key (suc index) columns fit.1)

abbrev after_key : List Column → List (List ℕ) → Json → List ℕ → Option SchemaValue
after_key columns missing value key =
    foreign_keys_in columns key value >>= λ foreign. Some (schema_of columns missing key foreign)

abbrev after_missing : List Column → Json → List (List ℕ) → Option SchemaValue
after_missing columns value missing = key_in columns value >>= after_key columns missing value

schema-fits : (value : Json) (schema : SchemaValue) → schema_reading value ≡ Ok schema → Each FieldFits schema.fields
unfolding schema_reading
schema-fits value schema e =
    let read = bind-ok (field_items value >>> columns_reading 1 []) (λ cs. or_fault BadKey (schema_with_keys cs value))
    schema e in
    let columns = read.0 in
    let items = bind-ok (field_items value) (columns_reading 1 []) columns read.1.0 in
    let whole = or_fault-ok BadKey (schema_with_keys columns value) schema read.1.1 in
    let missing = bind-some (missing_in value) (after_missing columns value) schema whole in
    let key = bind-some (key_in columns value) (after_key columns missing.0 value) schema missing.1.1 in
    let foreign =
    bind-some (foreign_keys_in columns key.0 value) (λ f. Some (schema_of columns missing.0 key.0 f)) schema
    key.1.1 in
    let last : Some (schema_of columns missing.0 key.0 foreign.0) ≡ Some schema = foreign.1.1 in
    let same : schema_of columns missing.0 key.0 foreign.0 ≡ schema = cc in
    subst (λ (s : SchemaValue). Each FieldFits s.fields) same
    (fields-fit missing.0 key.0 0 columns
    (columns-fit 1 [] items.0 columns items.1.1))

-- ---- dictionaries of members that may be absent

abbrev some_and : List ℕ → Option Json → MemberList → MemberList
some_and key None rest = rest
some_and key (Some value) rest = (key, value) ∷ rest

-- the members that are present
abbrev somes : List (List ℕ × Option Json) → MemberList
somes [] = []
somes (m ∷ ms) = some_and m.0 m.1 (somes ms)

-- The key comes before all keys, also those of absent members.
abbrev precedes_all : List ℕ → List (List ℕ × Option Json) → Bool
precedes_all key [] = true
precedes_all key (m ∷ ms) = is_less (slice_cmp nat_cmp key m.0) && precedes_all key ms

abbrev all_ascend : List (List ℕ × Option Json) → Bool
all_ascend [] = true
all_ascend (m ∷ ms) = precedes_all m.0 ms && all_ascend ms

somes-preceded : (key : List ℕ) (ms : List (List ℕ × Option Json)) → precedes_all key ms ≡ true
    → precedes key (somes ms) ≡ true
somes-preceded key [] h = refl
somes-preceded key (m ∷ ms) h =
    let parts = and_parts (is_less (slice_cmp nat_cmp key m.0)) (precedes_all key ms) h in
    by m.1 parts.0 (somes-preceded key ms parts.1)
  where
    by : (o : Option Json) → is_less (slice_cmp nat_cmp key m.0) ≡ true → precedes key (somes ms) ≡ true
        → precedes key (some_and m.0 o (somes ms)) ≡ true
    by None less rest = rest
    by (Some value) less rest = and_from (is_less (slice_cmp nat_cmp key m.0)) (precedes key (somes ms)) less rest

somes-ascend : (ms : List (List ℕ × Option Json)) → all_ascend ms ≡ true → keys_ascend (somes ms) ≡ true
somes-ascend [] h = refl
somes-ascend (m ∷ ms) h =
    let parts = and_parts (precedes_all m.0 ms) (all_ascend ms) h in
    by m.1 (somes-preceded m.0 ms parts.0) (somes-ascend ms parts.1)
  where
    by : (o : Option Json) → precedes m.0 (somes ms) ≡ true → keys_ascend (somes ms) ≡ true
        → keys_ascend (some_and m.0 o (somes ms)) ≡ true
    by None first rest = rest
    by (Some value) first rest = and_from (precedes m.0 (somes ms)) (keys_ascend (somes ms)) first rest

somes-within : (levels : ℕ) (ms : List (List ℕ × Option Json))
    → Each (λ (m : List ℕ × Option Json). IfSome m.1 (IsWithin levels)) ms → EntriesAreWithin levels (somes ms)
somes-within levels [] all = tt
somes-within levels (m ∷ ms) all = by m.1 all.0 (somes-within levels ms all.1)
  where
    by : (o : Option Json) → IfSome o (IsWithin levels) → EntriesAreWithin levels (somes ms)
        → EntriesAreWithin levels (some_and m.0 o (somes ms))
    by None here rest = rest
    by (Some value) here rest = (here, rest)

-- ---- the value of constraints

where-some : {A : Type 0} (key : List ℕ) (value : A → Json) (o : Option A) (rest : MemberList)
    → member_where key value o ++ rest ≡ some_and key (option_map value o) rest
where-some key value None rest = refl
where-some key value (Some x) rest = refl

abbrev true_only : Bool → Option Json
true_only b = if b then Some (json.Truth true) else None

if-some : (key : List ℕ) (b : Bool) (rest : MemberList) → member_if key b ++ rest ≡ some_and key (true_only b) rest
if-some key true rest = refl
if-some key false rest = refl

last-some : (key : List ℕ) (b : Bool) → member_if key b ≡ some_and key (true_only b) []
last-some key true = refl
last-some key false = refl

abbrev some_allowed : List Cell → Option Json
some_allowed [] = None
some_allowed (c ∷ cells) = Some (json.List (map cell_value (c ∷ cells)))

allowed-some : (cells : List Cell) (rest : MemberList)
    → allowed_member cells ++ rest ≡ some_and (codes "enum") (some_allowed cells) rest
allowed-some [] rest = refl
allowed-some (c ∷ cells) rest = refl

abbrev constraint_members : Constraints → List (List ℕ × Option Json)
constraint_members constraints =
    (codes "enum", some_allowed constraints.allowed)
    ∷ (codes "maxLength", option_map json.Whole constraints.max_length)
    ∷ (codes "maximum", option_map cell_value constraints.maximum)
    ∷ (codes "minLength", option_map json.Whole constraints.min_length)
    ∷ (codes "minimum", option_map cell_value constraints.minimum)
    ∷ (codes "required", true_only constraints.required)
    ∷ (codes "unique", true_only constraints.unique)
    ∷ []

regrouped : (a b c d e f g : MemberList) → a ++ b ++ c ++ d ++ e ++ f ++ g ≡ a ++ (b ++ (c ++ (d ++ (e ++ (f ++ g)))))
regrouped a b c d e f g = simp append_assoc

constraints-somes : (constraints : Constraints)
    → constraints_value constraints ≡ json.Map (somes (constraint_members constraints))
constraints-somes constraints = ap json.Map (
    regrouped (allowed_member constraints.allowed) (member_where (codes "maxLength") json.Whole constraints.max_length)
    (member_where (codes "maximum") cell_value constraints.maximum)
    (member_where (codes "minLength") json.Whole constraints.min_length)
    (member_where (codes "minimum") cell_value constraints.minimum) (member_if (codes "required") constraints.required)
    (member_if (codes "unique") constraints.unique)
    ∙ ap (λ l. allowed_member constraints.allowed
    ++ (member_where (codes "maxLength") json.Whole constraints.max_length
    ++ (member_where (codes "maximum") cell_value constraints.maximum
    ++ (member_where (codes "minLength") json.Whole constraints.min_length
    ++ (member_where (codes "minimum") cell_value constraints.minimum
    ++ (member_if (codes "required") constraints.required ++ l)))))) (last-some (codes "unique") constraints.unique)
    ∙ ap (λ l. allowed_member constraints.allowed
    ++ (member_where (codes "maxLength") json.Whole constraints.max_length
    ++ (member_where (codes "maximum") cell_value constraints.maximum
    ++ (member_where (codes "minLength") json.Whole constraints.min_length
    ++ (member_where (codes "minimum") cell_value constraints.minimum ++ l)))))
    (if-some (codes "required") constraints.required _)
    ∙ ap (λ l. allowed_member constraints.allowed
    ++ (member_where (codes "maxLength") json.Whole constraints.max_length
    ++ (member_where (codes "maximum") cell_value constraints.maximum
    ++ (member_where (codes "minLength") json.Whole constraints.min_length ++ l))))
    (where-some (codes "minimum") cell_value constraints.minimum _)
    ∙ ap (λ l. allowed_member constraints.allowed
    ++ (member_where (codes "maxLength") json.Whole constraints.max_length
    ++ (member_where (codes "maximum") cell_value constraints.maximum ++ l)))
    (where-some (codes "minLength") json.Whole constraints.min_length _)
    ∙ ap (λ l. allowed_member constraints.allowed
    ++ (member_where (codes "maxLength") json.Whole constraints.max_length ++ l))
    (where-some (codes "maximum") cell_value constraints.maximum _)
    ∙ ap (λ l. allowed_member constraints.allowed ++ l)
    (where-some (codes "maxLength") json.Whole constraints.max_length _)
    ∙ allowed-some constraints.allowed _)

cells_within : (cells : List Cell) → Each Fits cells → AreWithin 0 (map cell_value cells)
cells_within [] fit = tt
cells_within (c ∷ cells) fit = (cell_within c fit.0, cells_within cells fit.1)

allowed_within : (cells : List Cell) → Each Fits cells → IfSome (some_allowed cells) (IsWithin 1)
allowed_within [] fit = tt
allowed_within (c ∷ cells) fit = within-List 0 (map cell_value (c ∷ cells)) (cells_within (c ∷ cells) fit)

whole_within : (o : Option ℤ) → IfSome o (λ z. FitsNumber (of_integer z))
    → IfSome (option_map json.Whole o) (IsWithin 1)
whole_within None fits = tt
whole_within (Some z) fits = within-Whole 1 z fits

bound_within : (o : Option Cell) → IfSome o Fits → IfSome (option_map cell_value o) (IsWithin 1)
bound_within None fits = tt
bound_within (Some c) fits = deeper 0 1 (cell_value c) (omega arith) (cell_within c fits)

truth_within : (b : Bool) → IfSome (true_only b) (IsWithin 1)
truth_within true = within-Truth 1 true
truth_within false = tt

constraints_within : (constraints : Constraints) → ConstraintsFit constraints → IsWithin 2 (constraints_value constraints)
constraints_within constraints fit =
    subst (IsWithin 2) (sym (constraints-somes constraints))
    (within-Map 1 (somes (constraint_members constraints)) (somes-ascend (constraint_members constraints) refl)
    (somes-within 1 (constraint_members constraints) (allowed_within constraints.allowed fit.allowed, (whole_within constraints.max_length fit.max_length, (bound_within constraints.maximum fit.maximum, (whole_within constraints.min_length fit.min_length, (bound_within constraints.minimum fit.minimum, (truth_within constraints.required, (truth_within constraints.unique, (tt))))))))))

-- ---- the value of a field

texts_all : (levels : ℕ) (texts : List (List ℕ)) → AreWithin levels (map json.Text texts)
texts_all levels [] = tt
texts_all levels (text ∷ texts) = (within-Text levels text, texts_all levels texts)

texts_within : (levels : ℕ) (texts : List (List ℕ)) → IsWithin (suc levels) (texts_value texts)
texts_within levels texts = within-List levels (map json.Text texts) (texts_all levels texts)

abbrev field_members : Form → Json → List ℕ → MemberList
field_members f constraints name =
    bare_number_member f
    ++ (codes "constraints", constraints) ∷ []
    ++ options_before_format f
    ++ (codes "format", json.Text (codes "default")) ∷ []
    ++ options_before_name f
    ++ (codes "name", json.Text name) ∷ []
    ++ options_before_type f
    ++ (codes "type", json.Text (kind_name (kind_of f))) ∷ []

members_within : (f : Form) (constraints : Json) (name : List ℕ) → IsWithin 2 constraints
    → IsWithin 3 (json.Map (field_members f constraints name))
members_within form.Text constraints name within = within-Map 2 _ refl
    (within, (within-Text 2 _, (within-Text 2 name, (within-Text 2 _, (tt)))))
members_within (form.Integer bare) constraints name within = within-Map 2 _ refl
    (within-Truth 2 bare, (within, (within-Text 2 _, (within-Text 2 name, (within-Text 2 _, (tt))))))
members_within (form.Number spelling) constraints name within = by spelling.group
  where
    by : (group : Option ℕ) → IsWithin 3 (json.Map (
        (codes "bareNumber", json.Truth spelling.bare) ∷ []
        ++ (codes "constraints", constraints) ∷ []
        ++ (codes "decimalChar", character_value spelling.decimal) ∷ []
        ++ (codes "format", json.Text (codes "default")) ∷ []
        ++ member_where (codes "groupChar") character_value group
        ++ (codes "name", json.Text name) ∷ []
        ++ []
        ++ (codes "type", json.Text (codes "number")) ∷ []))
    by None = within-Map 2 _ refl (within-Truth 2 spelling.bare, (within, (within-Text 2 _, (within-Text 2 _, (within-Text 2 name, (within-Text 2 _, (tt)))))))
    by (Some c) = within-Map 2 _ refl (within-Truth 2 spelling.bare, (within, (within-Text 2 _, (within-Text 2 _, (within-Text 2 _, (within-Text 2 name, (within-Text 2 _, (tt))))))))
members_within (form.Boolean truths) constraints name within = within-Map 2 _ refl
    (within, (texts_within 1 truths.false_values, (within-Text 2 _, (within-Text 2 name, (texts_within 1 truths.true_values, (within-Text 2 _, (tt)))))))
members_within form.Date constraints name within = within-Map 2 _ refl
    (within, (within-Text 2 _, (within-Text 2 name, (within-Text 2 _, (tt)))))
members_within form.Time constraints name within = within-Map 2 _ refl
    (within, (within-Text 2 _, (within-Text 2 name, (within-Text 2 _, (tt)))))
members_within form.Datetime constraints name within = within-Map 2 _ refl
    (within, (within-Text 2 _, (within-Text 2 name, (within-Text 2 _, (tt)))))
members_within form.Year constraints name within = within-Map 2 _ refl
    (within, (within-Text 2 _, (within-Text 2 name, (within-Text 2 _, (tt)))))
members_within form.YearMonth constraints name within = within-Map 2 _ refl
    (within, (within-Text 2 _, (within-Text 2 name, (within-Text 2 _, (tt)))))

fields_within : (fields : List FieldValue) → Each FieldFits fields → AreWithin 3 (map field_value fields)
fields_within [] fit = tt
fields_within (field ∷ fields) fit = (
  members_within field.form (constraints_value field.constraints) field.name
      (constraints_within field.constraints fit.0),
  fields_within fields fit.1,
)

-- ---- the descriptor

foreign_within : (fields : List FieldValue) (foreign : Foreign) → IsWithin 3 (foreign_key_value fields foreign)
foreign_within fields foreign = within-Map 2 _ refl (
  texts_within 1 (map (name_at fields) foreign.fields),
  (within-Map 1 _ refl (texts_within 0 foreign.target, (within-Text 1 foreign.resource, tt)), tt),
)

foreign_all : (fields : List FieldValue) (foreign : List Foreign) → AreWithin 3 (map (foreign_key_value fields) foreign)
foreign_all fields [] = tt
foreign_all fields (one ∷ others) = (foreign_within fields one, foreign_all fields others)

schema_within : (schema : SchemaValue) → Each FieldFits schema.fields → IsWithin 5 (schema_value schema)
unfolding schema_value
schema_within schema fit = within-Map 4 _ refl (
  within-List 3 (map field_value schema.fields) (fields_within schema.fields fit),
  (
    within-List 3 (map (foreign_key_value schema.fields) schema.foreign) (foreign_all schema.fields schema.foreign),
    (texts_within 3 schema.missing, (texts_within 3 (map (name_at schema.fields) schema.key), tt)),
  ),
)

-- The descriptor of a schema that was read is orderly, and has few levels.
pub descriptor-within : (value : Json) (schema : SchemaValue) → schema_reading value ≡ Ok schema
    → IsWithin 5 (schema_value schema)
descriptor-within value schema e = schema_within schema (schema-fits value schema e)

-- So it can be read from its own text.
pub descriptor-readable : (value : Json) (schema : SchemaValue) → schema_reading value ≡ Ok schema
    → IsReadable (schema_value schema)
descriptor-readable value schema e = readable 5 (schema_value schema) (omega arith) (descriptor-within value schema e)
