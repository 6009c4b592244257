-- A field reads back from the dictionary that it is written as.
use Rattle.std.proofs.Common.{◌≡◌, ◌≢◌, ℕ, suc, Bool, true, false, refl, ap, sym, ◌∙◌, subst, List, [], ◌∷◌, ◌++◌, map}
use Rattle.std.proofs.Common.{length, codes}
use Rattle.std.specs.Prelude.{if◌then◌else◌, Option, Some, None, option_map, is_some, Result, Ok, Err, IfSome, All}
use Rattle.std.specs.Char.{encode_utf8}
use Rattle.std.specs.Str.{all_scalars, chars}
use Rattle.std.proofs.lemmas.Bool.{and_parts, eqb-false}
use Rattle.std.proofs.lemmas.List.{append-nil}
use Rattle.std.proofs.lemmas.Str.{chars-encodes}
use Rattle.portal_base.specs.declared.json_value.Json as json
use Rattle.portal_base.specs.declared.json_value.Json.{Json, out-Json}
use Rattle.table_schema.specs.declared.column.Column.{Column}
use Rattle.table_schema.specs.declared.constraint.Constraints.{Constraints}
use Rattle.table_schema.specs.declared.fault.SchemaFault.{SchemaFault}
use Rattle.table_schema.specs.declared.fault.SchemaFault.TheVariants.{BadName, BadConstraint, UnknownKind}
use Rattle.table_schema.specs.declared.fault.SchemaFault.TheVariants.{RepeatedName, Unsupported}
use Rattle.table_schema.specs.declared.form.Form.{Form}
use Rattle.table_schema.specs.declared.form.Form.TheVariants as form
use Rattle.table_schema.specs.declared.form.Kind.{Kind}
use Rattle.table_schema.specs.declared.form.Kind.TheVariants as kind
use Rattle.table_schema.specs.declared.form.Truths.{Truths}
use Rattle.table_schema.specs.Descriptor.{mark_in, spelling_of, bare_number_in, spelling_in, truths_in, form_in}
use Rattle.table_schema.specs.Descriptor.{no_constraints, constraints_in, constraints_of, named, name_reading}
use Rattle.table_schema.specs.Descriptor.{new_name, kind_named, kind_reading, default_format, format_reading}
use Rattle.table_schema.specs.Descriptor.{pattern_reading, column_of, column_reading, columns_reading}
use Rattle.table_schema.specs.Field.{FieldValue}
use Rattle.table_schema.specs.Form.{kind_of}
use Rattle.table_schema.specs.Keys.{field_of, fields_from}
use Rattle.lexical_forms.specs.FieldName.{is_field_name}
use Rattle.lexical_forms.specs.Separator.{is_separator, separator_of}
use Rattle.lexical_forms.specs.Number.{is_same_character}
use Rattle.table_schema.specs.Texts.{IsSpelled}
use Rattle.table_schema.specs.Truth.{is_among, default_trues, default_falses}
use Rattle.portal_base.specs.Kinds.{present, text_in}
use Rattle.table_schema.specs.Values.{◌>>=◌, ◌>>>◌, or_fault, or_default, optional, dictionary_in, truth_in, texts_in}
use Rattle.table_schema.specs.Values.{all_of}
use Rattle.table_schema.specs.Written.{character_value, kind_name, texts_value, constraints_value, field_value}
use Rattle.table_schema.proofs.ConstraintLemmas.{IsKept, kept-constraints, constraints-back, no_pattern, All-none}
use Rattle.table_schema.proofs.ConstraintLemmas.{All-more}
use Rattle.table_schema.proofs.ValueLemmas.{bind-some, bind-same, bind-ok, ok-same, map-some, or_fault-ok, if_some}
use Rattle.table_schema.proofs.ValueLemmas.{if_none, if_ok, if_err, texts-back, text_in-Text, truth_in-Truth}
use Rattle.table_schema.proofs.ValueLemmas.{list_in-List, dictionary_in-Map, full-Text, full-Truth, full-List}
use Rattle.table_schema.proofs.ValueLemmas.{full-Map, present-Map}

-- the field of these parts
abbrev pub given : List ℕ → Form → Constraints → List (List ℕ) → Bool → FieldValue
given name spelling constraints missing in_key =
    record { name = name; form = spelling; constraints = constraints; missing = missing; in_key = in_key }

-- ---- the value of each key

present-name : (name : List ℕ) (f : Form) (c : Constraints) (missing : List (List ℕ)) (in_key : Bool)
    → present (codes "name") (field_value (given name f c missing in_key)) ≡ Some (json.Text name)
present-name name form.Text c m k = present-Map (codes "name") _ ∙ full-Text name
present-name name (form.Integer b) c m k = present-Map (codes "name") _ ∙ full-Text name
present-name name (form.Number s) c m k =
    (elim s.group
    as (λ g. present (codes "name")
    (field_value (given name (form.Number (record { decimal = s.decimal; group = g; bare = s.bare })) c m k))
    ≡ Some (json.Text name)) [
      | None ↦ present-Map (codes "name") _ ∙ full-Text name
      | Some group ↦ present-Map (codes "name") _ ∙ full-Text name
    ])
present-name name (form.Boolean t) c m k = present-Map (codes "name") _ ∙ full-Text name
present-name name form.Date c m k = present-Map (codes "name") _ ∙ full-Text name
present-name name form.Time c m k = present-Map (codes "name") _ ∙ full-Text name
present-name name form.Datetime c m k = present-Map (codes "name") _ ∙ full-Text name
present-name name form.Year c m k = present-Map (codes "name") _ ∙ full-Text name
present-name name form.YearMonth c m k = present-Map (codes "name") _ ∙ full-Text name

present-type : (name : List ℕ) (f : Form) (c : Constraints) (missing : List (List ℕ)) (in_key : Bool)
    → present (codes "type") (field_value (given name f c missing in_key)) ≡ Some (json.Text (kind_name (kind_of f)))
present-type name form.Text c m k = present-Map (codes "type") _ ∙ full-Text (codes "string")
present-type name (form.Integer b) c m k = present-Map (codes "type") _ ∙ full-Text (codes "integer")
present-type name (form.Number s) c m k =
    (elim s.group
    as (λ g. present (codes "type")
    (field_value (given name (form.Number (record { decimal = s.decimal; group = g; bare = s.bare })) c m k))
    ≡ Some (json.Text (codes "number"))) [
      | None ↦ present-Map (codes "type") _ ∙ full-Text (codes "number")
      | Some group ↦ present-Map (codes "type") _ ∙ full-Text (codes "number")
    ])
present-type name (form.Boolean t) c m k = present-Map (codes "type") _ ∙ full-Text (codes "boolean")
present-type name form.Date c m k = present-Map (codes "type") _ ∙ full-Text (codes "date")
present-type name form.Time c m k = present-Map (codes "type") _ ∙ full-Text (codes "time")
present-type name form.Datetime c m k = present-Map (codes "type") _ ∙ full-Text (codes "datetime")
present-type name form.Year c m k = present-Map (codes "type") _ ∙ full-Text (codes "year")
present-type name form.YearMonth c m k = present-Map (codes "type") _ ∙ full-Text (codes "yearmonth")

present-format : (name : List ℕ) (f : Form) (c : Constraints) (missing : List (List ℕ)) (in_key : Bool)
    → present (codes "format") (field_value (given name f c missing in_key)) ≡ Some (json.Text (codes "default"))
present-format name form.Text c m k = present-Map (codes "format") _ ∙ full-Text (codes "default")
present-format name (form.Integer b) c m k = present-Map (codes "format") _ ∙ full-Text (codes "default")
present-format name (form.Number s) c m k = present-Map (codes "format") _ ∙ full-Text (codes "default")
present-format name (form.Boolean t) c m k = present-Map (codes "format") _ ∙ full-Text (codes "default")
present-format name form.Date c m k = present-Map (codes "format") _ ∙ full-Text (codes "default")
present-format name form.Time c m k = present-Map (codes "format") _ ∙ full-Text (codes "default")
present-format name form.Datetime c m k = present-Map (codes "format") _ ∙ full-Text (codes "default")
present-format name form.Year c m k = present-Map (codes "format") _ ∙ full-Text (codes "default")
present-format name form.YearMonth c m k = present-Map (codes "format") _ ∙ full-Text (codes "default")

present-constraints : (name : List ℕ) (f : Form) (c : Constraints) (missing : List (List ℕ)) (in_key : Bool)
    → present (codes "constraints") (field_value (given name f c missing in_key)) ≡ Some (constraints_value c)
present-constraints name form.Text c m k = present-Map (codes "constraints") _ ∙ full-Map _
present-constraints name (form.Integer b) c m k = present-Map (codes "constraints") _ ∙ full-Map _
present-constraints name (form.Number s) c m k = present-Map (codes "constraints") _ ∙ full-Map _
present-constraints name (form.Boolean t) c m k = present-Map (codes "constraints") _ ∙ full-Map _
present-constraints name form.Date c m k = present-Map (codes "constraints") _ ∙ full-Map _
present-constraints name form.Time c m k = present-Map (codes "constraints") _ ∙ full-Map _
present-constraints name form.Datetime c m k = present-Map (codes "constraints") _ ∙ full-Map _
present-constraints name form.Year c m k = present-Map (codes "constraints") _ ∙ full-Map _
present-constraints name form.YearMonth c m k = present-Map (codes "constraints") _ ∙ full-Map _

-- ---- the options

mark-back : (c : ℕ) → is_separator c ≡ true → mark_in (character_value c) ≡ Some c
mark-back c h =
    let scalar : all_scalars (c ∷ []) ≡ true =
    (and_parts (all_scalars (c ∷ [])) _ (and_parts _ _ (and_parts _ _ h).0).0).0 in
    let one : chars (encode_utf8 c) ≡ c ∷ [] = ap chars (sym (append-nil (encode_utf8 c)))
    ∙ chars-encodes (c ∷ []) scalar in
    ap (λ o. o >>= λ text. separator_of (chars text)) (text_in-Text (encode_utf8 c)) ∙ ap separator_of one ∙ (rw h refl)

separator_of-mark : (cs : List ℕ) (c : ℕ) → separator_of cs ≡ Some c → is_separator c ≡ true
separator_of-mark [] c e = cc
separator_of-mark (b ∷ []) c e =
    let kept = if_some (is_separator b) b c e in subst (λ x. is_separator x ≡ true) kept.1 kept.0
separator_of-mark (a ∷ b ∷ cs) c e = cc

mark_in-mark : (value : Json) (c : ℕ) → mark_in value ≡ Some c → is_separator c ≡ true
mark_in-mark value c e =
    let text = bind-some (text_in value) (λ text. separator_of (chars text)) c e in
    separator_of-mark (chars text.0) c text.1.1

decimal-mark : (o : Option Json) (c : ℕ) → or_default mark_in 46 o ≡ Some c → is_separator c ≡ true
decimal-mark None c e = let same : 46 ≡ c = cc in subst (λ x. is_separator x ≡ true) same refl
decimal-mark (Some value) c e = mark_in-mark value c e

group-mark : (o : Option Json) (g : Option ℕ) → optional mark_in o ≡ Some g → IfSome g (λ c. is_separator c ≡ true)
group-mark None g e = let same : None ≡ g = cc in subst (λ x. IfSome x (λ c. is_separator c ≡ true)) same tt
group-mark (Some value) g e =
    let got = map-some Some (mark_in value) g e in
    subst (λ x. IfSome x (λ c. is_separator c ≡ true)) got.1.1 (mark_in-mark value got.0 got.1.0)

number-back : (name : List ℕ) (c : Constraints) (missing : List (List ℕ)) (in_key : Bool) (d : ℕ) (g : Option ℕ)
    (b : Bool) → is_separator d ≡ true → IfSome g (λ x. is_separator x ≡ true) → is_same_character g d ≡ false
    → spelling_in
    (field_value (given name (form.Number (record { decimal = d; group = g; bare = b })) c missing in_key))
    ≡ Some (record { decimal = d; group = g; bare = b })
number-back name c m k d g b point between apart =
    let value = field_value (given name (form.Number (record { decimal = d; group = g; bare = b })) c m k) in
    let decimal : or_default mark_in 46 (present (codes "decimalChar") value) ≡ Some d =
    ap (or_default mark_in 46) (present-Map (codes "decimalChar") _ ∙ full-Text (encode_utf8 d)) ∙ mark-back d point in
    let group : optional mark_in (present (codes "groupChar") value) ≡ Some g = group_back g between in
    let bare : bare_number_in value ≡ Some b =
    ap (or_default truth_in true) (present-Map (codes "bareNumber") _ ∙ full-Truth b) ∙ truth_in-Truth b in
    bind-same (or_default mark_in 46 (present (codes "decimalChar") value))
    (λ x. optional mark_in (present (codes "groupChar") value) >>= λ y.
    (bare_number_in value >>= λ z. spelling_of x y z)) d decimal
    ∙ bind-same (optional mark_in (present (codes "groupChar") value))
    (λ y. bare_number_in value >>= λ z. spelling_of d y z)
    g group
    ∙ bind-same (bare_number_in value) (λ z. spelling_of d g z) b bare
    ∙ ap (λ t. if t then None else Some (record { decimal = d; group = g; bare = b })) apart
  where
    group_back : (y : Option ℕ) → IfSome y (λ x. is_separator x ≡ true)
        → optional mark_in
        (present (codes "groupChar")
        (field_value (given name (form.Number (record { decimal = d; group = y; bare = b })) c m k))) ≡ Some y
    group_back None h = ap (optional mark_in) (present-Map (codes "groupChar") _)
    group_back (Some x) h = ap (optional mark_in) (present-Map (codes "groupChar") _ ∙ full-Text (encode_utf8 x))
        ∙ ap (option_map Some) (mark-back x h)

pub texts_in-back : (texts : List (List ℕ)) → texts_in (texts_value texts) ≡ Some texts
texts_in-back texts = ap (λ o. o >>= all_of text_in) (list_in-List (map json.Text texts)) ∙ texts-back texts

truths-back : (name : List ℕ) (c : Constraints) (missing : List (List ℕ)) (in_key : Bool) (t : Truths)
    → truths_in (field_value (given name (form.Boolean t) c missing in_key)) ≡ Some (form.Boolean t)
truths-back name c m k t =
    let value = field_value (given name (form.Boolean t) c m k) in
    let trues : or_default texts_in default_trues (present (codes "trueValues") value) ≡ Some t.true_values =
    ap (or_default texts_in default_trues)
    (present-Map (codes "trueValues") _ ∙ full-List (map json.Text t.true_values)) ∙ texts_in-back t.true_values in
    let falses : or_default texts_in default_falses (present (codes "falseValues") value) ≡ Some t.false_values =
    ap (or_default texts_in default_falses)
    (present-Map (codes "falseValues") _ ∙ full-List (map json.Text t.false_values))
    ∙ texts_in-back t.false_values in
    bind-same (or_default texts_in default_trues (present (codes "trueValues") value))
    (λ x. or_default texts_in default_falses (present (codes "falseValues") value) >>= λ y. Some
    (form.Boolean (record { true_values = x; false_values = y }))) t.true_values trues
    ∙ bind-same (or_default texts_in default_falses (present (codes "falseValues") value))
    (λ y. Some (form.Boolean (record { true_values = t.true_values; false_values = y }))) t.false_values falses

-- the type, and the options that read back
pub record IsForm (k : Kind) (f : Form) : Type 0 where
  pub kind : kind_of f ≡ k
  pub spelled : IsSpelled f
  pub back : (name : List ℕ) (c : Constraints) (missing : List (List ℕ)) (in_key : Bool)
      → form_in k (field_value (given name f c missing in_key)) ≡ Some f

-- The group character differs from the decimal character.
group-apart : (g : Option ℕ) (d : ℕ) → is_same_character g d ≡ false → IfSome g (λ c. c ≢ d)
group-apart None d h = tt
group-apart (Some c) d h = λ e. eqb-false d c h (sym e)

form-Number : (item : Json) (f : Form) → option_map form.Number (spelling_in item) ≡ Some f → IsForm kind.Number f
form-Number item f e =
    let got = map-some form.Number (spelling_in item) f e in
    let s = got.0 in
    let decimal = bind-some (or_default mark_in 46 (present (codes "decimalChar") item))
    (λ x. optional mark_in (present (codes "groupChar") item) >>= λ y. (bare_number_in item >>= λ z. spelling_of x y z))
    s got.1.0 in
    let group =
    bind-some (optional mark_in (present (codes "groupChar") item))
    (λ y. bare_number_in item >>= λ z. spelling_of decimal.0 y z) s decimal.1.1 in
    let bare = bind-some (bare_number_in item) (λ z. spelling_of decimal.0 group.0 z) s group.1.1 in
    let apart =
    if_none (is_same_character group.0 decimal.0) (record { decimal = decimal.0; group = group.0; bare = bare.0 }) s
    bare.1.1 in
    let whole : form.Number (record { decimal = decimal.0; group = group.0; bare = bare.0 }) ≡ f =
    ap form.Number apart.1 ∙ got.1.1 in
    subst (IsForm kind.Number) whole (record {
      kind = refl;
      spelled = record {
        decimal = decimal-mark (present (codes "decimalChar") item) decimal.0 decimal.1.0;
        group = group-mark (present (codes "groupChar") item) group.0 group.1.0;
        apart = group-apart group.0 decimal.0 apart.0;
      };
      back = λ name c missing in_key. ap (option_map form.Number)
          (number-back name c missing in_key decimal.0 group.0 bare.0
          (decimal-mark (present (codes "decimalChar") item) decimal.0 decimal.1.0)
          (group-mark (present (codes "groupChar") item) group.0 group.1.0) apart.0);
    })

form-Integer : (item : Json) (f : Form) → option_map form.Integer (bare_number_in item) ≡ Some f → IsForm kind.Integer f
form-Integer item f e =
    let got = map-some form.Integer (bare_number_in item) f e in
    subst (IsForm kind.Integer) got.1.1 (record {
      kind = refl;
      spelled = tt;
      back = λ name c missing in_key. ap (λ o. option_map form.Integer (or_default truth_in true o))
          (present-Map (codes "bareNumber") _ ∙ full-Truth got.0) ∙ ap (option_map form.Integer) (truth_in-Truth got.0);
    })

form-Boolean : (item : Json) (f : Form) → truths_in item ≡ Some f → IsForm kind.Boolean f
form-Boolean item f e =
    let trues = bind-some (or_default texts_in default_trues (present (codes "trueValues") item))
    (λ x. or_default texts_in default_falses (present (codes "falseValues") item) >>= λ y. Some
    (form.Boolean (record { true_values = x; false_values = y }))) f e in
    let falses = bind-some (or_default texts_in default_falses (present (codes "falseValues") item))
    (λ y. Some (form.Boolean (record { true_values = trues.0; false_values = y }))) f trues.1.1 in
    let whole : form.Boolean (record { true_values = trues.0; false_values = falses.0 }) ≡ f = cc (falses.1.1) in
    subst (IsForm kind.Boolean) whole
    (record {
      kind = refl;
      spelled = tt;
      back = λ name c missing in_key. truths-back name c missing in_key
          (record { true_values = trues.0; false_values = falses.0 });
    })

-- The type and the options of a reading read back.
pub form-back : (k : Kind) (item : Json) (f : Form) → form_in k item ≡ Some f → IsForm k f
form-back kind.Text item f e = let same : form.Text ≡ f = cc in
    subst (IsForm kind.Text) same (record { kind = refl; spelled = tt; back = λ name c missing in_key. refl })
form-back kind.Integer item f e = form-Integer item f e
form-back kind.Number item f e = form-Number item f e
form-back kind.Boolean item f e = form-Boolean item f e
form-back kind.Date item f e = let same : form.Date ≡ f = cc in
    subst (IsForm kind.Date) same (record { kind = refl; spelled = tt; back = λ name c missing in_key. refl })
form-back kind.Time item f e = let same : form.Time ≡ f = cc in
    subst (IsForm kind.Time) same (record { kind = refl; spelled = tt; back = λ name c missing in_key. refl })
form-back kind.Datetime item f e = let same : form.Datetime ≡ f = cc in
    subst (IsForm kind.Datetime) same (record { kind = refl; spelled = tt; back = λ name c missing in_key. refl })
form-back kind.Year item f e = let same : form.Year ≡ f = cc in
    subst (IsForm kind.Year) same (record { kind = refl; spelled = tt; back = λ name c missing in_key. refl })
form-back kind.YearMonth item f e = let same : form.YearMonth ≡ f = cc in
    subst (IsForm kind.YearMonth) same (record { kind = refl; spelled = tt; back = λ name c missing in_key. refl })

-- ---- the field

-- a field that may come after fields of these names
pub record IsColumn (names : List (List ℕ)) (column : Column) : Type 0 where
  pub is_name : is_field_name column.name ≡ true
  pub is_new : is_among names column.name ≡ false
  pub kind : Kind
  pub form : IsForm kind column.form
  pub constraints : IsKept kind column.constraints

abbrev pub after_pattern : ℕ → List ℕ → Kind → Json → Bool → Result Column SchemaFault
after_pattern number name k item pattern = or_fault (BadConstraint number) (column_of name k item)

abbrev pub after_format : ℕ → List ℕ → Kind → Json → Bool → Result Column SchemaFault
after_format number name k item format = pattern_reading item >>> after_pattern number name k item

abbrev pub after_kind : ℕ → List ℕ → Json → Kind → Result Column SchemaFault
after_kind number name item k = format_reading item >>> after_format number name k item

abbrev pub after_name : ℕ → Json → List ℕ → Result Column SchemaFault
after_name number item name = kind_reading number item >>> after_kind number name item

abbrev with_constraints : List ℕ → Form → Constraints → Option Column
with_constraints name f constraints = Some (record { name = name; form = f; constraints = constraints })

abbrev with_form : List ℕ → Kind → Json → Form → Option Column
with_form name k item f = constraints_of k item >>= with_constraints name f

-- A reading is such a field.
pub column-is : (number : ℕ) (names : List (List ℕ)) (item : Json) (column : Column)
    → column_reading number names item ≡ Ok column → IsColumn names column
unfolding column_reading
column-is number names item column e =
    let outer = bind-ok (name_reading number item >>> new_name number names) (after_name number item) column e in
    let inner = bind-ok (name_reading number item) (new_name number names) outer.0 outer.1.0 in
    let new = if_err (RepeatedName number) (is_among names inner.0) inner.0 outer.0 inner.1.1 in
    let raw = bind-ok (or_fault (BadName number) (present (codes "name") item >>= text_in)) (named number) inner.0
    inner.1.0 in
    let fit = if_ok (BadName number) (is_field_name raw.0) raw.0 inner.0 raw.1.1 in
    let k = bind-ok (kind_reading number item) (after_kind number outer.0 item) column outer.1.1 in
    let format = bind-ok (format_reading item) (after_format number outer.0 k.0 item) column k.1.1 in
    let pattern = bind-ok (pattern_reading item) (after_pattern number outer.0 k.0 item) column format.1.1 in
    let some = or_fault-ok (BadConstraint number) (column_of outer.0 k.0 item) column pattern.1.1 in
    let f = bind-some (form_in k.0 item) (with_form outer.0 k.0 item) column some in
    let c = bind-some (constraints_of k.0 item) (with_constraints outer.0 f.0) column f.1.1 in
    let same : record { name = outer.0; form = f.0; constraints = c.0 } ≡ column = cc (c.1.1) in
    subst (IsColumn names) same (record {
      is_name = subst (λ x. is_field_name x ≡ true) (fit.1 ∙ new.1) fit.0;
      is_new = subst (λ x. is_among names x ≡ false) new.1 new.0;
      kind = k.0;
      form = form-back k.0 item f.0 f.1.0;
      constraints = kept-constraints k.0 item c.0 c.1.0;
    })

kind-named : (number : ℕ) (k : Kind) → kind_named number (kind_name k) ≡ Ok k
kind-named number kind.Text = refl
kind-named number kind.Integer = refl
kind-named number kind.Number = refl
kind-named number kind.Boolean = refl
kind-named number kind.Date = refl
kind-named number kind.Time = refl
kind-named number kind.Datetime = refl
kind-named number kind.Year = refl
kind-named number kind.YearMonth = refl

-- Such a field reads back when it is written.
pub column-written : (number : ℕ) (names : List (List ℕ)) (column : Column) (missing : List (List ℕ)) (in_key : Bool)
    → IsColumn names column
    → column_reading number names (field_value (given column.name column.form column.constraints missing in_key))
    ≡ Ok column
unfolding column_reading
column-written number names column missing in_key is =
    let name = column.name in
    let f = column.form in
    let c = column.constraints in
    let k = is.kind in
    let value = field_value (given name f c missing in_key) in
    let named_so : name_reading number value ≡ Ok name =
    ap (λ o. or_fault (BadName number) (o >>= text_in) >>> named number) (present-name name f c missing in_key)
    ∙ ap (λ o. or_fault (BadName number) o >>> named number) (text_in-Text name)
    ∙ ap (λ b. if b then Ok name else Err (BadName number)) is.is_name in
    let new_so : new_name number names name ≡ Ok name =
    ap (λ b. if b then Err (RepeatedName number) else Ok name) is.is_new in
    let both : (name_reading number value >>> new_name number names) ≡ Ok name =
    ok-same (name_reading number value) (new_name number names) name named_so ∙ new_so in
    let kind_so : kind_reading number value ≡ Ok k =
    ap (λ o. or_fault (UnknownKind number) (or_default text_in (codes "string") o) >>> kind_named number)
    (present-type name f c missing in_key)
    ∙ ap (λ o. or_fault (UnknownKind number) o >>> kind_named number) (text_in-Text (kind_name (kind_of f)))
    ∙ kind-named number (kind_of f)
    ∙ ap Ok is.form.kind in
    let format_so : format_reading value ≡ Ok true =
    ap (λ o. or_fault (Unsupported (codes "format")) (or_default text_in (codes "default") o) >>> default_format)
    (present-format name f c missing in_key)
    ∙ ap (λ o. or_fault (Unsupported (codes "format")) o >>> default_format) (text_in-Text (codes "default")) in
    let pattern_so : pattern_reading value ≡ Ok true =
    ap (λ o. if is_some (o >>= present (codes "pattern")) then Err (Unsupported (codes "pattern")) else Ok true)
    (present-constraints name f c missing in_key)
    ∙ ap (λ o. if is_some o then Err (Unsupported (codes "pattern")) else Ok true) (no_pattern c) in
    let constraints_so : constraints_of k value ≡ Some c =
    ap (or_default (λ v. dictionary_in v >>= constraints_in k) no_constraints)
    (present-constraints name f c missing in_key)
    ∙ ap (λ o. o >>= constraints_in k) (dictionary_in-Map _)
    ∙ constraints-back k c is.constraints in
    let column_so : column_of name k value ≡ Some column =
    bind-same (form_in k value) (with_form name k value) f (is.form.back name c missing in_key)
    ∙ bind-same (constraints_of k value) (with_constraints name f) c constraints_so in
    ok-same (name_reading number value >>> new_name number names) (after_name number value) name both
    ∙ ok-same (kind_reading number value) (after_kind number name value) k kind_so
    ∙ ok-same (format_reading value) (after_format number name k value) true format_so
    ∙ ok-same (pattern_reading value) (after_pattern number name k value) true pattern_so
    ∙ ap (or_fault (BadConstraint number)) column_so

-- ---- all fields

abbrev with_rest : Column → List Column → Result (List Column) SchemaFault
with_rest column columns = Ok (column ∷ columns)

abbrev pub after_first : ℕ → List (List ℕ) → List Json → Column → Result (List Column) SchemaFault
after_first number names items column = columns_reading (suc number) (names ++ column.name ∷ []) items
    >>> with_rest column

pub columns-back : (number : ℕ) (names : List (List ℕ)) (items : List Json) (columns : List Column)
    (missing : List (List ℕ)) (key : List ℕ) (index : ℕ) → columns_reading number names items ≡ Ok columns
    → columns_reading number names (map field_value (fields_from missing key index columns)) ≡ Ok columns
columns-back number names [] columns missing key index e =
    let none : [] ≡ columns = cc in
    subst (λ l. columns_reading number names (map field_value (fields_from missing key index l)) ≡ Ok l) none refl
columns-back number names (item ∷ items) columns missing key index e =
    let first = bind-ok (column_reading number names item) (after_first number names items) columns e in
    let column = first.0 in
    let after = names ++ column.name ∷ [] in
    let rest = bind-ok (columns_reading (suc number) after items) (with_rest column) columns first.1.1 in
    let same : column ∷ rest.0 ≡ columns = cc (rest.1.1) in
    let field = field_of missing key index column in
    let values = map field_value (fields_from missing key (suc index) rest.0) in
    subst (λ l. columns_reading number names (map field_value (fields_from missing key index l)) ≡ Ok l) same (
    ok-same (column_reading number names (field_value field)) (after_first number names values) column
    (column-written number names column missing field.in_key (column-is number names item column first.1.0))
    ∙ ok-same (columns_reading (suc number) after values) (with_rest column) rest.0
    (columns-back (suc number) after items rest.0 missing key (suc index) rest.1.0))

pub columns-length : (number : ℕ) (names : List (List ℕ)) (items : List Json) (columns : List Column)
    → columns_reading number names items ≡ Ok columns → length columns ≡ length items
columns-length number names [] columns e = let none : [] ≡ columns = cc in sym (ap length none)
columns-length number names (item ∷ items) columns e =
    let first = bind-ok (column_reading number names item) (after_first number names items) columns e in
    let column = first.0 in
    let rest = bind-ok (columns_reading (suc number) (names ++ column.name ∷ []) items) (with_rest column) columns
    first.1.1 in
    let same : column ∷ rest.0 ≡ columns = cc (rest.1.1) in
    sym (ap length same) ∙ ap suc (columns-length (suc number) (names ++ column.name ∷ []) items rest.0 rest.1.0)

-- The bounds and the allowed cells of each field are values.
pub columns-all : (P : FieldValue → Type 0) (missing : List (List ℕ)) (key : List ℕ)
    → ((names : List (List ℕ)) (index : ℕ) (column : Column) → IsColumn names column
    → P (field_of missing key index column))
    → (number : ℕ) (names : List (List ℕ)) (items : List Json) (columns : List Column) (index : ℕ)
    → columns_reading number names items ≡ Ok columns → All P (fields_from missing key index columns)
columns-all P missing key each number names [] columns index e =
    let none : [] ≡ columns = cc (e) in
    subst (λ l. All P (fields_from missing key index l)) none (All-none P)
columns-all P missing key each number names (item ∷ items) columns index e =
    let first = bind-ok (column_reading number names item) (after_first number names items) columns e in
    let column = first.0 in
    let after = names ++ column.name ∷ [] in
    let rest = bind-ok (columns_reading (suc number) after items) (with_rest column) columns first.1.1 in
    let same : column ∷ rest.0 ≡ columns = cc (rest.1.1) in
    subst (λ l. All P (fields_from missing key index l)) same
    (All-more P (field_of missing key index column) (fields_from missing key (suc index) rest.0)
    (each names index column (column-is number names item column first.1.0))
    (columns-all P missing key each (suc number) after items rest.0 (suc index) rest.1.0))

-- ---- the readings in order, with the first error

pub name_fault : (number : ℕ) (names : List (List ℕ)) (item : Json) (fault : SchemaFault)
    → name_reading number item ≡ Err fault → column_reading number names item ≡ Err fault
unfolding column_reading
name_fault number names item fault e = ap (λ r. r >>> new_name number names >>> after_name number item) e

pub taken_fault : (number : ℕ) (names : List (List ℕ)) (item : Json) (name : List ℕ)
    → name_reading number item ≡ Ok name → is_among names name ≡ true
    → column_reading number names item ≡ Err (RepeatedName number)
unfolding column_reading
taken_fault number names item name e old =
    ap (λ r. r >>> new_name number names >>> after_name number item) e
    ∙ ap (λ b. (if b then Err (RepeatedName number) else Ok name) >>> after_name number item) old

pub new_so : (number : ℕ) (names : List (List ℕ)) (item : Json) (name : List ℕ) → name_reading number item ≡ Ok name
    → is_among names name ≡ false → column_reading number names item ≡ after_name number item name
unfolding column_reading
new_so number names item name e new =
    ap (λ r. r >>> new_name number names >>> after_name number item) e
    ∙ ap (λ b. (if b then Err (RepeatedName number) else Ok name) >>> after_name number item) new

pub kind_fault_so : (number : ℕ) (item : Json) (name : List ℕ) (fault : SchemaFault)
    → kind_reading number item ≡ Err fault → after_name number item name ≡ Err fault
kind_fault_so number item name fault e = ap (λ r. r >>> after_kind number name item) e

pub kind_so : (number : ℕ) (item : Json) (name : List ℕ) (k : Kind) → kind_reading number item ≡ Ok k
    → after_name number item name ≡ after_kind number name item k
kind_so number item name k e = ap (λ r. r >>> after_kind number name item) e

pub format_fault_so : (number : ℕ) (item : Json) (name : List ℕ) (k : Kind) (fault : SchemaFault)
    → format_reading item ≡ Err fault → after_kind number name item k ≡ Err fault
format_fault_so number item name k fault e = ap (λ r. r >>> after_format number name k item) e

pub format_so : (number : ℕ) (item : Json) (name : List ℕ) (k : Kind) → format_reading item ≡ Ok true
    → after_kind number name item k ≡ (pattern_reading item >>> after_pattern number name k item)
format_so number item name k e = ap (λ r. r >>> after_format number name k item) e

pub pattern_fault_so : (number : ℕ) (item : Json) (name : List ℕ) (k : Kind) (fault : SchemaFault)
    → pattern_reading item ≡ Err fault → (pattern_reading item >>> after_pattern number name k item) ≡ Err fault
pattern_fault_so number item name k fault e = ap (λ r. r >>> after_pattern number name k item) e

pub pattern_so : (number : ℕ) (item : Json) (name : List ℕ) (k : Kind) (column : Option Column)
    → pattern_reading item ≡ Ok true → column ≡ column_of name k item
    → (pattern_reading item >>> after_pattern number name k item) ≡ or_fault (BadConstraint number) column
pattern_so number item name k column e read = ap (λ r. r >>> after_pattern number name k item) e
    ∙ ap (or_fault (BadConstraint number)) (sym read)
