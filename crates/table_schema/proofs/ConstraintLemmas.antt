-- The constraints of a field read back from the dictionary that they are written as.
use Rattle.std.proofs.Common.{◌≡◌, ℕ, zero, suc, arith, Bool, true, false, refl, ap, ◌∙◌, subst, List, [], ◌∷◌, ◌++◌}
use Rattle.std.proofs.Common.{map, codes}
use Rattle.std.specs.Prelude.{◌^◌, nat_lt, if◌then◌else◌, Option, Some, None, option_map, ℤ, pos, negsuc, IfSome, All}
use Rattle.std.specs.Option.{option_or}
use Rattle.std.specs.Str.{bytes_eq}
use Rattle.portal_base.specs.Json.{first_of}
use Rattle.portal_base.specs.declared.json_value.Json as json
use Rattle.portal_base.specs.declared.json_value.Json.{Json, out-Json}
use Rattle.portal_base.specs.declared.json_value.Json.TheOpen.{Json-F}
use Rattle.table_schema.specs.declared.cell.Cell.{Cell}
use Rattle.table_schema.specs.declared.constraint.Constraints.{Constraints}
use Rattle.table_schema.specs.declared.form.Kind.{Kind}
use Rattle.table_schema.specs.Descriptor.{has_length, has_order, count_of, length_in, bound_in, some_of, allowed_in}
use Rattle.table_schema.specs.Descriptor.{no_constraints, constraints_in, constraints_of}
use Rattle.table_schema.specs.Printed.{cell_value, IsValue, HasValues}
use Rattle.table_schema.specs.Reading.{value_in, value_reading}
use Rattle.portal_base.specs.Kinds.{non_null, is_null_in, present, list_in}
use Rattle.table_schema.specs.Values.{◌>>=◌, all_of, or_default, optional, dictionary_in, whole_of, whole_in, truth_in}
use Rattle.table_schema.specs.Written.{MemberList, member_where, member_if, allowed_member, constraints_value}
use Rattle.table_schema.proofs.CellLemmas.{value_reading-cell_value, value_reading-IsValue}
use Rattle.table_schema.proofs.ValueLemmas.{bind-some, bind-same, map-some, gated, all_of-back, optional-back}
use Rattle.table_schema.proofs.ValueLemmas.{present-Map, whole_in-Whole, truth_in-Truth, list_in-List, full-Truth}
use Rattle.table_schema.proofs.ValueLemmas.{full-List}

-- ---- members of a dictionary that is written in parts

pub first_of-append : (key : List ℕ) (xs ys : MemberList)
    → first_of key (xs ++ ys) ≡ option_or (first_of key xs) (first_of key ys)
first_of-append key [] ys = refl
first_of-append key (x ∷ xs) ys = chosen (bytes_eq key x.0) x.1 (first_of key (xs ++ ys)) (first_of key xs)
    (first_of key ys) (first_of-append key xs ys)
  where
    chosen : (b : Bool) (a : Json) (rest front back : Option Json) → rest ≡ option_or front back
        → (if b then Some a else rest) ≡ option_or (if b then Some a else front) back
    chosen true a rest front back e = refl
    chosen false a rest front back e = e

nothing : (b : Bool) → ◌≡◌ {A = Option Json} None (if b then None else None)
nothing true = refl
nothing false = refl

pub first_of-where : {A : Type 0} (key other : List ℕ) (value : A → Json) (o : Option A)
    → first_of key (member_where other value o) ≡ (if bytes_eq key other then option_map value o else None)
first_of-where key other value None = nothing (bytes_eq key other)
first_of-where key other value (Some x) = refl

pub first_of-if : (key other : List ℕ) (b : Bool)
    → first_of key (member_if other b)
    ≡ (if bytes_eq key other then (if b then Some (json.Truth true) else None) else None)
first_of-if key other true = refl
first_of-if key other false = nothing (bytes_eq key other)

abbrev allowed_value : List Cell → Option Json
allowed_value [] = None
allowed_value (c ∷ cells) = Some (json.List (map cell_value (c ∷ cells)))

first_of-allowed : (key : List ℕ) (cells : List Cell)
    → first_of key (allowed_member cells) ≡ (if bytes_eq key (codes "enum") then allowed_value cells else None)
first_of-allowed key [] = nothing (bytes_eq key (codes "enum"))
first_of-allowed key (c ∷ cells) = refl

option_or-none : {A : Type 0} (o : Option A) → option_or o None ≡ o
option_or-none None = refl
option_or-none (Some x) = refl

-- the value of a key in a dictionary of constraints
abbrev constraint_at : List ℕ → Constraints → Option Json
constraint_at key c =
    option_or (option_or (option_or (option_or (option_or (option_or
    (if bytes_eq key (codes "enum") then allowed_value c.allowed else None)
    (if bytes_eq key (codes "maxLength") then option_map json.Whole c.max_length else None))
    (if bytes_eq key (codes "maximum") then option_map cell_value c.maximum else None))
    (if bytes_eq key (codes "minLength") then option_map json.Whole c.min_length else None))
    (if bytes_eq key (codes "minimum") then option_map cell_value c.minimum else None))
    (if bytes_eq key (codes "required") then (if c.required then Some (json.Truth true) else None) else None))
    (if bytes_eq key (codes "unique") then (if c.unique then Some (json.Truth true) else None) else None)

present-constraint : (key : List ℕ) (c : Constraints)
    → present key (constraints_value c) ≡ non_null (constraint_at key c)
present-constraint key c =
    present-Map key _ ∙ ap non_null (simp (first_of-append, first_of-where, first_of-if, first_of-allowed))

-- ---- the readings

whole_in_kept : (j : Json-F Json) (z : ℤ) → whole_of j ≡ Some z → is_null_in j ≡ false
whole_in_kept Json-F.Null z e = cc
whole_in_kept (Json-F.Truth b) z e = refl
whole_in_kept (Json-F.Whole w) z e = refl
whole_in_kept (Json-F.Text t) z e = refl
whole_in_kept (Json-F.List js) z e = refl
whole_in_kept (Json-F.Map es) z e = refl

count-back : (w z : ℤ) → count_of w ≡ Some z → count_of z ≡ Some z
count-back (pos n) z e = by (nat_lt n (2 ^ 64)) refl e
  where
    by : (b : Bool) → nat_lt n (2 ^ 64) ≡ b → (if b then Some (pos n) else None) ≡ Some z → count_of z ≡ Some z
    by true small h =
        let same : pos n ≡ z = cc in
        let kept : count_of (pos n) ≡ Some (pos n) = ap (λ b. if b then Some (pos n) else None) small in
        subst (λ y. count_of y ≡ Some y) same kept
    by false large h = absurd (cc)
count-back (negsuc n) z e = absurd (cc)

length-back : (k : Kind) (value : Json) (z : ℤ) → length_in k value ≡ Some z → length_in k (json.Whole z) ≡ Some z
length-back k value z e =
    let open_gate = gated (has_length k) (whole_in value >>= count_of) z e in
    let whole = bind-some (whole_in value) count_of z open_gate.1 in
    rw open_gate.0 (ap (λ o. o >>= count_of) (whole_in-Whole z) ∙ count-back whole.0 z whole.1.1)

length-there : (k : Kind) (value : Json) (z : ℤ) → length_in k value ≡ Some z → is_null_in (out-Json value) ≡ false
length-there k value z e =
    let open_gate = gated (has_length k) (whole_in value >>= count_of) z e in
    let whole = bind-some (whole_in value) count_of z open_gate.1 in
    whole_in_kept (out-Json value) whole.0 whole.1.0

value-there : (k : Kind) (j : Json-F Json) (c : Cell) → value_in k j ≡ Some c → is_null_in j ≡ false
value-there k Json-F.Null c e = cc
value-there k (Json-F.Truth b) c e = refl
value-there k (Json-F.Whole w) c e = refl
value-there k (Json-F.Text t) c e = refl
value-there k (Json-F.List js) c e = refl
value-there k (Json-F.Map es) c e = refl

bound-back : (k : Kind) (value : Json) (c : Cell) → bound_in k value ≡ Some c → bound_in k (cell_value c) ≡ Some c
bound-back k value c e =
    let open_gate = gated (has_order k) (value_reading k value) c e in
    rw open_gate.0 (value_reading-cell_value k value c open_gate.1)

bound-there : (k : Kind) (value : Json) (c : Cell) → bound_in k value ≡ Some c → is_null_in (out-Json value) ≡ false
bound-there k value c e = value-there k (out-Json value) c (gated (has_order k) (value_reading k value) c e).1

bound-value : (k : Kind) (o : Option Json) (r : Option Cell) → optional (bound_in k) o ≡ Some r → IfSome r IsValue
bound-value k None r e = let none : None ≡ r = cc in subst (λ s. IfSome s IsValue) none tt
bound-value k (Some value) r e =
    let got = map-some Some (bound_in k value) r e in
    subst (λ s. IfSome s IsValue) got.1.1
    (value_reading-IsValue k value got.0 (gated (has_order k) (value_reading k value) got.0 got.1.0).1)

pub All-none : {A : Type 0} (P : A → Type 0) → All P []
All-none P k d lt = absurd (omega arith)

pub All-more : {A : Type 0} (P : A → Type 0) (x : A) (xs : List A) → P x → All P xs → All P (x ∷ xs)
All-more P x xs here all zero d lt = here
All-more P x xs here all (suc k) d lt = all k d (omega arith)

cells-values : (k : Kind) (items : List Json) (cells : List Cell) → all_of (value_reading k) items ≡ Some cells
    → All IsValue cells
cells-values k [] cells e = let none : [] ≡ cells = cc in subst (λ l. All IsValue l) none (All-none IsValue)
cells-values k (item ∷ items) cells e =
    let first = bind-some (value_reading k item) (λ y. option_map (λ ys. y ∷ ys) (all_of (value_reading k) items))
    cells e in
    let rest = map-some (λ ys. first.0 ∷ ys) (all_of (value_reading k) items) cells first.1.1 in
    subst (λ l. All IsValue l) rest.1.1
    (All-more IsValue first.0 rest.0 (value_reading-IsValue k item first.0 first.1.0)
    (cells-values k items rest.0 rest.1.0))

-- Each constraint reads back if it is written, and is a value of the type.
pub record IsKept (k : Kind) (c : Constraints) : Type 0 where
  pub min_length : optional (length_in k) (non_null (option_map json.Whole c.min_length)) ≡ Some c.min_length
  pub max_length : optional (length_in k) (non_null (option_map json.Whole c.max_length)) ≡ Some c.max_length
  pub minimum : optional (bound_in k) (non_null (option_map cell_value c.minimum)) ≡ Some c.minimum
  pub maximum : optional (bound_in k) (non_null (option_map cell_value c.maximum)) ≡ Some c.maximum
  pub allowed : all_of (value_reading k) (map cell_value c.allowed) ≡ Some c.allowed
  pub values : HasValues c

-- the readings of the constraints in order
abbrev after_maximum : Kind → Json → Bool → Bool → Option ℤ → Option ℤ → Option Cell → Option Cell → Option Constraints
after_maximum k value required unique min_length max_length minimum maximum =
    or_default (allowed_in k) [] (present (codes "enum") value) >>= λ allowed.
    Some (record {
      required = required;
      unique = unique;
      min_length = min_length;
      max_length = max_length;
      minimum = minimum;
      maximum = maximum;
      allowed = allowed;
    })

abbrev after_minimum : Kind → Json → Bool → Bool → Option ℤ → Option ℤ → Option Cell → Option Constraints
after_minimum k value required unique min_length max_length minimum =
    optional (bound_in k) (present (codes "maximum") value) >>= after_maximum k value required unique min_length
    max_length minimum

abbrev after_max_length : Kind → Json → Bool → Bool → Option ℤ → Option ℤ → Option Constraints
after_max_length k value required unique min_length max_length =
    optional (bound_in k) (present (codes "minimum") value) >>= after_minimum k value required unique min_length
    max_length

abbrev after_min_length : Kind → Json → Bool → Bool → Option ℤ → Option Constraints
after_min_length k value required unique min_length =
    optional (length_in k) (present (codes "maxLength") value) >>= after_max_length k value required unique min_length

abbrev after_unique : Kind → Json → Bool → Bool → Option Constraints
after_unique k value required unique =
    optional (length_in k) (present (codes "minLength") value) >>= after_min_length k value required unique

abbrev after_required : Kind → Json → Bool → Option Constraints
after_required k value required =
    or_default truth_in false (present (codes "unique") value) >>= after_unique k value required

allowed-back : (k : Kind) (o : Option Json) (cells : List Cell) → or_default (allowed_in k) [] o ≡ Some cells
    → all_of (value_reading k) (map cell_value cells) ≡ Some cells
allowed-back k None cells e = let none : [] ≡ cells = cc in
    subst (λ l. all_of (value_reading k) (map cell_value l) ≡ Some l) none refl
allowed-back k (Some value) cells e =
    let some = bind-some (list_in value >>= some_of) (all_of (value_reading k)) cells e in
    all_of-back (value_reading k) cell_value (value_reading-cell_value k) some.0 cells some.1.1

allowed-values : (k : Kind) (o : Option Json) (cells : List Cell) → or_default (allowed_in k) [] o ≡ Some cells
    → All IsValue cells
allowed-values k None cells e = let none : [] ≡ cells = cc in subst (λ l. All IsValue l) none (All-none IsValue)
allowed-values k (Some value) cells e =
    let some = bind-some (list_in value >>= some_of) (all_of (value_reading k)) cells e in
    cells-values k some.0 cells some.1.1

kept-dictionary : (k : Kind) (value : Json) (c : Constraints) → constraints_in k value ≡ Some c → IsKept k c
kept-dictionary k value c e =
    let required = bind-some (or_default truth_in false (present (codes "required") value)) (after_required k value) c
    e in
    let unique = bind-some (or_default truth_in false (present (codes "unique") value))
    (after_unique k value required.0) c required.1.1 in
    let min_length = bind-some (optional (length_in k) (present (codes "minLength") value))
    (after_min_length k value required.0 unique.0) c unique.1.1 in
    let max_length = bind-some (optional (length_in k) (present (codes "maxLength") value))
    (after_max_length k value required.0 unique.0 min_length.0) c min_length.1.1 in
    let minimum = bind-some (optional (bound_in k) (present (codes "minimum") value))
    (after_minimum k value required.0 unique.0 min_length.0 max_length.0) c max_length.1.1 in
    let maximum = bind-some (optional (bound_in k) (present (codes "maximum") value))
    (after_maximum k value required.0 unique.0 min_length.0 max_length.0 minimum.0) c minimum.1.1 in
    let allowed = bind-some (or_default (allowed_in k) [] (present (codes "enum") value))
    (λ cells. Some (made required.0 unique.0 min_length.0 max_length.0 minimum.0 maximum.0 cells)) c maximum.1.1 in
    let same : made required.0 unique.0 min_length.0 max_length.0 minimum.0 maximum.0 allowed.0 ≡ c =
    cc (allowed.1.1) in
    subst (IsKept k) same (record {
      min_length = optional-back (length_in k) json.Whole (length-back k) (length-there k)
          (present (codes "minLength") value) min_length.0 min_length.1.0;
      max_length = optional-back (length_in k) json.Whole (length-back k) (length-there k)
          (present (codes "maxLength") value) max_length.0 max_length.1.0;
      minimum = optional-back (bound_in k) cell_value (bound-back k) (bound-there k) (present (codes "minimum") value)
          minimum.0 minimum.1.0;
      maximum = optional-back (bound_in k) cell_value (bound-back k) (bound-there k) (present (codes "maximum") value)
          maximum.0 maximum.1.0;
      allowed = allowed-back k (present (codes "enum") value) allowed.0 allowed.1.0;
      values = (
        bound-value k (present (codes "minimum") value) minimum.0 minimum.1.0,
        bound-value k (present (codes "maximum") value) maximum.0 maximum.1.0,
        allowed-values k (present (codes "enum") value) allowed.0 allowed.1.0,
      );
    })
  where
    made : Bool → Bool → Option ℤ → Option ℤ → Option Cell → Option Cell → List Cell → Constraints
    made required unique min_length max_length minimum maximum allowed = record {
      required = required;
      unique = unique;
      min_length = min_length;
      max_length = max_length;
      minimum = minimum;
      maximum = maximum;
      allowed = allowed;
    }

kept-none : (k : Kind) → IsKept k no_constraints
kept-none k = record {
  min_length = refl;
  max_length = refl;
  minimum = refl;
  maximum = refl;
  allowed = refl;
  values = (tt, tt, All-none IsValue);
}

kept-present : (k : Kind) (o : Option Json) (c : Constraints)
    → or_default (λ value. dictionary_in value >>= constraints_in k) no_constraints o ≡ Some c → IsKept k c
kept-present k None c e = let none : no_constraints ≡ c = cc in subst (IsKept k) none (kept-none k)
kept-present k (Some value) c e =
    let dictionary = bind-some (dictionary_in value) (constraints_in k) c e in
    kept-dictionary k dictionary.0 c dictionary.1.1

-- The constraints of a reading stay the same when they are written and read.
pub kept-constraints : (k : Kind) (item : Json) (c : Constraints) → constraints_of k item ≡ Some c → IsKept k c
kept-constraints k item c e = kept-present k (present (codes "constraints") item) c e

-- ---- written constraints read back

truth-back : (b : Bool) → or_default truth_in false (non_null (if b then Some (json.Truth true) else None)) ≡ Some b
truth-back true = ap (or_default truth_in false) (full-Truth true) ∙ truth_in-Truth true
truth-back false = refl

enum-back : (k : Kind) (cells : List Cell) → all_of (value_reading k) (map cell_value cells) ≡ Some cells
    → or_default (allowed_in k) [] (non_null (allowed_value cells)) ≡ Some cells
enum-back k [] e = refl
enum-back k (c ∷ cells) e =
    let items = map cell_value (c ∷ cells) in
    ap (or_default (allowed_in k) []) (full-List items)
    ∙ ap (λ o. o >>= some_of >>= all_of (value_reading k)) (list_in-List items)
    ∙ e

pub constraints-back : (k : Kind) (c : Constraints) → IsKept k c → constraints_in k (constraints_value c) ≡ Some c
constraints-back k c kept =
    let value = constraints_value c in
    let required : or_default truth_in false (present (codes "required") value) ≡ Some c.required =
    ap (or_default truth_in false)
    (present-constraint (codes "required") c
    ∙ ap non_null (option_or-none (if c.required then Some (json.Truth true) else None))) ∙ truth-back c.required in
    let unique : or_default truth_in false (present (codes "unique") value) ≡ Some c.unique =
    ap (or_default truth_in false) (present-constraint (codes "unique") c) ∙ truth-back c.unique in
    let min_length : optional (length_in k) (present (codes "minLength") value) ≡ Some c.min_length =
    ap (optional (length_in k)) (present-constraint (codes "minLength") c ∙ simp option_or-none) ∙ kept.min_length in
    let max_length : optional (length_in k) (present (codes "maxLength") value) ≡ Some c.max_length =
    ap (optional (length_in k)) (present-constraint (codes "maxLength") c ∙ simp option_or-none) ∙ kept.max_length in
    let minimum : optional (bound_in k) (present (codes "minimum") value) ≡ Some c.minimum =
    ap (optional (bound_in k)) (present-constraint (codes "minimum") c ∙ simp option_or-none) ∙ kept.minimum in
    let maximum : optional (bound_in k) (present (codes "maximum") value) ≡ Some c.maximum =
    ap (optional (bound_in k)) (present-constraint (codes "maximum") c ∙ simp option_or-none) ∙ kept.maximum in
    let allowed : or_default (allowed_in k) [] (present (codes "enum") value) ≡ Some c.allowed =
    ap (or_default (allowed_in k) []) (present-constraint (codes "enum") c ∙ simp option_or-none)
    ∙ enum-back k c.allowed kept.allowed in
    bind-same (or_default truth_in false (present (codes "required") value)) (after_required k value) c.required
    required
    ∙ bind-same (or_default truth_in false (present (codes "unique") value)) (after_unique k value c.required)
    c.unique unique
    ∙ bind-same (optional (length_in k) (present (codes "minLength") value))
    (after_min_length k value c.required c.unique) c.min_length min_length
    ∙ bind-same (optional (length_in k) (present (codes "maxLength") value))
    (after_max_length k value c.required c.unique c.min_length) c.max_length max_length
    ∙ bind-same (optional (bound_in k) (present (codes "minimum") value))
    (after_minimum k value c.required c.unique c.min_length c.max_length) c.minimum minimum
    ∙ bind-same (optional (bound_in k) (present (codes "maximum") value))
    (after_maximum k value c.required c.unique c.min_length c.max_length c.minimum) c.maximum maximum
    ∙ ap (λ o. o >>= λ cells. Some (record c { allowed = cells })) allowed

-- No pattern is written.
pub no_pattern : (c : Constraints) → present (codes "pattern") (constraints_value c) ≡ None
no_pattern c = present-constraint (codes "pattern") c
