-- Values that are read in order, and the steps of a successful reading.
use Rattle.std.proofs.Common.{◌≡◌, ℕ, ◌+◌, ◌<◌, Bool, true, false, refl, ap, sym, ◌∙◌, subst, List, [], ◌∷◌, ◌++◌}
use Rattle.std.proofs.Common.{map, length, get_or, drop, append_assoc, rules}
use Rattle.std.specs.Prelude.{if◌then◌else◌, Option, Some, None, option_map, Result, Ok, Err, ℤ}
use Rattle.std.proofs.lemmas.List.{at_drop_more}
use Rattle.portal_base.specs.declared.json_value.Json as json
use Rattle.portal_base.specs.Json.{first_of, member_in}
use Rattle.portal_base.specs.declared.json_value.Json.{Json, out-Json, the_lemmas}
use Rattle.portal_base.specs.declared.json_value.Json.TheOpen.{Json-F}
use Rattle.table_schema.specs.declared.fault.SchemaFault.{SchemaFault}
use Rattle.portal_base.specs.Kinds.{is_null_in, non_null, present, text_of, text_in, list_of, list_in}
use Rattle.table_schema.specs.Values.{◌>>=◌, ◌>>>◌, or_fault, all_of, is_map_in, is_map, dictionary_in, truth_of}
use Rattle.table_schema.specs.Values.{truth_in, whole_of, whole_in, optional}

-- ---- values by their kinds

pub out-Truth : (b : Bool) → out-Json (json.Truth b) ≡ Json-F.Truth b
out-Truth b = search (rules, the_lemmas)

pub out-Whole : (z : ℤ) → out-Json (json.Whole z) ≡ Json-F.Whole z
out-Whole z = search (rules, the_lemmas)

pub out-Text : (text : List ℕ) → out-Json (json.Text text) ≡ Json-F.Text text
out-Text text = search (rules, the_lemmas)

pub out-List : (items : List Json) → out-Json (json.List items) ≡ Json-F.List items
out-List items = search (rules, the_lemmas)

pub out-Map : (entries : List (List ℕ × Json)) → out-Json (json.Map entries) ≡ Json-F.Map entries
out-Map entries = search (rules, the_lemmas)

pub truth_in-Truth : (b : Bool) → truth_in (json.Truth b) ≡ Some b
truth_in-Truth b = ap truth_of (out-Truth b)

pub whole_in-Whole : (z : ℤ) → whole_in (json.Whole z) ≡ Some z
whole_in-Whole z = ap whole_of (out-Whole z)

pub text_in-Text : (text : List ℕ) → text_in (json.Text text) ≡ Some text
text_in-Text text = ap text_of (out-Text text)

pub list_in-List : (items : List Json) → list_in (json.List items) ≡ Some items
list_in-List items = ap list_of (out-List items)

pub is_map-Map : (entries : List (List ℕ × Json)) → is_map (json.Map entries) ≡ true
is_map-Map entries = ap is_map_in (out-Map entries)

pub dictionary_in-Map : (entries : List (List ℕ × Json)) → dictionary_in (json.Map entries) ≡ Some (json.Map entries)
dictionary_in-Map entries = ap (λ b. if b then Some (json.Map entries) else None) (is_map-Map entries)

full : (value : Json) (j : Json-F Json) → out-Json value ≡ j → is_null_in j ≡ false → non_null (Some value) ≡ Some value
full value j e there = ap (λ b. if b then None else Some value) (ap is_null_in e ∙ there)

pub full-Truth : (b : Bool) → non_null (Some (json.Truth b)) ≡ Some (json.Truth b)
full-Truth b = full (json.Truth b) (Json-F.Truth b) (out-Truth b) refl

pub full-Text : (text : List ℕ) → non_null (Some (json.Text text)) ≡ Some (json.Text text)
full-Text text = full (json.Text text) (Json-F.Text text) (out-Text text) refl

pub full-List : (items : List Json) → non_null (Some (json.List items)) ≡ Some (json.List items)
full-List items = full (json.List items) (Json-F.List items) (out-List items) refl

pub full-Map : (entries : List (List ℕ × Json)) → non_null (Some (json.Map entries)) ≡ Some (json.Map entries)
full-Map entries = full (json.Map entries) (Json-F.Map entries) (out-Map entries) refl

pub present-Map : (key : List ℕ) (entries : List (List ℕ × Json))
    → present key (json.Map entries) ≡ non_null (first_of key entries)
present-Map key entries = ap (λ j. non_null (member_in key j)) (out-Map entries)

-- ---- lists of values

-- the values that were read, followed by those of these items
abbrev pub read_on : {A : Type 0} → (Json → Option A) → List A → List Json → Option (List A)
read_on read before items = option_map (λ xs. before ++ xs) (all_of read items)

pub joined : {A : Type 0} (before : List A) (x : A) (rest : Option (List A))
    → option_map (λ xs. before ++ xs) (option_map (λ xs. x ∷ xs) rest) ≡ option_map (λ xs. (before ++ x ∷ []) ++ xs)
    rest
joined before x None = refl
joined before x (Some xs) = ap Some (sym (append_assoc before (x ∷ []) xs))

pub read_on-some : {A : Type 0} (read : Json → Option A) (before : List A) (items : List Json) (i : ℕ) (item : Json)
    (x : A) → i < length items → item ≡ get_or items i item → read item ≡ Some x
    → read_on read before (drop i items) ≡ read_on read (before ++ x ∷ []) (drop (i + 1) items)
read_on-some read before items i item x lt is e =
    at_drop_more (read_on read before) items i item lt
    ∙ (rw (← is) (rw e (joined before x (all_of read (drop (i + 1) items)))))

-- ---- the steps of a successful reading

pub bind-some : {A B : Type 0} (o : Option A) (f : A → Option B) (y : B) → (o >>= f) ≡ Some y
    → (x : A) × ((o ≡ Some x) × (f x ≡ Some y))
bind-some None f y e = absurd (cc)
bind-some (Some x) f y e = (x, (refl, e))

pub bind-ok : {A B : Type 0} (r : Result A SchemaFault) (f : A → Result B SchemaFault) (y : B) → (r >>> f) ≡ Ok y
    → (x : A) × ((r ≡ Ok x) × (f x ≡ Ok y))
bind-ok (Err fault) f y e = absurd (cc)
bind-ok (Ok x) f y e = (x, (refl, e))

pub bind-same : {A B : Type 0} (o : Option A) (f : A → Option B) (x : A) → o ≡ Some x → (o >>= f) ≡ f x
bind-same o f x e = ap (λ p. p >>= f) e

pub ok-same : {A B : Type 0} (r : Result A SchemaFault) (f : A → Result B SchemaFault) (x : A) → r ≡ Ok x
    → (r >>> f) ≡ f x
ok-same r f x e = ap (λ p. p >>> f) e

pub gated : {A : Type 0} (b : Bool) (o : Option A) (x : A) → (if b then o else None) ≡ Some x
    → (b ≡ true) × (o ≡ Some x)
gated true o x e = (refl, e)
gated false o x e = absurd (cc)

pub map-some : {A B : Type 0} (f : A → B) (o : Option A) (y : B) → option_map f o ≡ Some y
    → (x : A) × ((o ≡ Some x) × (f x ≡ y))
map-some f None y e = absurd (cc)
map-some f (Some x) y e = (x, (refl, cc))

pub or_fault-ok : {A : Type 0} (fault : SchemaFault) (o : Option A) (x : A) → or_fault fault o ≡ Ok x → o ≡ Some x
or_fault-ok fault None x e = cc
or_fault-ok fault (Some y) x e = cc

pub if_some : {A : Type 0} (b : Bool) (x y : A) → (if b then Some x else None) ≡ Some y → (b ≡ true) × (x ≡ y)
if_some true x y e = (refl, cc)
if_some false x y e = absurd (cc)

pub if_none : {A : Type 0} (b : Bool) (x y : A) → (if b then None else Some x) ≡ Some y → (b ≡ false) × (x ≡ y)
if_none true x y e = absurd (cc)
if_none false x y e = (refl, cc)

pub if_ok : {A : Type 0} (fault : SchemaFault) (b : Bool) (x y : A) → (if b then Ok x else Err fault) ≡ Ok y
    → (b ≡ true) × (x ≡ y)
if_ok fault true x y e = (refl, cc)
if_ok fault false x y e = absurd (cc)

pub if_err : {A : Type 0} (fault : SchemaFault) (b : Bool) (x y : A) → (if b then Err fault else Ok x) ≡ Ok y
    → (b ≡ false) × (x ≡ y)
if_err fault true x y e = absurd (cc)
if_err fault false x y e = (refl, cc)

-- ---- a reading reads back when it is written

pub all_of-back : {A : Type 0} (read : Json → Option A) (write : A → Json)
    → ((value : Json) (x : A) → read value ≡ Some x → read (write x) ≡ Some x) → (items : List Json) (xs : List A)
    → all_of read items ≡ Some xs → all_of read (map write xs) ≡ Some xs
all_of-back read write back [] xs e = let none : [] ≡ xs = cc in
    subst (λ l. all_of read (map write l) ≡ Some l) none refl
all_of-back read write back (item ∷ items) xs e =
    let first = bind-some (read item) (λ y. option_map (λ ys. y ∷ ys) (all_of read items)) xs e in
    let rest = map-some (λ ys. first.0 ∷ ys) (all_of read items) xs first.1.1 in
    let here : read (write first.0) ≡ Some first.0 = back item first.0 first.1.0 in
    let there : all_of read (map write rest.0) ≡ Some rest.0 = all_of-back read write back items rest.0 rest.1.0 in
    subst (λ l. all_of read (map write l) ≡ Some l) rest.1.1 (rw here (rw there refl))

pub texts-back : (texts : List (List ℕ)) → all_of text_in (map json.Text texts) ≡ Some texts
texts-back [] = refl
texts-back (text ∷ texts) =
    ap (λ o. o >>= λ t. option_map (λ ts. t ∷ ts) (all_of text_in (map json.Text texts))) (text_in-Text text)
    ∙ ap (option_map (λ ts. text ∷ ts)) (texts-back texts)

pub optional-back : {A : Type 0} (read : Json → Option A) (write : A → Json)
    → ((value : Json) (x : A) → read value ≡ Some x → read (write x) ≡ Some x)
    → ((value : Json) (x : A) → read value ≡ Some x → is_null_in (out-Json value) ≡ false)
    → (o : Option Json) (r : Option A) → optional read o ≡ Some r
    → optional read (non_null (option_map write r)) ≡ Some r
optional-back read write back there None r e = let none : None ≡ r = cc in
    subst (λ s. optional read (non_null (option_map write s)) ≡ Some s) none refl
optional-back read write back there (Some value) r e =
    let got = map-some Some (read value) r e in
    let again : read (write got.0) ≡ Some got.0 = back value got.0 got.1.0 in
    let full : is_null_in (out-Json (write got.0)) ≡ false = there (write got.0) got.0 again in
    subst (λ s. optional read (non_null (option_map write s)) ≡ Some s) got.1.1 (rw full (rw again refl))
