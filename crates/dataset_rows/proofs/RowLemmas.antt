-- The row of a dataset is read back as that dataset.
use Rattle.std.proofs.Common.{◌≡◌, ℕ, ◌<◌, ◌^◌, Bool, true, false, List, [], ◌∷◌, ◌++◌, map, Option, Some, None}
use Rattle.std.proofs.Common.{option_map, option_and_then, refl, sym, ap, ap₂, ◌∙◌, subst, rules, arith, lt-ltb}
use Rattle.std.proofs.Common.{ltb-true, get_or}
use Rattle.std.specs.Prelude.{codes, nat_lt, unwrap_or, if◌then◌else◌, ℤ, pos, negsuc}
use Rattle.std.specs.List.{All}
use Rattle.std.proofs.lemmas.List.Elements.{All-head, All-tail, All-map}
use Rattle.std.proofs.lemmas.Option.{same_Some}
use Rattle.portal_base.specs.Json.{json_of, first_of, member_in, member_of}
use Rattle.portal_base.specs.Kinds as kinds
use Rattle.portal_base.specs.Moment.{IsMoment}
use Rattle.portal_base.specs.MomentReading.{moment_reading}
use Rattle.portal_base.specs.MomentText.{moment_text}
use Rattle.portal_base.specs.declared.json_value.Json as json
use Rattle.portal_base.specs.declared.json_value.Json.{Json, out-Json, the_lemmas}
use Rattle.portal_base.specs.declared.json_value.Json.TheOpen.{Json-F}
use Rattle.portal_base.proofs.ReadingBack.{reading-moment_text, reading-only}
use Rattle.packages.specs.State.{state_name}
use Rattle.packages.specs.declared.package.Package.{Package}
use Rattle.packages.specs.declared.package.Resource.{Resource}
use Rattle.packages.specs.declared.package.State.{State}
use Rattle.packages.specs.declared.package.State.TheVariants.{Draft, Active, Deleted}
use Rattle.dataset_rows.specs.Reading.{json_read, at_key, text_or_empty, items_or_none, truth_or_false}
use Rattle.dataset_rows.specs.Reading.{truth_of_level, number_of_level, number_or_zero, state_named}
use Rattle.dataset_rows.specs.Reading.{text_of, items_of, truth_of, number_of, moment_of, resource_in, dataset_in}
use Rattle.dataset_rows.specs.Reading.{dataset_read}
use Rattle.dataset_rows.specs.Rows.{resource_members, resource_json, members_to_name}
use Rattle.dataset_rows.specs.Rows.{members_to_source, members_to_version, members_of, row_json, row_text}
use Rattle.dataset_rows.specs.Rows.{IsWellTyped, HasRow}
use Rattle.dataset_rows.proofs.ReadBack.{IsReadBack, AreReadBack, AreEntriesReadBack, text_back, truth_back, whole_back}
use Rattle.dataset_rows.proofs.ReadBack.{list_back, map_back, read-json_text}

-- ---- values by their kinds

out-Text : (text : List ℕ) → out-Json (json.Text text) ≡ Json-F.Text text
out-Text text = search (rules, the_lemmas)

out-Truth : (b : Bool) → out-Json (json.Truth b) ≡ Json-F.Truth b
out-Truth b = search (rules, the_lemmas)

out-Whole : (z : ℤ) → out-Json (json.Whole z) ≡ Json-F.Whole z
out-Whole z = search (rules, the_lemmas)

out-List : (items : List Json) → out-Json (json.List items) ≡ Json-F.List items
out-List items = search (rules, the_lemmas)

out-Map : (entries : List (List ℕ × Json)) → out-Json (json.Map entries) ≡ Json-F.Map entries
out-Map entries = search (rules, the_lemmas)

text_or_empty-Text : (text : List ℕ) → text_or_empty (json.Text text) ≡ text
unfolding text_or_empty
text_or_empty-Text text = ap (λ v. unwrap_or (kinds.text_of v) []) (out-Text text)

items_or_none-List : (items : List Json) → items_or_none (json.List items) ≡ items
items_or_none-List items = ap (λ v. unwrap_or (kinds.list_of v) []) (out-List items)

truth_or_false-Truth : (b : Bool) → truth_or_false (json.Truth b) ≡ b
truth_or_false-Truth b = ap truth_of_level (out-Truth b)

number_or_zero-Whole : (n : ℕ) → n < 2 ^ 32 → number_or_zero (json.Whole (pos n)) ≡ n
number_or_zero-Whole n fits =
    ap number_of_level (out-Whole (pos n)) ∙ ap (λ b. if b then n else 0) (lt-ltb n (2 ^ 32) fits)

state_named-state_name : (state : State) → state_named (state_name state) ≡ state
state_named-state_name Draft = refl
state_named-state_name Active = refl
state_named-state_name Deleted = refl

-- ---- the values of keys

-- the value of a key is read, once it is found
at_key-found : {A : Type 0} (read_value : Json → A) (absent : A) (key : List ℕ) (es : List (List ℕ × Json)) (v : Json)
    → first_of key es ≡ Some v → at_key read_value absent key (json.Map es) ≡ read_value v
at_key-found read_value absent key es v found =
    ap (λ o. unwrap_or (option_map read_value o) absent) (ap (member_in key) (out-Map es) ∙ found)

text_of-found : (key : List ℕ) (es : List (List ℕ × Json)) (text : List ℕ) → first_of key es ≡ Some (json.Text text)
    → text_of key (json.Map es) ≡ text
unfolding text_of
text_of-found key es text found =
    at_key-found text_or_empty [] key es (json.Text text) found ∙ text_or_empty-Text text

items_of-found : (key : List ℕ) (es : List (List ℕ × Json)) (items : List Json) → first_of key es ≡ Some (json.List items)
    → items_of key (json.Map es) ≡ items
unfolding items_of
items_of-found key es items found =
    at_key-found items_or_none [] key es (json.List items) found ∙ items_or_none-List items

truth_of-found : (key : List ℕ) (es : List (List ℕ × Json)) (b : Bool) → first_of key es ≡ Some (json.Truth b)
    → truth_of key (json.Map es) ≡ b
unfolding truth_of
truth_of-found key es b found =
    at_key-found truth_or_false false key es (json.Truth b) found ∙ truth_or_false-Truth b

number_of-found : (key : List ℕ) (es : List (List ℕ × Json)) (n : ℕ) → first_of key es ≡ Some (json.Whole (pos n))
    → n < 2 ^ 32 → number_of key (json.Map es) ≡ n
unfolding number_of
number_of-found key es n found fits =
    at_key-found number_or_zero 0 key es (json.Whole (pos n)) found ∙ number_or_zero-Whole n fits

moment_of-found : (key : List ℕ) (es : List (List ℕ × Json)) (moment : ℤ)
    → first_of key es ≡ Some (json.Text (moment_text moment)) → IsMoment moment → moment_of key (json.Map es) ≡ moment
unfolding moment_of
moment_of-found key es moment found within =
    ap (λ text. unwrap_or (moment_reading text) (pos 0)) (text_of-found key es (moment_text moment) found)
    ∙ ap (λ o. unwrap_or o (pos 0)) (reading-moment_text moment within)

-- ---- a resource

resource_with : (r : Resource) (number : ℕ) (name url format description mimetype : List ℕ)
    → number ≡ r.number → name ≡ r.name → url ≡ r.url → format ≡ r.format → description ≡ r.description
    → mimetype ≡ r.mimetype
    → record {
      number = number;
      name = name;
      url = url;
      format = format;
      description = description;
      mimetype = mimetype;
    } ≡ r
resource_with r number name url format description mimetype n a u f d m = rw (n, a, u, f, d, m) refl

resource_in-resource_json : (r : Resource) → r.number < 2 ^ 32 → resource_in (resource_json r) ≡ r
unfolding resource_in
resource_in-resource_json r fits =
    let es = resource_members r in
    resource_with r _ _ _ _ _ _
    (number_of-found (codes "number") es r.number refl fits)
    (text_of-found (codes "name") es r.name refl)
    (text_of-found (codes "url") es r.url refl)
    (text_of-found (codes "format") es r.format refl)
    (text_of-found (codes "description") es r.description refl)
    (text_of-found (codes "mimetype") es r.mimetype refl)

abbrev HasNumber : Resource → Type 0
HasNumber r = r.number < 2 ^ 32

resources_read : (rs : List Resource) → All HasNumber rs → map resource_in (map resource_json rs) ≡ rs
resources_read [] all = refl
resources_read (r ∷ rs) all =
    ap₂ (λ (x : Resource) (xs : List Resource). x ∷ xs)
    (resource_in-resource_json r (All-head HasNumber r rs all)) (resources_read rs (All-tail HasNumber r rs all))

tags_read : (tags : List (List ℕ)) → map text_or_empty (map json.Text tags) ≡ tags
tags_read [] = refl
tags_read (tag ∷ tags) =
    ap₂ (λ (x : List ℕ) (xs : List (List ℕ)). x ∷ xs) (text_or_empty-Text tag) (tags_read tags)

-- ---- a dataset

dataset_with : (d : Package)
    (name title notes author maintainer license_id url version owner_org creator source iri : List ℕ)
    (private : Bool) (state : State) (tags : List (List ℕ)) (resources : List Resource) (next_resource : ℕ)
    (created modified : ℤ)
    → name ≡ d.name → title ≡ d.title → notes ≡ d.notes → author ≡ d.author → maintainer ≡ d.maintainer
    → license_id ≡ d.license_id → url ≡ d.url → version ≡ d.version → owner_org ≡ d.owner_org
    → creator ≡ d.creator → source ≡ d.source → iri ≡ d.iri → private ≡ d.private → state ≡ d.state
    → tags ≡ d.tags → resources ≡ d.resources → next_resource ≡ d.next_resource → created ≡ d.created
    → modified ≡ d.modified
    → record {
      id = d.id;
      name = name;
      title = title;
      notes = notes;
      author = author;
      maintainer = maintainer;
      license_id = license_id;
      url = url;
      version = version;
      owner_org = owner_org;
      private = private;
      state = state;
      tags = tags;
      resources = resources;
      next_resource = next_resource;
      creator = creator;
      created = created;
      modified = modified;
      source = source;
      iri = iri;
    } ≡ d
dataset_with d name title notes author maintainer license_id url version owner_org creator source iri private state
    tags resources next_resource created modified e1 e2 e3 e4 e5 e6 e7 e8 e9 e10 e11 e12 e13 e14 e15 e16 e17 e18 e19 =
    rw (e1, e2, e3, e4, e5, e6, e7, e8, e9, e10, e11, e12, e13, e14, e15, e16, e17, e18, e19) refl

pub dataset_in-row_json : (d : Package) → IsWellTyped d → dataset_in d.id (row_json d) ≡ d
unfolding dataset_in
dataset_in-row_json d typed =
    let es = members_of d in
    dataset_with d _ _ _ _ _ _ _ _ _ _ _ _ _ _ _ _ _ _ _
    (text_of-found (codes "name") es d.name refl)
    (text_of-found (codes "title") es d.title refl)
    (text_of-found (codes "notes") es d.notes refl)
    (text_of-found (codes "author") es d.author refl)
    (text_of-found (codes "maintainer") es d.maintainer refl)
    (text_of-found (codes "license_id") es d.license_id refl)
    (text_of-found (codes "url") es d.url refl)
    (text_of-found (codes "version") es d.version refl)
    (text_of-found (codes "owner_org") es d.owner_org refl)
    (text_of-found (codes "creator") es d.creator refl)
    (text_of-found (codes "source") es d.source refl)
    (text_of-found (codes "iri") es d.iri refl)
    (truth_of-found (codes "private") es d.private refl)
    (ap state_named (text_of-found (codes "state") es (state_name d.state) refl) ∙ state_named-state_name d.state)
    (ap (map text_or_empty) (items_of-found (codes "tags") es (map json.Text d.tags) refl) ∙ tags_read d.tags)
    (ap (map resource_in) (items_of-found (codes "resources") es (map resource_json d.resources) refl)
    ∙ resources_read d.resources typed.numbers)
    (number_of-found (codes "next_resource") es d.next_resource refl typed.next_resource)
    (moment_of-found (codes "created") es d.created refl typed.created)
    (moment_of-found (codes "modified") es d.modified refl typed.modified)

-- ---- what is read is well typed

small : (n : ℕ) (b : Bool) → nat_lt n (2 ^ 32) ≡ b → (if b then n else 0) < 2 ^ 32
small n true is = ltb-true n (2 ^ 32) is
small n false is = omega arith

number_of_level-small : (level : Json-F Json) → number_of_level level < 2 ^ 32
number_of_level-small Json-F.Null = omega arith
number_of_level-small (Json-F.Truth b) = omega arith
number_of_level-small (Json-F.Whole (pos n)) = small n (nat_lt n (2 ^ 32)) refl
number_of_level-small (Json-F.Whole (negsuc n)) = omega arith
number_of_level-small (Json-F.Text text) = omega arith
number_of_level-small (Json-F.List items) = omega arith
number_of_level-small (Json-F.Map entries) = omega arith

found_small : (found : Option Json) → unwrap_or (option_map number_or_zero found) 0 < 2 ^ 32
found_small None = omega arith
found_small (Some value) = number_of_level-small (out-Json value)

number_of-small : (key : List ℕ) (row : Json) → number_of key row < 2 ^ 32
unfolding number_of
number_of-small key row = found_small (member_of key row)

moment_found : (text : List ℕ) (found : Option ℤ) → moment_reading text ≡ found → IsMoment (unwrap_or found (pos 0))
moment_found text None is = search rules
moment_found text (Some moment) is = (reading-only moment text is).0

moment_of-IsMoment : (key : List ℕ) (row : Json) → IsMoment (moment_of key row)
unfolding moment_of
moment_of-IsMoment key row = moment_found (text_of key row) (moment_reading (text_of key row)) refl

resource_in-HasNumber : (value : Json) → HasNumber (resource_in value)
unfolding resource_in
resource_in-HasNumber value = number_of-small (codes "number") value

pub dataset_in-IsWellTyped : (id : List ℕ) (row : Json) → IsWellTyped (dataset_in id row)
unfolding dataset_in
dataset_in-IsWellTyped id row = record {
  next_resource = number_of-small (codes "next_resource") row;
  numbers = All-map HasNumber resource_in (items_of (codes "resources") row)
      (λ k d within. resource_in-HasNumber (get_or (items_of (codes "resources") row) k d));
  created = moment_of-IsMoment (codes "created") row;
  modified = moment_of-IsMoment (codes "modified") row;
}

-- ---- the JSON value of a dataset is read back from its text

resource_json-back : (r : Resource) → r.number < 2 ^ 32 → IsReadBack 1 (resource_json r)
resource_json-back r fits =
    map_back 0 (resource_members r) refl (
      text_back 0 r.description,
      (
        text_back 0 r.format,
        (
          text_back 0 r.mimetype,
          (text_back 0 r.name, (whole_back 0 r.number (omega arith), (text_back 0 r.url, tt))),
        ),
      ),
    )

resources-back : (rs : List Resource) → All HasNumber rs → AreReadBack 1 (map resource_json rs)
resources-back [] all = tt
resources-back (r ∷ rs) all =
    (resource_json-back r (All-head HasNumber r rs all), resources-back rs (All-tail HasNumber r rs all))

tags-back : (tags : List (List ℕ)) → AreReadBack 1 (map json.Text tags)
tags-back [] = tt
tags-back (tag ∷ tags) = (text_back 1 tag, tags-back tags)

entries_append : (levels : ℕ) (es fs : List (List ℕ × Json)) → AreEntriesReadBack levels es
    → AreEntriesReadBack levels fs → AreEntriesReadBack levels (es ++ fs)
entries_append levels [] fs one other = other
entries_append levels (e ∷ es) fs one other = (one.0, entries_append levels es fs one.1 other)

to_name-back : (d : Package) → AreEntriesReadBack 2 (members_to_name d)
to_name-back d = (
  text_back 2 d.author,
  (
    text_back 2 (moment_text d.created),
    (
      text_back 2 d.creator,
      (
        text_back 2 d.iri,
        (
          text_back 2 d.license_id,
          (
            text_back 2 d.maintainer,
            (text_back 2 (moment_text d.modified), (text_back 2 d.name, tt)),
          ),
        ),
      ),
    ),
  ),
)

to_source-back : (d : Package) → IsWellTyped d
    → AreEntriesReadBack 2 (members_to_source d (map resource_json d.resources))
to_source-back d typed = (
  whole_back 2 d.next_resource (omega (arith, typed.next_resource)),
  (
    text_back 2 d.notes,
    (
      text_back 2 d.owner_org,
      (
        truth_back 2 d.private,
        (
          list_back 1 (map resource_json d.resources) (resources-back d.resources typed.numbers),
          (text_back 2 d.source, tt),
        ),
      ),
    ),
  ),
)

to_version-back : (d : Package) → AreEntriesReadBack 2 (members_to_version d (map json.Text d.tags))
to_version-back d = (
  text_back 2 (state_name d.state),
  (
    list_back 1 (map json.Text d.tags) (tags-back d.tags),
    (text_back 2 d.title, (text_back 2 d.url, (text_back 2 d.version, tt))),
  ),
)

row_json-back : (d : Package) → IsWellTyped d → IsReadBack 3 (row_json d)
row_json-back d typed =
    let resources = map resource_json d.resources in
    let tags = map json.Text d.tags in
    map_back 2 (members_of d) refl
    (entries_append 2 (members_to_name d) (members_to_source d resources ++ members_to_version d tags) (to_name-back d)
    (entries_append 2 (members_to_source d resources) (members_to_version d tags) (to_source-back d typed)
    (to_version-back d)))

-- ---- rows

pub json_read-row_text : (d : Package) → IsWellTyped d → json_read (row_text d) ≡ Some (row_json d)
unfolding row_text json_read
json_read-row_text d typed =
    let back = row_json-back d typed in
    ap (option_and_then json_of) (read-json_text 3 (row_json d) (omega arith) back) ∙ back.same

pub row_read : (id body : List ℕ) (d : Package) → HasRow id body d → dataset_read id body ≡ Some d
row_read id body d has =
    ap (λ i. dataset_read i body) (sym has.named) ∙ ap (dataset_read d.id) (sym has.written)
    ∙ ap (option_map (dataset_in d.id)) (json_read-row_text d has.typed) ∙ ap Some (dataset_in-row_json d has.typed)

pub one_dataset : (id body : List ℕ) (one other : Package) → HasRow id body one → HasRow id body other → one ≡ other
one_dataset id body one other has also =
    same_Some one other (sym (row_read id body one has) ∙ row_read id body other also)

-- A row of which no dataset is read is that of none.
pub none_read : (id body : List ℕ) → dataset_read id body ≡ None → (d : Package) → HasRow id body d → ⊥
none_read id body none d has = let read : None ≡ Some d = sym none ∙ row_read id body d has in cc

-- The row is that of the dataset that is read of it, or of none.
pub other_read : (id body : List ℕ) (read : Package) → dataset_read id body ≡ Some read → (row_text read ≡ body → ⊥)
    → (d : Package) → HasRow id body d → ⊥
other_read id body read is other d has =
    other (ap row_text (same_Some read d (sym is ∙ row_read id body d has)) ∙ has.written)

-- a dataset with this id, whose fields have values of their types
abbrev IsNamed : List ℕ → Package → Type 0
IsNamed id d = IsWellTyped d × (d.id ≡ id)

named : (id : List ℕ) (row : Option Json) (read : Package) → option_map (dataset_in id) row ≡ Some read → IsNamed id read
unfolding dataset_in
named id None read is = absurd (cc)
named id (Some row) read is =
    subst (IsNamed id) (same_Some (dataset_in id row) read is) (dataset_in-IsWellTyped id row, refl)

pub has_row : (id body : List ℕ) (read : Package) → dataset_read id body ≡ Some read → row_text read ≡ body
    → HasRow id body read
has_row id body read is written =
    let as_read = named id (json_read body) read is in
    record { typed = as_read.0; named = as_read.1; written = written }
