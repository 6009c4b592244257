-- A dataset that is built from a body without errors is sound if the old dataset is.
use Rattle.std.proofs.Common.{◌≡◌, ◌≢◌, ℕ, ◌<◌, ◌≤◌, Bool, true, false, cond, List, [], ◌∷◌, length}
use Rattle.std.proofs.Common.{codes, refl, Option, Some, None, sym, ap, ◌∙◌, subst, inl, inr, ◌⊎◌, arith}
use Rattle.std.specs.Prelude.{Any, IfSome, IsTrue, Result, Ok, Err, is_none, nat_le, option_map, unwrap_or}
use Rattle.std.specs.Ordering.{nat_cmp}
use Rattle.std.specs.Cmp.Lexicographic.{slice_cmp}
use Rattle.std.specs.List.{All, AllPairs, Contains}
use Rattle.std.specs.Str.{bytes_eq}
use Rattle.std.proofs.lemmas.List.Elements.{All-contains_itself, All-cons, All-nil}
use Rattle.portal_base.specs.declared.json_value.Json.{Json}
use Rattle.portal_base.specs.declared.kinds.KindFault.{KindFault}
use Rattle.portal_base.specs.KeyErrors.{found_value}
use Rattle.portal_base.specs.Kinds.{list_at, text_at}
use Rattle.portal_base.specs.Name.{is_name, name_fault}
use Rattle.portal_base.specs.Ordered.{IsAscending}
use Rattle.packages.specs.Body.{body_checks, built_dataset, reset_dataset, with_body, base_dataset, body_errors}
use Rattle.packages.specs.Named.{resource_address}
use Rattle.packages.specs.Numbered.{AreNumbered}
use Rattle.packages.specs.Resources.{items_error, next_after_items, next_after_item, next_or, number_for, numbered}
use Rattle.packages.specs.Resources.{resources_given, resources_or, resources_error, resources_key_error}
use Rattle.packages.specs.Tags.{tag_names, tags_or, text_set}
use Rattle.packages.specs.Texts.{dataset_name_error, name_error, organization_change_error, text_given}
use Rattle.packages.specs.Texts.{fixed_text_error, longest_name, name_key_error, organization_key_error}
use Rattle.packages.specs.Errors.{optional_error}
use Rattle.packages.specs.declared.package.Package.{Package}
use Rattle.packages.specs.declared.package.Resource.{Resource}
use Rattle.packages.proofs.NoErrors.{with_rule_errors-none, option_map-none}
use Rattle.packages.proofs.ResourceNumbers.{Keeps, KeepsBelow, KeepsBelow-new, KeepsBelow-old, TakesNext, found-number}
use Rattle.packages.proofs.ResourceNumbers.{items_error-apart, kept-id, next_after_items-le, next_after_item-le}
use Rattle.packages.proofs.ResourceNumbers.{number_for-cases}
use Rattle.packages.proofs.ResourceNumbers.{numbered-distinct, numbered-within}
use Rattle.packages.proofs.TextSets.{IsAscending-text_set}

-- ---- a body without errors has no error at a key

name-no_errors : (body : Json) (old : Option Package) → body_errors body old ≡ [] → name_key_error old body ≡ None
name-no_errors body old no_errors = (with_rule_errors-none (body_checks body old) [] no_errors).1.1.1.1.0

organization-no_errors : (body : Json) (old : Option Package) → body_errors body old ≡ []
    → organization_key_error old body ≡ None
organization-no_errors body old no_errors = (with_rule_errors-none (body_checks body old) [] no_errors).1.1.1.1.1.1.0

resources-no_errors : (body : Json) (old : Option Package) → body_errors body old ≡ []
    → resources_key_error old body ≡ None
resources-no_errors body old no_errors = (with_rule_errors-none (body_checks body old) [] no_errors).1.1.1.1.1.1.1.1.0

-- ---- name and organization of a new dataset

-- A required key without an error is present, and its text has no error by the rules.
fixed-given : (rules : List ℕ → Option (List ℕ)) (read : Result (Option (List ℕ)) KindFault)
    → fixed_text_error None rules read ≡ None
    → (text : List ℕ) × ((read ≡ Ok (Some text)) × (rules text ≡ None))
fixed-given rules (Ok None) e = absurd (cc)
fixed-given rules (Ok (Some text)) e = (text, (refl, e))
fixed-given rules (Err fault) e = absurd (cc)

is_name-no_error : (text : List ℕ) → name_error text ≡ None → IsTrue (is_name text longest_name)
is_name-no_error text e = ap is_none (option_map-none _ (name_fault text longest_name) e)

-- So the text that is read is the one that a new dataset gets.
fixed-read : (rules : List ℕ → Option (List ℕ)) (read : Result (Option (List ℕ)) KindFault)
    → fixed_text_error None rules read ≡ None
    → read ≡ Ok (Some (unwrap_or (found_value read) []))
fixed-read rules read e =
    let P : Result (Option (List ℕ)) KindFault → Type 0 = λ r. r ≡ Ok (Some (unwrap_or (found_value r) [])) in
    subst P (sym (fixed-given rules read e).1.0) refl

-- A new dataset has the name that the body gives.
pub new_name_at : (body : Json) (whole : Bool) → body_errors body None ≡ []
    → text_at (codes "name") body ≡ Ok (Some (built_dataset body None whole).name)
new_name_at body whole no_errors = fixed-read (dataset_name_error None) (text_at (codes "name") body)
    (name-no_errors body None no_errors)

-- That name has the form of a name.
pub new_name : (body : Json) (whole : Bool) → body_errors body None ≡ []
    → IsTrue (is_name (built_dataset body None whole).name longest_name)
new_name body whole no_errors =
    let given = fixed-given (dataset_name_error None) (text_at (codes "name") body)
    (name-no_errors body None no_errors) in
    let P : Result (Option (List ℕ)) KindFault → Type 0 =
    λ read. IsTrue (is_name (unwrap_or (found_value read) []) longest_name) in
    subst P (sym given.1.0) (is_name-no_error given.0 given.1.1)

-- A new dataset has the organization that the body gives.
pub new_organization_at : (body : Json) (whole : Bool) → body_errors body None ≡ []
    → text_at (codes "owner_org") body ≡ Ok (Some (built_dataset body None whole).owner_org)
new_organization_at body whole no_errors =
    fixed-read (organization_change_error None) (text_at (codes "owner_org") body)
    (organization-no_errors body None no_errors)

pub new_organization : (body : Json) (whole : Bool) → body_errors body None ≡ []
    → text_given (codes "owner_org") body ≡ Some (built_dataset body None whole).owner_org
new_organization body whole no_errors = ap found_value (new_organization_at body whole no_errors)

-- ---- what no body changes

pub built_id : (body : Json) (old : Package) (whole : Bool) → (built_dataset body (Some old) whole).id ≡ old.id
built_id body old true = refl
built_id body old false = refl

pub built_name : (body : Json) (old : Package) (whole : Bool) → (built_dataset body (Some old) whole).name ≡ old.name
built_name body old true = refl
built_name body old false = refl

pub built_owner_org : (body : Json) (old : Package) (whole : Bool)
    → (built_dataset body (Some old) whole).owner_org ≡ old.owner_org
built_owner_org body old true = refl
built_owner_org body old false = refl

pub built_source : (body : Json) (old : Package) (whole : Bool) → (built_dataset body (Some old) whole).source
    ≡ old.source
built_source body old true = refl
built_source body old false = refl

-- ---- tags

with_body-tags : (kept : List (List ℕ)) (body : Json) → IsAscending (slice_cmp nat_cmp) kept
    → IsAscending (slice_cmp nat_cmp) (tags_or kept body)
with_body-tags kept body up = by (found_value (list_at (codes "tags") body))
  where
    by : (found : Option (List Json))
        → IsAscending (slice_cmp nat_cmp) (unwrap_or (option_map (λ items. text_set (tag_names items)) found) kept)
    by None = up
    by (Some items) = IsAscending-text_set (tag_names items)

-- Tags ascend.
pub built_tags : (body : Json) (old : Option Package) (whole : Bool)
    → IfSome old (λ dataset. IsAscending (slice_cmp nat_cmp) dataset.tags)
    → IsAscending (slice_cmp nat_cmp) (built_dataset body old whole).tags
built_tags body None whole up = with_body-tags [] body tt
built_tags body (Some old) true up = with_body-tags [] body tt
built_tags body (Some old) false up = with_body-tags old.tags body up

-- ---- numbers of resources

-- If the key `resources` has no error, its items have none.
items_error-none : (old : Option Package) (body : Json) (items : List Json) → resources_key_error old body ≡ None
    → resources_given body ≡ Some items → items_error old [] items ≡ None
items_error-none old body items no_errors given = by (list_at (codes "resources") body) no_errors given
  where
    short : (b : Bool) → cond b (items_error old [] items) (Some (codes "More than 200 resources")) ≡ None
        → items_error old [] items ≡ None
    short true e = e
    short false e = absurd (cc)

    by : (read : Result (Option (List Json)) KindFault) → optional_error (resources_error old) read ≡ None
        → found_value read ≡ Some items → items_error old [] items ≡ None
    by (Ok None) e f = absurd (cc)
    by (Ok (Some list)) e f =
        let same : list ≡ items = cc in
        short (nat_le (length items) 200) (ap (resources_error old) (sym same) ∙ e)
    by (Err fault) e f = absurd (cc)

-- If the kept numbers are below the next number at the start, the resources are numbered.
with_body-numbered : (body : Json) (old : Option Package) (start : Package) → resources_key_error old body ≡ None
    → AreNumbered start → KeepsBelow old start.next_resource → AreNumbered (with_body body old start)
with_body-numbered body old start no_errors stood below =
    record { next = parts.0; within = parts.1.0; distinct = parts.1.1 }
  where
    next : Option (List Json) → ℕ
    next given = unwrap_or (option_map (next_after_items old start.next_resource) given) start.next_resource

    list : Option (List Json) → List Resource
    list given = unwrap_or (option_map (numbered old start.next_resource) given) start.resources

    by : (given : Option (List Json)) → resources_given body ≡ given
        → (1 ≤ next given)
        × (All (λ r. (1 ≤ r.number) × (r.number < next given)) (list given)
        × AllPairs (λ r s. r.number ≢ s.number) (list given))
    by None is = (stood.next, (stood.within, stood.distinct))
    by (Some items) is =
        let apart = items_error-apart old [] items (items_error-none old body items no_errors is) in
        let further = next_after_items-le old start.next_resource items in
        let same : start.next_resource ≤ start.next_resource = omega arith in (
          omega (arith, stood.next, further),
          (
            numbered-within old start.next_resource start.next_resource items below stood.next same,
            numbered-distinct old start.next_resource start.next_resource items below same apart,
          ),
        )

    parts : (1 ≤ next (resources_given body))
        × (All (λ r. (1 ≤ r.number) × (r.number < next (resources_given body))) (list (resources_given body))
        × AllPairs (λ r s. r.number ≢ s.number) (list (resources_given body)))
    parts = by (resources_given body) refl

AllPairs-nil : AllPairs (λ (r s : Resource). r.number ≢ s.number) []
AllPairs-nil = λ i j d lt within. absurd (omega arith)

-- A dataset without resources is numbered.
numbered-none : (dataset : Package) → dataset.resources ≡ [] → 1 ≤ dataset.next_resource → AreNumbered dataset
numbered-none dataset none one =
    record {
      next = one;
      within = rw none (All-nil (λ (r : Resource). (1 ≤ r.number) × (r.number < dataset.next_resource)));
      distinct = rw none AllPairs-nil;
    }

-- The numbers are distinct, at least 1 and below the next number.
pub built_numbered : (body : Json) (old : Option Package) (whole : Bool) → body_errors body old ≡ []
    → IfSome old AreNumbered → AreNumbered (built_dataset body old whole)
built_numbered body None whole no_errors stood =
    with_body-numbered body None (base_dataset body None whole) (resources-no_errors body None no_errors)
    (numbered-none (base_dataset body None whole) refl (omega arith)) (KeepsBelow-new 1)
built_numbered body (Some old) true no_errors stood =
    with_body-numbered body (Some old) (reset_dataset old) (resources-no_errors body (Some old) no_errors)
    (numbered-none (reset_dataset old) refl stood.next) (KeepsBelow-old old stood)
built_numbered body (Some old) false no_errors stood =
    with_body-numbered body (Some old) old (resources-no_errors body (Some old) no_errors) stood
    (KeepsBelow-old old stood)

-- ---- no number is used again

-- The number is one of an old resource, or the old next number or above.
abbrev pub IsKnownOrNew : Package → ℕ → Type 0
IsKnownOrNew old number = (old.next_resource ≤ number) ⊎ Any (λ s. s.number ≡ number) old.resources

resources-known : (old : Package) → All (λ r. Any (λ s. s.number ≡ r.number) old.resources) old.resources
resources-known old = λ k d lt. by (All-contains_itself old.resources k d lt)
  where
    by : {r : Resource} → Contains old.resources r → Any (λ s. s.number ≡ r.number) old.resources
    by {r} c = (c.0, r, c.1, c.2, refl)

numbered-known : (old : Package) (next : ℕ) (items : List Json) → old.next_resource ≤ next
    → All (λ r. IsKnownOrNew old r.number) (numbered (Some old) next items)
numbered-known old next [] le = All-nil (λ (r : Resource). IsKnownOrNew old r.number)
numbered-known old next (item ∷ items) le =
    let further = next_after_item-le (Some old) next item in
    All-cons (λ (r : Resource). IsKnownOrNew old r.number) _ _ (here (number_for-cases (Some old) next item))
    (numbered-known old (next_after_item (Some old) next item) items (omega (arith, le, further)))
  where
    here : Keeps (Some old) next item ⊎ TakesNext (Some old) next item
        → IsKnownOrNew old (number_for (Some old) next item)
    here (inl kept) =
        let id = kept-id old item kept.0 kept.1.0 in
        let known =
        found-number (λ n. Any (λ (s : Resource). s.number ≡ n) old.resources)
        (λ r. bytes_eq (resource_address old.id r.number) id.0) old.resources (resources-known old) kept.0 id.1.1 in
        let P : ℕ → Type 0 = λ n. IsKnownOrNew old n in
        subst P (sym kept.1.1.0) (inr known)
    here (inr new) = inl (omega (arith, le, new.0))

with_body-known : (old : Package) (kept : List Resource) (body : Json) → All (λ r. IsKnownOrNew old r.number) kept
    → All (λ r. IsKnownOrNew old r.number) (resources_or kept (Some old) old.next_resource body)
with_body-known old kept body known = by (resources_given body)
  where
    by : (given : Option (List Json))
        → All (λ r. IsKnownOrNew old r.number)
        (unwrap_or (option_map (numbered (Some old) old.next_resource) given) kept)
    by None = known
    by (Some items) = numbered-known old old.next_resource items (omega arith)

-- A number below the old next number is one of an old resource.
pub built_known : (body : Json) (old : Package) (whole : Bool)
    → All (λ r. IsKnownOrNew old r.number) (built_dataset body (Some old) whole).resources
built_known body old true = with_body-known old [] body (All-nil (λ (r : Resource). IsKnownOrNew old r.number))
built_known body old false = with_body-known old old.resources body (λ k d lt. inr (resources-known old k d lt))

with_body-next : (old : Package) (body : Json) → old.next_resource ≤ next_or (Some old) old.next_resource body
with_body-next old body = by (resources_given body)
  where
    by : (given : Option (List Json))
        → old.next_resource
        ≤ unwrap_or (option_map (next_after_items (Some old) old.next_resource) given) old.next_resource
    by None = omega arith
    by (Some items) = next_after_items-le (Some old) old.next_resource items

-- The next number never falls.
pub built_next : (body : Json) (old : Package) (whole : Bool)
    → old.next_resource ≤ (built_dataset body (Some old) whole).next_resource
built_next body old true = with_body-next old body
built_next body old false = with_body-next old body
