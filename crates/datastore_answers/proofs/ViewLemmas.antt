-- Answers on all tables are those on the tables that the caller sees.
use Rattle.std.proofs.Common.{◌≡◌, ℕ, Bool, true, false, ◌||◌, cond, List, [], ◌∷◌, Option, Some, None, Result, Ok}
use Rattle.std.proofs.Common.{Err, refl, sym, ap, ◌∙◌, subst, inl, inr}
use Rattle.std.specs.Prelude.{filter, find, option_map, slice_get}
use Rattle.std.specs.List.{list_any}
use Rattle.std.specs.Str.{bytes_eq}
use Rattle.std.proofs.lemmas.Option.{option_and_then_some, same_Some}
use Rattle.portal_base.proofs.Unique.{IsIn}
use Rattle.packages.specs.Named.{Located, has_address, position_of, located_at, resource_in, resource_named}
use Rattle.packages.specs.declared.package.Package.{Package}
use Rattle.packages.specs.declared.package.Resource.{Resource}
use Rattle.packages.proofs.FindLemmas.{IsIn-find}
use Rattle.portal_calls.specs.declared.answer.Answer.{Answer}
use Rattle.portal_calls.specs.declared.answer.Denial.{Denial}
use Rattle.portal_calls.specs.declared.answer.Kind.TheVariants as kind
use Rattle.portal_calls.proofs.Answering.{thing_at-ok}
use Rattle.visibility.specs.CallView.{CallView}
use Rattle.datastore_answers.specs.TableAnswers.{answer_for_table, answer_for_resource, or_refused}
use Rattle.visibility.specs.Lookup.{resource_at}
use Rattle.datastore_answers.specs.TableAnswers.{tables_beside}
use Rattle.datastore_answers.specs.Tables.{is_table_among, tables_seen}
use Rattle.datastore_answers.specs.declared.answer.TableAnswer.{TableAnswer}
use Rattle.datastore_answers.specs.declared.resource_table.ResourceTable.{ResourceTable}

-- ---- the caller sees the resource's dataset

located_at-dataset : (dataset : Package) (index : ℕ) (placed : Located) → located_at dataset index ≡ Some placed
    → placed.dataset ≡ dataset
located_at-dataset dataset index placed is = by (slice_get dataset.resources index) is
  where
    by : (found : Option Resource)
        → option_map (λ resource. record { dataset = dataset; position = index; resource = resource }) found ≡ Some placed
        → placed.dataset ≡ dataset
    by None same = absurd (cc)
    by (Some resource) same = ap (λ (p : Located). p.dataset) (sym (same_Some _ placed same))

named-dataset : (datasets : List Package) (address : List ℕ) (placed : Located)
    → resource_named datasets address ≡ Some placed → IsIn placed.dataset datasets
named-dataset datasets address placed is =
    option_and_then_some (resource_in address) (find (has_address address) datasets) placed is
    (λ dataset found within. option_and_then_some (located_at dataset) (position_of address dataset) placed within
    (λ index at there. subst (λ d. IsIn d datasets) (sym (located_at-dataset dataset index placed there))
    (IsIn-find (has_address address) dataset datasets found).0))

pub resource-seen : (key : List ℕ) (view : CallView) (placed : Located) → resource_at key view ≡ Ok placed
    → IsIn placed.dataset view.datasets
resource-seen key view placed is =
    let named = thing_at-ok key view.call.request.body kind.Resource (resource_named view.datasets) placed is in
    named-dataset view.datasets named.name placed named.looked

-- the resource is at its position in its dataset
located_at-named : (dataset : Package) (index : ℕ) (placed : Located) → located_at dataset index ≡ Some placed
    → slice_get placed.dataset.resources placed.position ≡ Some placed.resource
located_at-named dataset index placed is = by (slice_get dataset.resources index) refl is
  where
    by : (found : Option Resource) → slice_get dataset.resources index ≡ found
        → option_map (λ resource. record { dataset = dataset; position = index; resource = resource }) found ≡ Some placed
        → slice_get placed.dataset.resources placed.position ≡ Some placed.resource
    by None there same = absurd (cc)
    by (Some resource) there same =
        subst (λ (p : Located). slice_get p.dataset.resources p.position ≡ Some p.resource) (same_Some _ placed same) there

pub resource-named : (key : List ℕ) (view : CallView) (placed : Located) → resource_at key view ≡ Ok placed
    → slice_get placed.dataset.resources placed.position ≡ Some placed.resource
resource-named key view placed is =
    let named = thing_at-ok key view.call.request.body kind.Resource (resource_named view.datasets) placed is in
    option_and_then_some (resource_in named.name) (find (has_address named.name) view.datasets) placed named.looked
    (λ dataset found within. option_and_then_some (located_at dataset) (position_of named.name dataset) placed within
    (λ index at there. located_at-named dataset index placed there))

-- ---- the caller sees the dataset's tables

-- An item passes the test just if one of those that are kept does.
any-among : (p : Package → Bool) (dataset : Package) (datasets : List Package) → IsIn dataset datasets
    → p dataset ≡ true → list_any p datasets ≡ true
any-among p dataset [] among holds = absurd among
any-among p dataset (d ∷ ds) (inl same) holds = ap (λ b. b || list_any p ds) (sym (ap p same) ∙ holds)
any-among p dataset (d ∷ ds) (inr among) holds =
    ap (λ b. p d || b) (any-among p dataset ds among holds) ∙ or_true (p d)
  where
    or_true : (b : Bool) → (b || true) ≡ true
    or_true true = refl
    or_true false = refl

beside-kept : (q p : ResourceTable → Bool) (ts : List ResourceTable)
    → ((t : ResourceTable) → q t ≡ true → p t ≡ true) → filter q (filter p ts) ≡ filter q ts
beside-kept q p [] kept = refl
beside-kept q p (t ∷ ts) kept = by (p t) (q t) refl refl (beside-kept q p ts kept)
  where
    by : (a b : Bool) → p t ≡ a → q t ≡ b → filter q (filter p ts) ≡ filter q ts
        → filter q (cond a (t ∷ filter p ts) (filter p ts)) ≡ cond b (t ∷ filter q ts) (filter q ts)
    by true true is own rest = ap (λ c. cond c (t ∷ filter q (filter p ts)) (filter q (filter p ts))) own
        ∙ ap (λ l. t ∷ l) rest
    by true false is own rest = ap (λ c. cond c (t ∷ filter q (filter p ts)) (filter q (filter p ts))) own ∙ rest
    by false true is own rest = let here : p t ≡ true = kept t own in absurd (cc)
    by false false is own rest = rest

pub beside-seen : (placed : Located) (datasets : List Package) (tables : List ResourceTable)
    → IsIn placed.dataset datasets
    → tables_beside placed (tables_seen datasets tables) ≡ tables_beside placed tables
beside-seen placed datasets tables among =
    beside-kept (λ t. bytes_eq t.address.dataset placed.dataset.id) (is_table_among datasets) tables
    (λ t own. any-among (λ d. bytes_eq t.address.dataset d.id) placed.dataset datasets among own)

-- An answer on the tables of the resource's dataset is the same on all tables and on those that the caller sees.
pub beside-answer : {C : Type 0} (key : List ℕ) (view : CallView) (tables : List ResourceTable)
    (answer : Located → List ResourceTable → TableAnswer C)
    → or_refused (resource_at key view)
    (λ placed. answer placed (tables_beside placed (tables_seen view.datasets tables)))
    ≡ or_refused (resource_at key view) (λ placed. answer placed (tables_beside placed tables))
beside-answer {C} key view tables answer = by (resource_at key view) refl
  where
    by : (found : Result Located Denial) → resource_at key view ≡ found
        → or_refused found (λ placed. answer placed (tables_beside placed (tables_seen view.datasets tables)))
        ≡ or_refused found (λ placed. answer placed (tables_beside placed tables))
    by (Ok placed) is =
        ap (answer placed) (beside-seen placed view.datasets tables (resource-seen key view placed is))
    by (Err denial) is = refl

pub answer-seen : {C : Type 0} (key : List ℕ) (view : CallView) (tables : List ResourceTable)
    (answer : Located → List ResourceTable → ResourceTable → Answer C)
    → answer_for_resource key view (tables_seen view.datasets tables) answer
    ≡ answer_for_resource key view tables answer
answer-seen key view tables answer = beside-answer key view tables (answer_for_table answer)
