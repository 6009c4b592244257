-- The counters of consistent parts give the counts of public datasets that each caller sees.
use Rattle.std.proofs.Common.{◌≡◌, ◌≢◌, ◌∙◌, ℕ, suc, Bool, true, false, ◌&&◌, cond, List, [], ◌∷◌, Some, refl, sym}
use Rattle.std.proofs.Common.{arith, length, subst}
use Rattle.std.specs.Prelude.{filter, find, is_some}
use Rattle.std.specs.List.{All}
use Rattle.std.specs.Str.{bytes_eq}
use Rattle.std.proofs.lemmas.Slice.Eq.{bytes_eq-Decides}
use Rattle.portal_base.proofs.Upserted.{All-each}
use Rattle.portal_base.specs.declared.caller.Caller.{Caller}
use Rattle.org_roles.specs.PeopleLists.{PeopleLists, org_in}
use Rattle.org_roles.specs.declared.entry.Org.{Org}
use Rattle.packages.specs.declared.package.Package.{Package}
use Rattle.visibility.specs.View.{datasets_seen, public_count}
use Rattle.visibility.specs.Visibility.{is_public}
use Rattle.visibility.specs.declared.class.Class.TheVariants.{Public}
use Rattle.visibility.proofs.PublicLemmas.{public_count_seen}
use Rattle.dataset_answers.specs.Sound.{OrgExists}
use Rattle.facets.specs.Counters as counters
use Rattle.facets.specs.Counters.{CountersState, class_count}
use Rattle.facets.specs.Counts.{has_text}
use Rattle.facets.specs.Facts.{texts_at}
use Rattle.facets.specs.declared.field.FacetField.TheVariants.{Organization}
use Rattle.organization_answers.specs.Dictionary.{AreCountsOf}
use Rattle.portal_state.specs.State.{State}
use Rattle.portal_state.specs.Valid.{IsValid}
use Rattle.portal_state.proofs.Harvested.{sound-org}

-- what the counters of datasets give for a name that isn't empty
abbrev pub CountsPublic : Type 0
CountsPublic =
    (c : CountersState) (datasets : List Package) (org : List ℕ) → counters.StandsFor c datasets → org ≢ []
    → class_count Public Organization org c ≡ public_count org datasets

tail : {X : Type 0} (P : X → Type 0) (x : X) (xs : List X) → All P (x ∷ xs) → All P xs
tail P x xs all = λ k d lt. all (suc k) d (omega (lt, arith))

-- No organization without a name exists.
nameless : (orgs : List Org) → All (λ o. o.name ≢ []) orgs → is_some (find (λ o. bytes_eq o.name []) orgs) ≡ false
nameless [] all = refl
nameless (o ∷ os) all = by (bytes_eq o.name []) refl (nameless os (tail (λ o. o.name ≢ []) o os all))
  where
    by : (b : Bool) → bytes_eq o.name [] ≡ b → is_some (find (λ o. bytes_eq o.name []) os) ≡ false
        → is_some (cond b (Some o) (find (λ o. bytes_eq o.name []) os)) ≡ false
    by true is rest = absurd (all 0 o (omega arith) ((bytes_eq-Decides o.name []).0 is))
    by false is rest = rest

-- So it has no dataset, where the organizations of all datasets exist.
unowned : (people : PeopleLists) → All (λ o. o.name ≢ []) people.orgs → (datasets : List Package)
    → All (λ d. OrgExists people d.owner_org) datasets → public_count [] datasets ≡ 0
unowned people named [] owned = refl
unowned people named (d ∷ ds) owned =
    by (bytes_eq d.owner_org []) refl
    (unowned people named ds (tail (λ (e : Package). OrgExists people e.owner_org) d ds owned))
  where
    by : (b : Bool) → bytes_eq d.owner_org [] ≡ b → public_count [] ds ≡ 0
        → length (cond (b && is_public d) (d ∷ filter (λ (e : Package). bytes_eq e.owner_org [] && is_public e) ds)
        (filter (λ (e : Package). bytes_eq e.owner_org [] && is_public e) ds)) ≡ 0
    by true is rest =
        let exists : is_some (org_in people []) ≡ true =
        subst (λ (org : List ℕ). is_some (org_in people org) ≡ true) ((bytes_eq-Decides d.owner_org []).0 is)
        (owned 0 d (omega arith)) in
        absurd (cc (exists, nameless people.orgs named))
    by false is rest = rest

-- No dataset has the empty value.
no_value : {X : Type 0} (texts : X → List (List ℕ)) (xs : List X) → length (filter (has_text texts []) xs) ≡ 0
no_value texts [] = refl
no_value texts (x ∷ xs) = no_value texts xs

pub counts_seen : CountsPublic → (c : CountersState) (caller : Caller) (state : State) → IsValid state
    → counters.StandsFor c state.datasets
    → AreCountsOf (datasets_seen caller state.people state.datasets) (λ org. class_count Public Organization org c)
counts_seen law c caller state valid stands = by
  where
    owned : All (λ d. OrgExists state.people d.owner_org) state.datasets
    owned =
        All-each (λ (d : Package). OrgExists state.people d.owner_org) state.datasets
        (λ d within. sound-org state d valid within)

    by : (org : List ℕ) → class_count Public Organization org c
        ≡ public_count org (datasets_seen caller state.people state.datasets)
    by [] =
        no_value (texts_at Organization) (counters.facts_in_class Public c)
        ∙ sym (unowned state.people valid.orgs state.datasets owned)
        ∙ sym (public_count_seen caller state.people [] state.datasets)
    by (b ∷ bs) =
        law c state.datasets (b ∷ bs) stands (λ is. absurd (cc))
        ∙ sym (public_count_seen caller state.people (b ∷ bs) state.datasets)
