-- The count of public datasets.
use Rattle.std.proofs.Common.{◌≡◌, ◌≢◌, ◌∙◌, ℕ, Bool, true, false, not, ◌&&◌, ◌||◌, cond, List, [], ◌∷◌, refl, ap, ap₂}
use Rattle.std.proofs.Common.{length}
use Rattle.std.specs.Prelude.{filter}
use Rattle.std.specs.Str.{bytes_eq}
use Rattle.packages.specs.declared.package.Package.{Package}
use Rattle.packages.specs.declared.package.State.{State}
use Rattle.packages.specs.declared.package.State.TheVariants.{Draft, Active, Deleted}
use Rattle.visibility.specs.View.{public_count}
use Rattle.visibility.specs.Visibility.{class_for, class_of_active, class_of_state, is_active, is_public}
use Rattle.visibility.specs.declared.class.Class.TheVariants.{Public}
use Rattle.facets.specs.Counts.{has_text}
use Rattle.facets.specs.Facets.{count_of, texts_in}
use Rattle.facets.specs.Facts.{same_class}
use Rattle.facets.specs.declared.field.FacetField.TheVariants.{Organization}

active_class : (private : Bool) (org : List ℕ) → same_class (class_of_active private org) Public ≡ not private
active_class true org = refl
active_class false org = refl

-- A dataset is public exactly if its class is.
pub public_class : (d : Package) → same_class (class_for d) Public ≡ is_public d
public_class d = by d.state
  where
    by : (state : State) → same_class (class_of_state state d) Public ≡ (is_active state && not d.private)
    by Draft = refl
    by Active = active_class d.private d.owner_org
    by Deleted = refl

or_false : (b : Bool) → (b || false) ≡ b
or_false true = refl
or_false false = refl

owned : (org : List ℕ) → org ≢ [] → (d : Package) → has_text (texts_in Organization) org d ≡ bytes_eq d.owner_org org
owned [] some d = absurd (some refl)
owned (byte ∷ bytes) some d = or_false (bytes_eq d.owner_org (byte ∷ bytes))

-- Of the items that pass one test those are counted that pass another.
counted_both : {X : Type 0} (p q r s : X → Bool) → ((x : X) → p x ≡ r x) → ((x : X) → q x ≡ s x) → (xs : List X)
    → length (filter p (filter q xs)) ≡ length (filter (λ x. r x && s x) xs)
counted_both p q r s same also [] = refl
counted_both {X} p q r s same also (x ∷ xs) =
    by (p x) (q x) refl (counted_both p q r s same also xs)
    ∙ ap₂ (λ a b. length (cond (a && b) (x ∷ passing) passing)) (same x) (also x)
  where
    passing : List X
    passing = filter (λ x. r x && s x) xs

    longer : (ys zs : List X) → length ys ≡ length zs → length (x ∷ ys) ≡ length (x ∷ zs)
    longer ys zs e = cc

    by : (a b : Bool) → p x ≡ a → length (filter p (filter q xs)) ≡ length passing
        → length (filter p (cond b (x ∷ filter q xs) (filter q xs))) ≡ length (cond (a && b) (x ∷ passing) passing)
    by true true is more =
        ap (λ t. length (cond t (x ∷ filter p (filter q xs)) (filter p (filter q xs)))) is
        ∙ longer (filter p (filter q xs)) passing more
    by false true is more =
        ap (λ t. length (cond t (x ∷ filter p (filter q xs)) (filter p (filter q xs)))) is ∙ more
    by true false is more = more
    by false false is more = more

-- The public datasets of an organization are those of the public class that have its name as a value.
pub public_counted : (org : List ℕ) → org ≢ [] → (ds : List Package)
    → count_of Organization org (filter (λ d. same_class (class_for d) Public) ds) ≡ public_count org ds
public_counted org some ds =
    counted_both (has_text (texts_in Organization) org) (λ d. same_class (class_for d) Public)
    (λ d. bytes_eq d.owner_org org) is_public (owned org some) public_class ds
