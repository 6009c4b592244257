-- Sets of classes to which a class is added.
use Rattle.std.proofs.Common.{◌≡◌, ◌∙◌, ℕ, Bool, true, false, ◌||◌, cond, List, Bor, refl, sym, ap}
use Rattle.std.specs.BTreeSet.{BTreeSet, contains_by}
use Rattle.std.specs.Cmp.Lexicographic.{slice_cmp}
use Rattle.std.specs.Str.{bytes_eq}
use Rattle.std.specs.Ordering.{is_eq, nat_cmp}
use Rattle.std.proofs.lemmas.Map.Text.{is_eq-slice_cmp}
use Rattle.std.proofs.lemmas.Slice.Eq.{bytes_eq-Decides}
use Rattle.visibility.specs.declared.class.Class.{Class}
use Rattle.visibility.specs.declared.class.Class.TheVariants.{Editing, Inside, Public}
use Rattle.facets.specs.ClassSet.{has_class}
use Rattle.facets.specs.Facts.{same_class}
use Rattle.facets.specs.declared.class_set.ClassSet.{ClassSet}
use Rattle.facets.proofs.SetLemmas.{alike}

-- whether the set has the name
abbrev pub has_name : List ℕ → BTreeSet (Bor (List ℕ)) → Bool
has_name org names = contains_by (λ name. slice_cmp nat_cmp org name.now) names

or_false : (b : Bool) → b ≡ (b || false)
or_false true = refl
or_false false = refl

bytes_eq-sym : (x y : List ℕ) → bytes_eq x y ≡ bytes_eq y x
bytes_eq-sym x y = alike (bytes_eq x y) (bytes_eq y x) (turned x y) (turned y x)
  where
    turned : (a b : List ℕ) → bytes_eq a b ≡ true → bytes_eq b a ≡ true
    turned a b e = (bytes_eq-Decides b a).1 (sym ((bytes_eq-Decides a b).0 e))

-- The set has one name more.
name_added : (org other : List ℕ) (old new : Bool) → new ≡ cond (is_eq (slice_cmp nat_cmp org other)) true old
    → new ≡ (old || bytes_eq other org)
name_added org other old new is =
    is ∙ ap (λ b. cond b true old) (is_eq-slice_cmp org other ∙ bytes_eq-sym org other) ∙ by old (bytes_eq other org)
  where
    by : (a b : Bool) → cond b true a ≡ (a || b)
    by true true = refl
    by true false = refl
    by false true = refl
    by false false = refl

pub inside_added : (set : ClassSet) (names : BTreeSet (Bor (List ℕ))) (org : List ℕ)
    → ((other : List ℕ) → has_name other names ≡ cond (is_eq (slice_cmp nat_cmp org other)) true (has_name other set.inside))
    → (other : Class) → has_class (record set { inside = names }) other ≡ (has_class set other || same_class other (Inside org))
inside_added set names org added Public = or_false set.has_public
inside_added set names org added (Inside other) =
    name_added org other (has_name other set.inside) (has_name other names) (added other)
inside_added set names org added (Editing other) = or_false (has_name other set.editing)

pub editing_added : (set : ClassSet) (names : BTreeSet (Bor (List ℕ))) (org : List ℕ)
    → ((other : List ℕ) → has_name other names ≡ cond (is_eq (slice_cmp nat_cmp org other)) true (has_name other set.editing))
    → (other : Class) → has_class (record set { editing = names }) other ≡ (has_class set other || same_class other (Editing org))
editing_added set names org added Public = or_false set.has_public
editing_added set names org added (Inside other) = or_false (has_name other set.inside)
editing_added set names org added (Editing other) =
    name_added org other (has_name other set.editing) (has_name other names) (added other)
