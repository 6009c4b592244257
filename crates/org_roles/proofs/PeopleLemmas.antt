-- When two entries compare as equal, and which lists are in order.
use Rattle.std.proofs.Common.{◌≡◌, ◌≢◌, ℕ, Bool, true, false, ◌&&◌, not, List, [], ◌∷◌, refl, sym}
use Rattle.std.proofs.Common.{ap, ◌∙◌, ◌⊎◌, inl, inr, subst}
use Rattle.std.specs.declared.cmp.Ordering.{Ordering}
use Rattle.std.specs.declared.cmp.Ordering.TheVariants.{Less, Equal, Greater}
use Rattle.std.specs.Ordering.{nat_cmp, is_eq, ordering_then}
use Rattle.std.specs.Cmp.Lexicographic.{slice_cmp}
use Rattle.std.specs.List.{list_any}
use Rattle.std.specs.Str.{bytes_eq}
use Rattle.std.proofs.lemmas.Map.Text.{is_eq-slice_cmp}
use Rattle.std.proofs.lemmas.Slice.Eq.{bytes_eq-Decides}
use Rattle.org_roles.specs.declared.entry.User.{User}
use Rattle.org_roles.specs.declared.entry.Org.{Org}
use Rattle.org_roles.specs.declared.entry.Membership.{Membership}
use Rattle.portal_base.specs.Ordered.{IsAscending, ascending, are_apart}
use Rattle.org_roles.specs.Distinct.{have_distinct_names, have_distinct_org_names, have_distinct_pairs}
pub use Rattle.org_roles.specs.Order.{user_cmp_total, org_cmp_total, membership_cmp_total}
use Rattle.org_roles.specs.Order.{user_cmp, org_cmp, membership_cmp}
use Rattle.org_roles.specs.PeopleLists.{AreSorted}
use Rattle.portal_base.proofs.Removed.{AreApart-are_apart}
use Rattle.portal_base.proofs.Inserted.{list_any-same, IsAscending-ascending}

is_eq-ordering_then : (r s : Ordering) → is_eq (ordering_then r s) ≡ (is_eq r && is_eq s)
is_eq-ordering_then Less s = refl
is_eq-ordering_then Equal s = refl
is_eq-ordering_then Greater s = refl

-- Memberships compare as equal if both names are equal.
pub is_eq-membership_cmp : (m n : Membership)
    → is_eq (membership_cmp m n) ≡ (bytes_eq m.org n.org && bytes_eq m.user n.user)
is_eq-membership_cmp m n =
    is_eq-ordering_then (slice_cmp nat_cmp m.org n.org) (slice_cmp nat_cmp m.user n.user)
    ∙ ap (λ b. b && is_eq (slice_cmp nat_cmp m.user n.user)) (is_eq-slice_cmp m.org n.org)
    ∙ ap (λ b. bytes_eq m.org n.org && b) (is_eq-slice_cmp m.user n.user)

-- If a test of two items says whether they compare as equal, a test of lists by it says whether any two do.
are_apart-distinct : {X : Type 0} (cmp : X → X → Ordering) (alike : X → X → Bool) (distinct : List X → Bool)
    → ((x y : X) → is_eq (cmp y x) ≡ alike y x) → distinct [] ≡ true
    → ((x : X) (xs : List X) → distinct (x ∷ xs) ≡ (not (list_any (λ y. alike y x) xs) && distinct xs))
    → (xs : List X) → are_apart cmp xs ≡ distinct xs
are_apart-distinct cmp alike distinct same none step [] = sym none
are_apart-distinct {X} cmp alike distinct same none step (x ∷ xs) =
    ap (λ b. not b && are_apart cmp xs) (list_any-same _ _ (same x) xs)
    ∙ ap (λ b. not (list_any (λ y. alike y x) xs) && b) (are_apart-distinct cmp alike distinct same none step xs)
    ∙ sym (step x xs)

-- Users are apart if no name repeats.
pub are_apart-users : (us : List User) → are_apart user_cmp us ≡ have_distinct_names us
are_apart-users =
    are_apart-distinct user_cmp (λ v u. bytes_eq v.name u.name) have_distinct_names
    (λ u v. is_eq-slice_cmp v.name u.name) refl (λ u us. refl)

-- Organizations are apart if no name repeats.
pub are_apart-orgs : (os : List Org) → are_apart org_cmp os ≡ have_distinct_org_names os
are_apart-orgs =
    are_apart-distinct org_cmp (λ p o. bytes_eq p.name o.name) have_distinct_org_names
    (λ o p. is_eq-slice_cmp p.name o.name) refl (λ o os. refl)

-- Memberships are apart if no pair of organization and user repeats.
pub are_apart-roles : (ms : List Membership) → are_apart membership_cmp ms ≡ have_distinct_pairs ms
are_apart-roles =
    are_apart-distinct membership_cmp (λ n m. bytes_eq n.org m.org && bytes_eq n.user m.user) have_distinct_pairs
    (λ m n. is_eq-membership_cmp n m) refl (λ m ms. refl)

-- a name equals itself
pub equal : (a : List ℕ) → bytes_eq a a ≡ true
equal a = (bytes_eq-Decides a a).1 refl

-- Different names aren't equal.
pub unequal : (a b : List ℕ) → a ≢ b → bytes_eq a b ≡ false
unequal a b n =
    let P : Bool → Type 0 = λ t. bytes_eq a b ≡ t → t ≡ false in
    (elim (bytes_eq a b) as P [ true ↦ λ e. absurd (n ((bytes_eq-Decides a b).0 e)) | false ↦ λ e. refl ]) refl

-- two names, not both those of the membership
pub differ : (a b c d : List ℕ) → (a ≢ c) ⊎ (b ≢ d) → (bytes_eq c a && bytes_eq d b) ≡ false
differ a b c d (inl n) = ap (λ t. t && bytes_eq d b) (unequal c a (λ e. n (sym e)))
differ a b c d (inr n) = ap (λ t. bytes_eq c a && t) (unequal d b (λ e. n (sym e))) ∙ and_false (bytes_eq c a)
  where
    and_false : (t : Bool) → (t && false) ≡ false
    and_false true = refl
    and_false false = refl

-- Lists without repeats strictly ascend once they are sorted.
pub AreSorted-ascending : (us us' : List User) (os os' : List Org) (ms ms' : List Membership)
    → have_distinct_names us ≡ true → have_distinct_org_names os ≡ true → have_distinct_pairs ms ≡ true
    → us' ≡ ascending user_cmp us → os' ≡ ascending org_cmp os → ms' ≡ ascending membership_cmp ms
    → AreSorted (record { users = us'; orgs = os'; roles = ms' })
AreSorted-ascending us us' os os' ms ms' names org_names pairs eu eo em = record {
  users = subst (IsAscending user_cmp) (sym eu)
      (IsAscending-ascending user_cmp user_cmp_total us (AreApart-are_apart user_cmp us (are_apart-users us ∙ names)));
  orgs = subst (IsAscending org_cmp) (sym eo)
      (IsAscending-ascending org_cmp org_cmp_total os (AreApart-are_apart org_cmp os (are_apart-orgs os ∙ org_names)));
  roles = subst (IsAscending membership_cmp) (sym em)
      (IsAscending-ascending membership_cmp membership_cmp_total ms
      (AreApart-are_apart membership_cmp ms (are_apart-roles ms ∙ pairs)));
}
