-- What look-ups by name find in the lists of people, which are in order.
use Rattle.std.proofs.Common.{◌≡◌, ℕ, Bool, true, false, ◌&&◌, ◌||◌, cond, List, [], ◌∷◌, Option, Some, None, refl}
use Rattle.std.proofs.Common.{sym, ap, ◌∙◌}
use Rattle.std.specs.Prelude.{is_some, find}
use Rattle.std.specs.Ordering.{is_eq}
use Rattle.std.specs.List.{list_any}
use Rattle.std.specs.Str.{bytes_eq}
use Rattle.std.proofs.lemmas.Map.Text.{is_eq-slice_cmp}
use Rattle.portal_base.specs.Ordered.{IsAscending, found}
use Rattle.portal_base.proofs.Filtered.{find-same}
use Rattle.portal_base.proofs.Removed.{is_eq_true, none_above}
use Rattle.org_roles.specs.declared.entry.User.{User}
use Rattle.org_roles.specs.Order.{user_cmp, user_cmp_total, user_at, IsKey-user_at}
use Rattle.org_roles.specs.Distinct.{is_name_among}

is_some-find : {X : Type 0} (test : X → Bool) (xs : List X) → is_some (find test xs) ≡ list_any test xs
is_some-find test [] = refl
is_some-find test (x ∷ xs) = elim (test x) as
    (λ b. is_some (cond b (Some x) (find test xs)) ≡ (b || list_any test xs)) [
      | true ↦ refl
      | false ↦ is_some-find test xs
    ]

-- A user has the name exactly if one is found at it.
pub name_found : (us : List User) (name : List ℕ) → is_name_among us name ≡ is_some (found (user_at name) us)
name_found us name =
    sym (is_some-find (λ u. bytes_eq u.name name) us)
    ∙ ap is_some (find-same _ _ (λ u. sym (is_eq-slice_cmp u.name name)) us)

or_false : (b : Bool) → (b || false) ≡ b
or_false true = refl
or_false false = refl

-- whether the user is there, and is a sysadmin
abbrev pub is_sysadmin_found : Option User → Bool
is_sysadmin_found None = false
is_sysadmin_found (Some user) = user.sysadmin

-- A sysadmin has the name exactly if the user that is found at it is one.
pub sysadmin_found : (name : List ℕ) (us : List User) → IsAscending user_cmp us
    → list_any (λ u. bytes_eq u.name name && u.sysadmin) us ≡ is_sysadmin_found (found (user_at name) us)
sysadmin_found name [] up = refl
sysadmin_found name (u ∷ us) up = by (is_eq (user_at name u)) refl (sysadmin_found name us up.1)
  where
    by : (b : Bool) → is_eq (user_at name u) ≡ b
        → list_any (λ v. bytes_eq v.name name && v.sysadmin) us ≡ is_sysadmin_found (found (user_at name) us)
        → list_any (λ v. bytes_eq v.name name && v.sysadmin) (u ∷ us)
        ≡ is_sysadmin_found (cond b (Some u) (found (user_at name) us))
    by true here rest =
        let none : found (user_at name) us ≡ None =
        none_above user_cmp user_cmp_total (user_at name) (IsKey-user_at name) u us (is_eq_true _ here) up.0 in
        ap (λ b. (b && u.sysadmin) || list_any (λ v. bytes_eq v.name name && v.sysadmin) us)
        (sym (is_eq-slice_cmp u.name name) ∙ here)
        ∙ ap (λ b. u.sysadmin || b) (rest ∙ ap is_sysadmin_found none)
        ∙ or_false u.sysadmin
    by false other rest =
        ap (λ b. (b && u.sysadmin) || list_any (λ v. bytes_eq v.name name && v.sysadmin) us)
        (sym (is_eq-slice_cmp u.name name) ∙ other)
        ∙ rest
