-- The lists of replies, item by item.
use Rattle.std.proofs.Common.{◌≡◌, ℕ, ◌+◌, ◌<◌, List, [], ◌∷◌, ◌++◌, Option, map, length, take, get_or, refl, ap, arith}
use Rattle.std.specs.List.{filter_map, cons_option}
use Rattle.std.proofs.lemmas.Grind.{common_steps}
use Rattle.std.proofs.lemmas.List.Elements.{filter_map-append}
use Rattle.portal_base.specs.declared.caller.Caller.{Caller}
use Rattle.portal_base.specs.declared.json_value.Json.{Json}
use Rattle.portal_base.specs.declared.json_value.Json as json
use Rattle.org_roles.specs.declared.entry.User.{User}
use Rattle.visibility.specs.View.{user_seen}

-- the names of all users are in the caller's view
pub user_names_seen : (caller : Caller) (users : List User)
    → map (λ (user : User). json.Text user.name) (map (user_seen caller) users)
    ≡ map (λ (user : User). json.Text user.name) users
user_names_seen caller [] = refl
user_names_seen caller (u ∷ us) = ap (λ l. json.Text u.name ∷ l) (user_names_seen caller us)

-- the result of one more item, if there is one, follows those of the items before
pub one_more : {X Y : Type 0} (h : X → Option Y) (xs : List X) (i : ℕ) (x : X) (made : List Y) (item : Option Y)
    → i < length xs → x ≡ get_or xs i x → made ≡ filter_map h (take i xs) → item ≡ h x
    → made ++ cons_option item [] ≡ filter_map h (take (i + 1) xs)
one_more h xs i x made item within is as_made as_given = grind (arith, common_steps, filter_map-append)
