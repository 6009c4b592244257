-- Items, entries and tables that were read in part.
use Rattle.std.proofs.Common.{◌≡◌, ℕ, ◌+◌, ◌<◌, ◌≤◌, length, get_or, drop, List, [], ◌∷◌, ◌++◌}
use Rattle.std.proofs.Common.{Option, Some, None, refl, sym, ap}
use Rattle.std.proofs.Common.{ap₂, ◌∙◌, option_map, String, Global, string_bytes}
use Rattle.std.specs.Prelude.{option_and_then}
use Rattle.std.proofs.lemmas.List.{append-nil, append_assoc, drop_all}
use Rattle.portal_file.specs.declared.entries.NamedRole.{NamedRole}
use Rattle.portal_file.specs.Tables.{read_items, joined_users, no_users, joined_orgs, no_orgs, roles_of, named_role}
use Rattle.toml.specs.Data.{Data, item, as_str}
use Rattle.toml.specs.View.{view, items_view, members_view}
use Rattle.toml.specs.declared.value.Value.{Value}
use Rattle.toml.proofs.Views.{items_view-drop}

-- Joining that has nothing to join with, and doesn't mind where it begins.
pub record Joins {A : Type 0} (join : A → A → A) (nothing : A) : Type 0 where
  pub left : (a : A) → join nothing a ≡ a
  pub right : (a : A) → join a nothing ≡ a
  pub regroup : (a b c : A) → join a (join b c) ≡ join (join a b) c

pub Joins-users : Joins joined_users no_users
Joins-users = record {
  left = λ a. refl;
  right = λ a. ap₂ (λ x y. record { users = x; tokens = y }) (append-nil a.users) (append-nil a.tokens);
  regroup = λ a b c. ap₂ (λ x y. record { users = x; tokens = y }) (sym (append_assoc a.users b.users c.users))
      (sym (append_assoc a.tokens b.tokens c.tokens));
}

pub Joins-orgs : Joins joined_orgs no_orgs
Joins-orgs = record {
  left = λ a. refl;
  right = λ a. ap₂ (λ x y. record { orgs = x; roles = y }) (append-nil a.orgs) (append-nil a.roles);
  regroup = λ a b c. ap₂ (λ x y. record { orgs = x; roles = y }) (sym (append_assoc a.orgs b.orgs c.orgs))
      (sym (append_assoc a.roles b.roles c.roles));
}

module _ {A : Type 0} (join : A → A → A) (nothing : A) (read : Data → Option A) (laws : Joins join nothing) where
  -- what was read so far, joined with the reading of the remaining items
  abbrev pub so_far : A → List Value → Option A
  so_far front values = option_map (join front) (read_items join nothing read (items_view values))

  from_nothing : (more : Option A) → option_map (join nothing) more ≡ more
  from_nothing None = refl
  from_nothing (Some a) = ap Some (laws.left a)

  pub items-begin : (values : List Value) → so_far nothing values ≡ read_items join nothing read (items_view values)
  items-begin values = from_nothing _

  regrouped : (a b : A) (more : Option A) → option_map (join (join a b)) more
      ≡ option_map (join a) (option_map (join b) more)
  regrouped a b None = refl
  regrouped a b (Some c) = ap Some (sym (laws.regroup a b c))

  said : (front : A) (vs : List Value) (i : ℕ) (v : Value) → i < length vs → get_or vs i v ≡ v
      → so_far front (drop i vs) ≡ option_map (join front) (option_and_then
      (λ first. option_map (join first) (read_items join nothing read (items_view (drop (i + 1) vs)))) (read (view v)))
  said front vs i v within here =
      ap (λ ds. option_map (join front) (read_items join nothing read ds))
      (items_view-drop vs i v within ∙ ap (λ w. item (view w) (items_view (drop (i + 1) vs))) here)

  pub items-turn : (front : A) (vs : List Value) (i : ℕ) (v : Value) (first : A) → i < length vs → get_or vs i v ≡ v
      → read (view v) ≡ Some first → so_far (join front first) (drop (i + 1) vs) ≡ so_far front (drop i vs)
  items-turn front vs i v first within here e =
      let more = read_items join nothing read (items_view (drop (i + 1) vs)) in
      regrouped front first more
      ∙ sym (said front vs i v within here ∙ ap (λ o. option_map (join front) (option_and_then
      (λ first. option_map (join first) more) o)) e)

  pub items-stop : (front : A) (vs : List Value) (i : ℕ) (v : Value) → i < length vs → get_or vs i v ≡ v
      → read (view v) ≡ None → so_far front (drop i vs) ≡ None
  items-stop front vs i v within here e =
      let more = read_items join nothing read (items_view (drop (i + 1) vs)) in
      said front vs i v within here ∙ ap (λ o. option_map (join front) (option_and_then
      (λ first. option_map (join first) more) o)) e

  pub items-end : (front : A) (vs : List Value) (i : ℕ) → length vs ≤ i → so_far front (drop i vs) ≡ Some front
  items-end front vs i past = ap (λ l. so_far front l) (drop_all i vs past) ∙ ap Some (laws.right front)

-- One more entry of a table of roles.
pub roles-turn : (org : List ℕ) (front : List NamedRole) (k : String Global) (v : Value)
    (es : List (String Global × Value)) (role : List ℕ) → as_str (view v) ≡ Some role
    → option_map (λ more. (front ++ named_role org (string_bytes k) role ∷ []) ++ more) (roles_of org (members_view es))
    ≡ option_map (λ more. front ++ more) (roles_of org (members_view ((k, v) ∷ es)))
roles-turn org front k v es role e = rw e (step (roles_of org (members_view es)))
  where
    step : (m : Option (List NamedRole))
        → option_map (λ more. (front ++ named_role org (string_bytes k) role ∷ []) ++ more) m
        ≡ option_map (λ more. front ++ more) (option_map (λ others. named_role org (string_bytes k) role ∷ others) m)
    step None = refl
    step (Some xs) = ap Some (append_assoc front (named_role org (string_bytes k) role ∷ []) xs)
