use Rattle.std.proofs.Common.{◌≡◌, ◌∷◌, string_bytes, ap, ◌∙◌, option_map, ◌++◌, rules, subst, [], sym, List, String}
use Rattle.std.proofs.Common.{Global, string_cmp, Less}
use Rattle.std.specs.List.{AllByRecursion}
use Rattle.std.specs.List.Sorted.{IsStrictlySortedBy}
use Rattle.std.specs.Map.{keys_of}
use Rattle.serde_json.specs.View.{view, members_view}
use Rattle.portal_base.specs.Json.{entries_of, MembersAreOrderly}
use Rattle.portal_base.proofs.JsonSame.{precedes_keys}
use Rattle.portal_base.proofs.JsonTurns.{one_more_entry}
use Rattle.portal_base.proofs.json_value.read.+value_of.Goals as goal

rest_sorted : (k : String Global) (ks : List (String Global)) → IsStrictlySortedBy string_cmp (k ∷ ks)
    → IsStrictlySortedBy string_cmp ks
unfolding IsStrictlySortedBy
rest_sorted k ks h = h.1

first_below : (k : String Global) (ks : List (String Global)) → IsStrictlySortedBy string_cmp (k ∷ ks)
    → AllByRecursion (λ y. string_cmp k y ≡ Less) ks
unfolding IsStrictlySortedBy
first_below k ks h = h.0

pub map-loop-key-preserved : goal.map-loop-key-preserved
map-loop-key-preserved t c =
    let l = c.loop-key in
    let k = string_bytes c.in-Some.key.now in
    let left = c.next.new.self in
    let step : l.key-iterator ≡ (c.in-Some.key.now, c.in-Some.member.now) ∷ left = c.in-Some.ensures.steps in
    let named : c.in_ok-key.key ≡ k = search rules in
    let pushed : c.push.new.self.items ≡ l.entries.items ++ (c.in_ok-key.key, c.in_ok-value.value) ∷ [] =
    search rules in
    let sorted = subst (λ es. IsStrictlySortedBy string_cmp (keys_of es)) step l.invariant.0 in (
      rest_sorted c.in-Some.key.now (keys_of left) sorted,
      λ rest. l.invariant.1
          (subst (λ es. MembersAreOrderly (members_view es)) (sym step) (
            precedes_keys c.in-Some.key.now left (first_below c.in-Some.key.now (keys_of left) sorted),
            c.in_ok-value.ensures.orderly,
            rest,
          )),
      l.invariant.2 ∙ ap (λ es. option_map (λ r. l.entries.items ++ r) (entries_of (members_view es))) step
          ∙ one_more_entry l.entries.items k (view c.in-Some.member.now) c.in_ok-value.value (members_view left)
          c.in_ok-value.ensures.ok
          ∙ ap (λ n. option_map (λ r. (l.entries.items ++ (n, c.in_ok-value.value) ∷ []) ++ r)
          (entries_of (members_view left))) (sym named)
          ∙ ap (λ es. option_map (λ r. es ++ r) (entries_of (members_view left))) (sym pushed),
    )
