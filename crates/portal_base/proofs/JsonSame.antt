-- Orderly data is the data of its value, and the entries of a `BTreeMap` are in order.
use Rattle.std.proofs.Common.{◌≡◌, ◌≤◌, pos, negsuc, List, [], ◌∷◌, Option, Some, None, IfSome, Result, Ok, Err, IfOk}
use Rattle.std.proofs.Common.{OnOk, option_map, option_and_then, String, Global, string_bytes, string_cmp, Less, refl}
use Rattle.std.proofs.Common.{sym, ap, ap₂, ◌∙◌, subst, rules}
use Rattle.std.specs.List.{AllByRecursion}
use Rattle.std.specs.Map.{keys_of}
use Rattle.serde_json.specs.Data.{Num, unsigned, negative, float, Data, null, boolean, number, string, array, object}
use Rattle.serde_json.specs.Data.{Items, no_items, item, Members, no_members, member, depth}
use Rattle.serde_json.specs.Read.{max_depth}
use Rattle.serde_json.specs.View.{members_view}
use Rattle.serde_json.specs.declared.value.Value.{Value}
use Rattle.portal_base.specs.Json.{data_of, items_data, members_data, json_of, list_of, entries_of, IsOrderly}
use Rattle.portal_base.specs.Json.{ItemsAreOrderly, MembersAreOrderly, Precedes, Fits, IsReadable}
use Rattle.portal_base.specs.declared.json_value.Json as json
use Rattle.portal_base.specs.declared.json_value.Json.{Json, the_lemmas}
use Rattle.portal_base.specs.declared.json_value.JsonFault.{JsonFault}
use Rattle.portal_base.proofs.JsonLevels.{data_of-List, data_of-Map}

mapped : {A B : Type 0} (P : A → Type 0) (Q : B → Type 0) (f : A → B) → ((a : A) → P a → Q (f a)) → (o : Option A)
    → IfSome o P → IfSome (option_map f o) Q
mapped P Q f step None h = tt
mapped P Q f step (Some a) h = step a h

chained : {A B : Type 0} (P : A → Type 0) (Q : B → Type 0) (f : A → Option B) → ((a : A) → P a → IfSome (f a) Q)
    → (o : Option A) → IfSome o P → IfSome (option_and_then f o) Q
chained P Q f step None h = tt
chained P Q f step (Some a) h = step a h

same_number : (n : Num) → Fits n → IfSome (json_of (number n)) (λ j. data_of j ≡ number n)
same_number (unsigned n) h = search (rules, the_lemmas)
same_number (negative (pos n)) h = absurd h
same_number (negative (negsuc n)) h = search (rules, the_lemmas)
same_number (float x) h = tt

mutual
  same : (d : Data) → IsOrderly d → IfSome (json_of d) (λ j. data_of j ≡ d)
  same null h = search (rules, the_lemmas)
  same (boolean b) h = search (rules, the_lemmas)
  same (number n) h = same_number n h
  same (string s) h = search (rules, the_lemmas)
  same (array ds) h = mapped (λ js. items_data js ≡ ds) (λ j. data_of j ≡ array ds) json.List
      (λ js e. data_of-List js ∙ ap array e) (list_of ds) (same_items ds h)
  same (object ms) h = mapped (λ es. members_data es ≡ ms) (λ j. data_of j ≡ object ms) json.Map
      (λ es e. data_of-Map es ∙ ap object e) (entries_of ms) (same_members ms h)

  same_items : (ds : Items) → ItemsAreOrderly ds → IfSome (list_of ds) (λ js. items_data js ≡ ds)
  same_items no_items h = refl
  same_items (item d ds) h =
      chained (λ j. data_of j ≡ d) (λ js. items_data js ≡ item d ds) (λ j. option_map (λ js. j ∷ js) (list_of ds))
      (λ j first. mapped (λ js. items_data js ≡ ds) (λ js. items_data js ≡ item d ds) (λ js. j ∷ js)
      (λ js rest. ap₂ item first rest) (list_of ds) (same_items ds h.1))
      (json_of d) (same d h.0)

  same_members : (ms : Members) → MembersAreOrderly ms → IfSome (entries_of ms) (λ es. members_data es ≡ ms)
  same_members no_members h = refl
  same_members (member k d ms) h =
      chained (λ j. data_of j ≡ d) (λ es. members_data es ≡ member k d ms)
      (λ j. option_map (λ es. (k, j) ∷ es) (entries_of ms))
      (λ j first. mapped (λ es. members_data es ≡ ms) (λ es. members_data es ≡ member k d ms) (λ es. (k, j) ∷ es)
      (λ es rest. ap₂ (member k) first rest) (entries_of ms) (same_members ms h.2))
      (json_of d) (same d h.1)

readable_data : (d : Data) (j : Json) → IsOrderly d → depth d ≤ max_depth → data_of j ≡ d → IsReadable j
readable_data d j orderly shallow is =
    (subst IsOrderly (sym is) orderly, subst (λ e. depth e ≤ max_depth) (sym is) shallow)

pub readable_read : (r : Result Json JsonFault) (d : Data) → depth d ≤ max_depth → IfOk r (λ j. json_of d ≡ Some j)
    → OnOk r (IsOrderly d) → IfOk r IsReadable
readable_read (Ok j) d shallow is orderly =
    readable_data d j orderly shallow (subst (λ o. IfSome o (λ j. data_of j ≡ d)) is (same d orderly))
readable_read (Err fault) d shallow is orderly = tt

pub precedes_keys : (k : String Global) (es : List (String Global × Value))
    → AllByRecursion (λ y. string_cmp k y ≡ Less) (keys_of es) → Precedes (string_bytes k) (members_view es)
precedes_keys k [] h = tt
precedes_keys k (e ∷ es) h = (h.0, precedes_keys k es h.1)
