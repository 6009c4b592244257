-- One pair of a query, set among the members.
use Rattle.std.proofs.Common.{◌≡◌, ℕ, List, [], ◌∷◌, ap, sym, ◌∙◌}
use Rattle.std.specs.Prelude.{fold}
use Rattle.std.specs.BTreeMap.{insert_entry}
use Rattle.std.specs.Cmp.Lexicographic.{slice_cmp}
use Rattle.std.specs.Ordering.{nat_cmp}
use Rattle.form_urlencoded.specs.Form.{raw_pairs}
use Rattle.portal_base.specs.declared.json_value.Json.{Json}
use Rattle.action_api.specs.Query.{text_of, query_value, with_pair}

-- The first of the pairs that are left was set, and the others are left.
pub set_first : (members after : List (List ℕ × Json)) (left rest : List (List ℕ × List ℕ))
    (n v name value : List ℕ)
    → left ≡ (n, v) ∷ rest → name ≡ text_of n → value ≡ text_of v
    → after ≡ insert_entry (slice_cmp nat_cmp) members name (query_value value)
    → fold with_pair after rest ≡ fold with_pair members left
set_first members after left rest n v name value is key text set =
    ap (λ m. fold with_pair m rest)
    (set ∙ ap (λ k. insert_entry (slice_cmp nat_cmp) members k (query_value value)) key
    ∙ ap (λ t. insert_entry (slice_cmp nat_cmp) members (text_of n) (query_value t)) text)
    ∙ sym (ap (fold with_pair members) is)

-- No member was set, and all pairs are left.
pub all_left : (members : List (List ℕ × Json)) (left : List (List ℕ × List ℕ)) (bytes query : List ℕ)
    → members ≡ [] → left ≡ raw_pairs bytes → bytes ≡ query
    → fold with_pair members left ≡ fold with_pair [] (raw_pairs query)
all_left members left bytes query none all same =
    ap (λ m. fold with_pair m left) none ∙ ap (fold with_pair []) (all ∙ ap raw_pairs same)
