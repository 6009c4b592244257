-- The test of the keys of a dictionary, as a property of its data.
use Rattle.std.proofs.Common.{◌≡◌, ℕ, List, [], ◌∷◌, true, refl}
use Rattle.std.proofs.lemmas.Bool.{and_parts}
use Rattle.std.specs.Ordering.{nat_cmp}
use Rattle.std.specs.Cmp.Lexicographic.{slice_cmp}
use Rattle.std.specs.declared.cmp.Ordering.{Ordering}
use Rattle.std.specs.declared.cmp.Ordering.TheVariants.{Less, Equal, Greater}
use Rattle.portal_base.specs.declared.json_value.Json.{Json}
use Rattle.portal_base.specs.declared.json_value.Json as json
use Rattle.portal_base.specs.Json.{Precedes, IsOrderly, MembersAreOrderly, members_data, data_of}
use Rattle.portal_base.specs.Dictionary.{is_less, precedes, keys_ascend, KeysAscend, IsAscending, ValuesAreOrderly}
use Rattle.portal_base.proofs.JsonLevels.{data_of-Map}

less : (o : Ordering) → is_less o ≡ true → o ≡ Less
less Less holds = refl
less Equal holds = cc
less Greater holds = cc

comes_before : (key : List ℕ) (entries : List (List ℕ × Json)) → precedes key entries ≡ true
    → Precedes key (members_data entries)
comes_before key [] holds = tt
comes_before key (e ∷ es) holds =
    let parts = and_parts (is_less (slice_cmp nat_cmp key e.0)) (precedes key es) holds in
    (less (slice_cmp nat_cmp key e.0) parts.0, comes_before key es parts.1)

pub ascend : (entries : List (List ℕ × Json)) → keys_ascend entries ≡ true → KeysAscend (members_data entries)
ascend [] holds = tt
ascend (e ∷ es) holds =
    let parts = and_parts (precedes e.0 es) (keys_ascend es) holds in
    (comes_before e.0 es parts.0, ascend es parts.1)

orderly : (entries : List (List ℕ × Json)) → keys_ascend entries ≡ true → ValuesAreOrderly (members_data entries)
    → MembersAreOrderly (members_data entries)
orderly [] holds values = tt
orderly (e ∷ es) holds values =
    let parts = and_parts (precedes e.0 es) (keys_ascend es) holds in
    (comes_before e.0 es parts.0, values.0, orderly es parts.1 values.1)

pub map_ascends : (entries : List (List ℕ × Json)) → keys_ascend entries ≡ true
    → IsAscending (data_of (json.Map entries))
map_ascends entries holds = rw data_of-Map (ascend entries holds)

pub map_is_orderly : (entries : List (List ℕ × Json)) → keys_ascend entries ≡ true
    → ValuesAreOrderly (members_data entries) → IsOrderly (data_of (json.Map entries))
map_is_orderly entries holds values = rw data_of-Map (orderly entries holds values)
