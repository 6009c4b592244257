-- Parts that are read from the rows of a store.
use Rattle.std.proofs.Common.{◌≡◌, ◌↔◌, ◌∙◌, ◌+◌, ◌<◌, ◌≤◌, ℕ, Bool, true, false, cond, not, List, ◌++◌, All, length}
use Rattle.std.proofs.Common.{Option, Some, None, refl, sym, ap, ap₂, subst, arith, drop, get_or, take}
use Rattle.std.proofs.Common.{IfOk, IfSome, IfNone}
use Rattle.std.specs.Prelude.{Result, Ok, Err, nat_lt, slice_get}
use Rattle.std.specs.List.{position, position_or_len}
use Rattle.std.proofs.lemmas.Bool.Decides.{nat_tests}
use Rattle.std.proofs.lemmas.List.{get_or-drop, get_or-take, length-take}
use Rattle.std.proofs.lemmas.List.Quantifiers.{position-Some}
use Rattle.std.proofs.lemmas.List.Sums.{prefix_len_passes}
use Rattle.std.proofs.lemmas.Option.{get_or_from_slice_get, same_Some}
use Rattle.harvest_rows.specs.KeptHarvests.{AreHarvestRows, rows_of_harvests}
use Rattle.harvest_rows.specs.declared.kept_harvests.KeptHarvests.{KeptHarvests}
use Rattle.portal_keeper.specs.Rows.{kind_number}
use Rattle.portal_keeper.specs.declared.row.KeptRow.{KeptRow}
use Rattle.portal_rows.specs.KeptValues.{IsKeptOf, rows_of_values}
use Rattle.portal_rows.specs.declared.kept_values.KeptValues.{KeptValues}
use Rattle.portal_state.specs.Parts.{IsConsistent, state_of}
use Rattle.portal_state.specs.State.{State}
use Rattle.portal_state.specs.Typed.{IsTyped}
use Rattle.portal_state.specs.Valid.{IsValid}
use Rattle.portal_state.specs.Values.{AreRowsOf, IsStateOf, harvests_of, values_of}
use Rattle.portal_state.specs.declared.parts.Parts.{Parts}
use Rattle.portal_core.proofs.RowParts.{AreCut, cut-parts, parts-rows}
use Rattle.portal_core.proofs.Values.{rows_of_values-kept, values-rows}

-- ---- the first row of a source or a job

-- the row is of a source or a job
abbrev pub is_of_harvest : KeptRow → Bool
is_of_harvest row = nat_lt 5 (kind_number row.kind)

other-kind : (row : KeptRow) → is_of_harvest row ≡ false → kind_number row.kind ≤ 5
other-kind row is = grind (arith, nat_tests, is)

harvest-kind : (row : KeptRow) → is_of_harvest row ≡ true → 5 < kind_number row.kind
harvest-kind row is = grind (arith, nat_tests, is)

-- Each row before the first one is of another kind,
pub front-up : (rows : List KeptRow) (index : ℕ) → position is_of_harvest rows ≡ Some index
    → All (λ (row : KeptRow). kind_number row.kind ≤ 5) (take index rows)
front-up rows index found n d lt =
    let before : n < index = omega (arith, lt, length-take index rows) in
    let same : get_or (take index rows) n d ≡ get_or rows n d = get_or-take index rows n d before in
    subst (λ (r : KeptRow). kind_number r.kind ≤ 5) (sym same)
    (other-kind (get_or rows n d) ((position-Some is_of_harvest rows index d found).2 n before))

-- and it is the first of those after them.
pub back-after : (rows : List KeptRow) (index : ℕ) → position is_of_harvest rows ≡ Some index
    → IfSome (slice_get (drop index rows) 0) (λ (row : KeptRow). 5 < kind_number row.kind)
back-after rows index found = by (slice_get (drop index rows) 0) refl
  where
    by : (o : Option KeptRow) → slice_get (drop index rows) 0 ≡ o
        → IfSome o (λ (row : KeptRow). 5 < kind_number row.kind)
    by None is = tt
    by (Some row) is =
        let at : index + 0 ≡ index = omega arith in
        let same : row ≡ get_or rows index row =
        sym (get_or_from_slice_get (drop index rows) 0 row row is)
        ∙ get_or-drop index rows 0 row
        ∙ ap (λ (n : ℕ). get_or rows n row) at in
        harvest-kind row (ap is_of_harvest same ∙ (position-Some is_of_harvest rows index row found).1)

-- Where there is none, each row is of another kind.
pub all-up : (rows : List KeptRow) → position is_of_harvest rows ≡ None
    → All (λ (row : KeptRow). kind_number row.kind ≤ 5) rows
all-up rows found n d lt = by (nat_lt (position_or_len is_of_harvest rows) (length rows)) refl found
  where
    fails : (b : Bool) → not b ≡ true → b ≡ false
    fails true h = absurd (cc)
    fails false h = refl

    by : (within : Bool) → nat_lt (position_or_len is_of_harvest rows) (length rows) ≡ within
        → cond within (Some (position_or_len is_of_harvest rows)) None ≡ None → kind_number (get_or rows n d).kind ≤ 5
    by true is e = absurd (cc)
    by false is e =
        let past : length rows ≤ position_or_len is_of_harvest rows = grind (arith, nat_tests, is) in
        other-kind (get_or rows n d)
        (fails (is_of_harvest (get_or rows n d))
        (prefix_len_passes (λ (row : KeptRow). not (is_of_harvest row)) rows n d (omega (arith, lt, past))))

-- ---- the values of all rows

-- the values of both parts
abbrev both : KeptValues → KeptHarvests → KeptValues × KeptHarvests
both values harvests = (values, harvests)

-- what the reader of all rows says of them
abbrev pub IsReadOf : Option (KeptValues × KeptHarvests) → List KeptRow → Type 0
IsReadOf found rows =
    (values : KeptValues) (harvests : KeptHarvests)
    → (found ≡ Some (both values harvests)) ↔ AreRowsOf values harvests rows

-- what the readers of the two parts say of them
abbrev IsRead : Option KeptValues → List KeptRow → Type 0
IsRead found front = (values : KeptValues) → (found ≡ Some values) ↔ IsKeptOf values front

abbrev AreRead : Option KeptHarvests → List KeptRow → Type 0
AreRead found back = (harvests : KeptHarvests) → (found ≡ Some harvests) ↔ AreHarvestRows harvests back

-- Rows of which a part can't be read are of no values.
refused : (rows front back : List KeptRow) → AreCut rows front back
    → ((values : KeptValues) (harvests : KeptHarvests) → IsKeptOf values front → AreHarvestRows harvests back → ⊥)
    → IsReadOf None rows
refused rows front back cut none values harvests = (
  λ e. absurd (cc),
  λ is. let parts = cut-parts rows front back cut values harvests is in
      absurd (none values harvests parts.0 parts.1),
)

pub no_values-read : (rows front back : List KeptRow) (found : Option KeptValues) → AreCut rows front back
    → IsRead found front → found ≡ None → IsReadOf None rows
no_values-read rows front back found cut reader none =
    refused rows front back cut
    (λ values harvests is also. let some : found ≡ Some values = (reader values).1 is in absurd (cc))

pub no_harvests-read : (rows front back : List KeptRow) (found : Option KeptHarvests) → AreCut rows front back
    → AreRead found back → found ≡ None → IsReadOf None rows
no_harvests-read rows front back found cut reader none =
    refused rows front back cut
    (λ values harvests is also. let some : found ≡ Some harvests = (reader harvests).1 also in absurd (cc))

pub both-read : (rows front back : List KeptRow) (found : Option KeptValues) (also_found : Option KeptHarvests)
    (read : KeptValues) (also_read : KeptHarvests) → AreCut rows front back → IsRead found front
    → AreRead also_found back → found ≡ Some read → also_found ≡ Some also_read
    → IsReadOf (Some (both read also_read)) rows
both-read rows front back found also_found read also_read cut reader also_reader some also_some values harvests =
    (into, from)
  where
    into : Some (both read also_read) ≡ Some (both values harvests) → AreRowsOf values harvests rows
    into e =
        let same : both read also_read ≡ both values harvests = same_Some (both read also_read) (both values harvests) e in
        parts-rows rows front back cut values harvests
        ((reader values).0 (some ∙ ap Some (ap (λ (p : KeptValues × KeptHarvests). p.0) same)))
        ((also_reader harvests).0 (also_some ∙ ap Some (ap (λ (p : KeptValues × KeptHarvests). p.1) same)))

    from : AreRowsOf values harvests rows → Some (both read also_read) ≡ Some (both values harvests)
    from is =
        let parts = cut-parts rows front back cut values harvests is in
        ap₂ (λ (v : KeptValues) (h : KeptHarvests). Some (both v h))
        (same_Some read values (sym some ∙ (reader values).1 parts.0))
        (same_Some also_read harvests (sym also_some ∙ (also_reader harvests).1 parts.1))

-- ---- the parts

-- The values of a state whose rows these are, are read.
state-read : (found : Option (KeptValues × KeptHarvests)) (rows : List KeptRow) → IsReadOf found rows → (state : State)
    → IsStateOf rows state → found ≡ Some (both (values_of state) (harvests_of state))
state-read found rows reader state is =
    (reader (values_of state) (harvests_of state)).1
    (subst (AreRowsOf (values_of state) (harvests_of state)) is.kept (values-rows state is.valid is.typed))

pub rows-parts : {E : Type 0} (r : Result (Option Parts) E) (values : KeptValues) (harvests : KeptHarvests)
    (rows : List KeptRow) → AreRowsOf values harvests rows → IfOk r (λ o. IfSome o IsConsistent)
    → IfOk r (λ o. IfSome o (λ parts. values_of (state_of parts) ≡ values))
    → IfOk r (λ o. IfSome o (λ parts. harvests_of (state_of parts) ≡ harvests))
    → IfOk r (λ o. IfSome o (λ parts. IsTyped (state_of parts)))
    → IfOk r (λ o. IfSome o (λ parts. IsStateOf rows (state_of parts)))
rows-parts (Err e) values harvests rows kept consistent same own typed = tt
rows-parts (Ok None) values harvests rows kept consistent same own typed = tt
rows-parts (Ok (Some parts)) values harvests rows kept consistent same own typed = record {
  valid = consistent.valid;
  typed = typed;
  kept = sym (rows_of_values-kept (state_of parts) consistent.valid typed)
      ∙ ap₂ (λ (v : KeptValues) (h : KeptHarvests). rows_of_values v ++ rows_of_harvests h) same own
      ∙ kept.same;
}

pub rows-no_parts : {E : Type 0} (r : Result (Option Parts) E) (found : Option (KeptValues × KeptHarvests))
    (values : KeptValues) (harvests : KeptHarvests) (rows : List KeptRow) → found ≡ Some (both values harvests)
    → IsReadOf found rows
    → IfOk r (λ o. IfNone o ((state : State) → IsValid state → IsTyped state → values_of state ≡ values
    → harvests_of state ≡ harvests → ⊥))
    → IfOk r (λ o. IfNone o ((state : State) → IsStateOf rows state → ⊥))
rows-no_parts (Err e) found values harvests rows some reader none = tt
rows-no_parts (Ok (Some parts)) found values harvests rows some reader none = tt
rows-no_parts (Ok None) found values harvests rows some reader none =
    λ state is.
    let same : both (values_of state) (harvests_of state) ≡ both values harvests =
    same_Some (both (values_of state) (harvests_of state)) (both values harvests)
    (sym (state-read found rows reader state is) ∙ some) in
    none state is.valid is.typed (ap (λ (p : KeptValues × KeptHarvests). p.0) same)
    (ap (λ (p : KeptValues × KeptHarvests). p.1) same)

pub unread-rows : (found : Option (KeptValues × KeptHarvests)) (rows : List KeptRow) → found ≡ None
    → IsReadOf found rows → (state : State) → IsStateOf rows state → ⊥
unread-rows found rows none reader state is =
    let some : found ≡ Some (both (values_of state) (harvests_of state)) = state-read found rows reader state is in
    absurd (cc)
