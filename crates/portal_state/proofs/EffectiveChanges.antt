-- The changes of rows that change something lead from the rows before entries to the rows after them.
use Rattle.std.proofs.Common.{◌≡◌, ℕ, Bool, true, false, cond, not, List, [], ◌∷◌, Option, Some, None, map, ◌⊎◌, inl, inr}
use Rattle.std.proofs.Common.{refl, sym, ap, ap₂, ◌∙◌}
use Rattle.std.specs.Prelude.{filter, is_some, unwrap_or}
use Rattle.std.specs.Option.{option_or}
use Rattle.std.specs.Ordering.{is_eq}
use Rattle.std.proofs.lemmas.Slice.Eq.{bytes_eq-Decides}
use Rattle.portal_base.specs.Ordered.{IsAscending}
use Rattle.portal_base.proofs.Removed.{is_eq_true}
use Rattle.datastore_answers.specs.Order.{table_cmp}
use Rattle.harvest_sources.specs.Sources.{AreSources}
use Rattle.portal_state.specs.State.{State}
use Rattle.portal_keeper.specs.Changed.{rows_after, said_by, said_last}
use Rattle.portal_keeper.specs.Rows.{AreInOrder, body_at, key_cmp}
use Rattle.portal_keeper.specs.declared.change.Change.{Change}
use Rattle.portal_keeper.specs.declared.row.KeptRow.{KeptRow}
use Rattle.portal_keeper.specs.declared.row.RowKind.{RowKind}
use Rattle.portal_keeper.proofs.RowLemmas.{body_at-rows_after, in_order-rows_after, same_key, same_rows}
use Rattle.portal_state.specs.Alone.{AllDropAlone}
use Rattle.portal_state.specs.Entries.{Entry, state_after}
use Rattle.portal_state.specs.KeptRows.{kept_rows}
use Rattle.portal_state.specs.RowChanges.{change_at, change_to, effective_changes, entry_key, is_body}
use Rattle.portal_state.specs.RowChanges.{is_effective, row_changes}
use Rattle.portal_state.proofs.RowChanges.{AreOthers, body-stays, others-cons, said-change_to}

-- ---- changes that change nothing

body-is : (body : List ℕ) (o : Option (List ℕ)) → is_body body o ≡ true → o ≡ Some body
body-is body None same = absurd (cc)
body-is body (Some other) same = ap Some ((bytes_eq-Decides other body).0 same)

-- If the change to a body changes nothing, the rows have that body there.
had-already : (rows : List KeptRow) (kind : RowKind) (key : List ℕ) (body : Option (List ℕ))
    → is_effective rows (change_to kind key body) ≡ false → body_at rows kind key ≡ body
had-already rows kind key None none = by (body_at rows kind key) refl none
  where
    by : (o : Option (List ℕ)) → body_at rows kind key ≡ o → is_some o ≡ false → body_at rows kind key ≡ None
    by None is e = is
    by (Some other) is e = absurd (cc)
had-already rows kind key (Some body) none =
    body-is body (body_at rows kind key) (by (is_body body (body_at rows kind key)) none)
  where
    by : (b : Bool) → not b ≡ false → b ≡ true
    by true e = refl
    by false e = absurd (cc)

-- The change to what the rows have changes nothing.
nothing-new : (rows : List KeptRow) (kind : RowKind) (key : List ℕ) (body : Option (List ℕ))
    → body_at rows kind key ≡ body → is_effective rows (change_to kind key body) ≡ false
nothing-new rows kind key None is = ap is_some is
nothing-new rows kind key (Some body) is =
    ap (λ (o : Option (List ℕ)). not (is_body body o)) is ∙ ap not ((bytes_eq-Decides body body).1 refl)

pub none-effective : (entries : List Entry) (before after : State) → kept_rows before ≡ kept_rows after
    → effective_changes (kept_rows before) (row_changes entries after) ≡ []
none-effective [] before after same = refl
none-effective (entry ∷ entries) before after same =
    ap (λ b. cond b
    (change_at (kept_rows after) (entry_key entry) ∷ effective_changes (kept_rows before) (row_changes entries after))
    (effective_changes (kept_rows before) (row_changes entries after)))
    (nothing-new (kept_rows before) (entry_key entry).0 (entry_key entry).1
    (body_at (kept_rows after) (entry_key entry).0 (entry_key entry).1)
    (ap (λ (rows : List KeptRow). body_at rows (entry_key entry).0 (entry_key entry).1) same))
    ∙ none-effective entries before after same

-- ---- what the others say

-- The effective changes say of a key what the rows after have there; or they say nothing, and the rows before have the same
-- there or no entry is about it.
abbrev SaysEffective : List KeptRow → List KeptRow → List Entry → RowKind → List ℕ → Type 0
SaysEffective before after entries kind key =
    (said_last (filter (is_effective before) (map (λ entry. change_at after (entry_key entry)) entries)) kind key
    ≡ Some (body_at after kind key))
    ⊎ ((said_last (filter (is_effective before) (map (λ entry. change_at after (entry_key entry)) entries)) kind key
    ≡ None)
    × ((body_at before kind key ≡ body_at after kind key) ⊎ AreOthers entries kind key))

said-effective : (before after : List KeptRow) (entries : List Entry) (kind : RowKind) (key : List ℕ)
    → SaysEffective before after entries kind key
said-effective before after [] kind key = inr (refl, inr (λ entry m. absurd m))
said-effective before after (entry ∷ entries) kind key =
    by (is_effective before change) refl (is_eq (key_cmp its_kind its_key kind key)) refl
    (said-effective before after entries kind key)
  where
    its_kind : RowKind
    its_kind = (entry_key entry).0

    its_key : List ℕ
    its_key = (entry_key entry).1

    change : Change
    change = change_at after (entry_key entry)

    others : List Change
    others = filter (is_effective before) (map (λ e. change_at after (entry_key e)) entries)

    -- an entry about the key
    same-body : (rows : List KeptRow) → is_eq (key_cmp its_kind its_key kind key) ≡ true
        → body_at rows its_kind its_key ≡ body_at rows kind key
    same-body rows is =
        let same = same_key its_kind its_key kind key (is_eq_true (key_cmp its_kind its_key kind key) is) in
        ap₂ (λ (k : RowKind) (l : List ℕ). body_at rows k l) same.0 same.1

    unless-other : (body_at before kind key ≡ body_at after kind key) ⊎ AreOthers entries kind key
        → is_eq (key_cmp its_kind its_key kind key) ≡ false
        → (body_at before kind key ≡ body_at after kind key) ⊎ AreOthers (entry ∷ entries) kind key
    unless-other (inl same) is = inl same
    unless-other (inr rest) is = inr (others-cons entry entries kind key is rest)

    -- the change is left out or not
    left : (b : Bool) → is_effective before change ≡ b
        → said_last (filter (is_effective before) (change ∷ map (λ e. change_at after (entry_key e)) entries)) kind key
        ≡ said_last (cond b (change ∷ others) others) kind key
    left b is = ap (λ c. said_last (cond c (change ∷ others) others) kind key) is

    said : (named : Bool) → is_eq (key_cmp its_kind its_key kind key) ≡ named
        → said_by change kind key ≡ cond named (Some (body_at after its_kind its_key)) None
    said named is = said-change_to its_kind its_key (body_at after its_kind its_key) kind key named is

    by : (b : Bool) → is_effective before change ≡ b → (named : Bool)
        → is_eq (key_cmp its_kind its_key kind key) ≡ named → SaysEffective before after entries kind key
        → SaysEffective before after (entry ∷ entries) kind key
    by true is named key_is (inl last) =
        inl (left true is ∙ ap (λ (o : Option (Option (List ℕ))). option_or o (said_by change kind key)) last)
    by false is named key_is (inl last) = inl (left false is ∙ last)
    by true is true key_is (inr rest) =
        inl (left true is
        ∙ ap (λ (o : Option (Option (List ℕ))). option_or o (said_by change kind key)) rest.0
        ∙ said true key_is
        ∙ ap Some (same-body after key_is))
    by true is false key_is (inr rest) =
        inr (
          left true is
              ∙ ap (λ (o : Option (Option (List ℕ))). option_or o (said_by change kind key)) rest.0
              ∙ said false key_is,
          unless-other rest.1 key_is,
        )
    by false is true key_is (inr rest) =
        inr (
          left false is ∙ rest.0,
          inl (sym (same-body before key_is)
              ∙ had-already before its_kind its_key (body_at after its_kind its_key) is
              ∙ same-body after key_is),
        )
    by false is false key_is (inr rest) = inr (left false is ∙ rest.0, unless-other rest.1 key_is)

pub rows_after-effective : (entries : List Entry) (state : State) → IsAscending table_cmp state.tables
    → AreSources state.sources → AllDropAlone entries state → AreInOrder (kept_rows state)
    → AreInOrder (kept_rows (state_after entries state))
    → rows_after (effective_changes (kept_rows state) (row_changes entries (state_after entries state)))
    (kept_rows state)
    ≡ kept_rows (state_after entries state)
rows_after-effective entries state up are first before after =
    same_rows (rows_after changes (kept_rows state)) (kept_rows new)
    (in_order-rows_after changes (kept_rows state) before) after
    (λ kind key. body_at-rows_after changes (kept_rows state) kind key
    ∙ by kind key (said-effective (kept_rows state) (kept_rows new) entries kind key))
  where
    new : State
    new = state_after entries state

    changes : List Change
    changes = effective_changes (kept_rows state) (row_changes entries new)

    or_before : RowKind → List ℕ → Option (Option (List ℕ)) → Option (List ℕ)
    or_before kind key o = unwrap_or o (body_at (kept_rows state) kind key)

    by : (kind : RowKind) (key : List ℕ) → SaysEffective (kept_rows state) (kept_rows new) entries kind key
        → unwrap_or (said_last changes kind key) (body_at (kept_rows state) kind key)
        ≡ body_at (kept_rows new) kind key
    by kind key (inl said) = ap (or_before kind key) said
    by kind key (inr (none, inl same)) = ap (or_before kind key) none ∙ same
    by kind key (inr (none, inr others)) =
        ap (or_before kind key) none ∙ body-stays entries state kind key up are first after others
