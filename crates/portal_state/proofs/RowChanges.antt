-- The changes of rows that follow from entries lead from the rows before them to the rows after them.
use Rattle.std.proofs.Common.{◌≡◌, ℕ, Bool, true, false, cond, List, [], ◌∷◌, Option, Some, None, map, ◌⊎◌, inl, inr}
use Rattle.std.proofs.Common.{if◌then◌else◌, refl, sym, ap, ap₂, ◌∙◌, true≢false}
use Rattle.std.specs.Prelude.{option_map, unwrap_or}
use Rattle.std.specs.Option.{option_or}
use Rattle.std.specs.Ordering.{is_eq, ordering_reverse}
use Rattle.std.specs.declared.cmp.Ordering.{Ordering}
use Rattle.std.specs.declared.cmp.Ordering.TheVariants.{Less, Equal, Greater}
use Rattle.portal_base.specs.Ordered.{IsAscending, IsBelowAll, found}
use Rattle.portal_base.proofs.Removed.{is_eq_true}
use Rattle.portal_base.proofs.Unique.{IsIn, IsIn-ascending, ascending-IsIn}
use Rattle.portal_base.proofs.Upserted.{IsAscending-dropped, IsAscending-upserted}
use Rattle.packages.proofs.FindLemmas.{IsIn-find, find-none}
use Rattle.datastore_answers.specs.Changed.{with_table_at}
use Rattle.datastore_answers.specs.Order.{address_cmp, at_address, is_at, table_cmp, table_cmp_total}
use Rattle.datastore_answers.specs.declared.address.Address.{Address}
use Rattle.datastore_answers.specs.declared.resource_table.ResourceTable.{ResourceTable}
use Rattle.harvest_sources.specs.Sources.{AreSources}
use Rattle.portal_state.specs.State.{State}
use Rattle.portal_keeper.specs.Changed.{rows_after, said_by, said_last}
use Rattle.portal_keeper.specs.Rows.{AreInOrder, IsKey-row_at, body_at, key_cmp, row_at, row_cmp, row_cmp_total}
use Rattle.portal_keeper.specs.declared.change.Change.{Change}
use Rattle.portal_keeper.specs.declared.row.KeptRow.{KeptRow}
use Rattle.portal_keeper.specs.declared.row.RowKind.{RowKind}
use Rattle.portal_keeper.proofs.RowLemmas.{body_at-rows_after, in_order-rows_after, same_key, same_rows}
use Rattle.portal_state.specs.Alone.{AllDropAlone}
use Rattle.portal_state.specs.Entries.{Entry, PutOrg, DropOrg, PutRole, DropRole, PutDataset, EditDataset, DropDataset, PutTable}
use Rattle.portal_state.specs.Entries.{DropTable, PutRow, DropRow, OfSources, changed_by, rows_at, state_after, table_of}
use Rattle.portal_state.specs.Entries.{with_row, without_row}
use Rattle.portal_state.specs.KeptRows.{kept_rows, listed_rows}
use Rattle.portal_state.specs.RowChanges.{change_at, change_to, entry_key, row_changes}
use Rattle.portal_state.proofs.EntryLemmas.{IsOther, entry-others}
use Rattle.portal_state.proofs.KeyedSources.{AreKeyed, keyed-after, keyed-valid}
use Rattle.portal_state.proofs.RowMembers.{IsInBoth, found-member, in_both-itself, in_both-then}

-- ---- tables stay in their order

-- Items still ascend if each is made over without a change of its place.
ascending-made : {X : Type 0} (cmp : X → X → Ordering) (f : X → X) → ((x y : X) → cmp (f x) (f y) ≡ cmp x y)
    → (xs : List X) → IsAscending cmp xs → IsAscending cmp (map f xs)
ascending-made cmp f same [] up = tt
ascending-made {X} cmp f same (x ∷ xs) up = (below xs up.0, ascending-made cmp f same xs up.1)
  where
    below : (ys : List X) → IsBelowAll cmp x ys → IsBelowAll cmp (f x) (map f ys)
    below [] under = tt
    below (y ∷ ys) under = (same x y ∙ under.0, below ys under.1)

made-ascend : (address : Address) (make : ResourceTable → ResourceTable)
    → ((t : ResourceTable) → (make t).address ≡ t.address) → (tables : List ResourceTable)
    → IsAscending table_cmp tables → IsAscending table_cmp (with_table_at address make tables)
made-ascend address make keeps tables up =
    ascending-made table_cmp (λ t. if is_at address t then make t else t)
    (λ t u. ap₂ address_cmp (here t (is_at address t)) (here u (is_at address u))) tables up
  where
    here : (t : ResourceTable) (b : Bool) → (if b then make t else t).address ≡ t.address
    here t true = keeps t
    here t false = refl

tables-ascend : (entry : Entry) (state : State) → IsAscending table_cmp state.tables
    → IsAscending table_cmp (changed_by entry state).tables
tables-ascend (PutOrg org) state up = up
tables-ascend (DropOrg name) state up = up
tables-ascend (PutRole role) state up = up
tables-ascend (DropRole org user) state up = up
tables-ascend (PutDataset dataset) state up = up
tables-ascend (EditDataset id edit) state up = up
tables-ascend (DropDataset id) state up = up
tables-ascend (PutTable head) state up =
    IsAscending-upserted table_cmp table_cmp_total (table_of head (rows_at head.address state.tables)) state.tables up
tables-ascend (DropTable address) state up = IsAscending-dropped table_cmp (at_address address) state.tables up
tables-ascend (PutRow address row) state up = made-ascend address (with_row row) (λ t. refl) state.tables up
tables-ascend (DropRow address id) state up = made-ascend address (without_row id) (λ t. refl) state.tables up
tables-ascend (OfSources entry) state up = up

-- ---- sources keep their own jobs

sources-own : (entry : Entry) (state : State) → AreKeyed state.sources
    → AreKeyed (changed_by entry state).sources
sources-own (PutOrg org) state keyed = keyed
sources-own (DropOrg name) state keyed = keyed
sources-own (PutRole role) state keyed = keyed
sources-own (DropRole org user) state keyed = keyed
sources-own (PutDataset dataset) state keyed = keyed
sources-own (EditDataset id edit) state keyed = keyed
sources-own (DropDataset id) state keyed = keyed
sources-own (PutTable head) state keyed = keyed
sources-own (DropTable address) state keyed = keyed
sources-own (PutRow address row) state keyed = keyed
sources-own (DropRow address id) state keyed = keyed
sources-own (OfSources entry) state keyed = keyed-after entry state.sources keyed

-- ---- rows at keys that no entry is about

-- A row at another key than those of all entries is among the rows before them and after them, or in neither.
pub entries-others : (entries : List Entry) (state : State) (r : KeptRow) → IsAscending table_cmp state.tables
    → AreKeyed state.sources → AllDropAlone entries state → ((entry : Entry) → IsIn entry entries → IsOther (entry_key entry) r)
    → IsInBoth r (listed_rows state) (listed_rows (state_after entries state))
entries-others [] state r up keyed first other = in_both-itself r (listed_rows state)
entries-others (entry ∷ entries) state r up keyed first other =
    in_both-then r (listed_rows state) (listed_rows (changed_by entry state))
    (listed_rows (state_after entries (changed_by entry state)))
    (entry-others entry state r up keyed first.0 (other entry (inl refl)))
    (entries-others entries (changed_by entry state) r (tables-ascend entry state up) (sources-own entry state keyed)
    first.1 (λ later m. other later (inr m)))

-- ---- bodies of rows in order

-- Rows in order have the same body at a kind and a key if they have the same rows there.
same-body : (rows others : List KeptRow) (kind : RowKind) (key : List ℕ) → AreInOrder others
    → ((r : KeptRow) → is_eq (row_at kind key r) ≡ true → IsInBoth r rows others)
    → body_at rows kind key ≡ body_at others kind key
same-body rows others kind key up same = by (found (row_at kind key) rows) refl
  where
    none : found (row_at kind key) rows ≡ None → (o : Option KeptRow) → found (row_at kind key) others ≡ o
        → None ≡ option_map (λ row. row.body) o
    none is None also = refl
    none is (Some q) also =
        let there = IsIn-find (λ r. is_eq (row_at kind key r)) q others also in
        absurd (true≢false (sym there.1
        ∙ find-none (λ r. is_eq (row_at kind key r)) q rows is ((same q there.1).1 there.0)))

    by : (o : Option KeptRow) → found (row_at kind key) rows ≡ o
        → option_map (λ row. row.body) o ≡ body_at others kind key
    by None is = none is (found (row_at kind key) others) refl
    by (Some r) is =
        let there = IsIn-find (λ q. is_eq (row_at kind key q)) r rows is in
        sym (ap (option_map (λ row. row.body))
        (found-member row_cmp (row_at kind key) (IsKey-row_at kind key) r others up
        ((same r there.1).0 there.0) there.1))

-- The rows in order are the listed ones.
kept-listed : (before after : State) (r : KeptRow) → IsInBoth r (listed_rows before) (listed_rows after)
    → IsInBoth r (kept_rows before) (kept_rows after)
kept-listed before after r same = (
  λ m. IsIn-ascending row_cmp r (listed_rows after) (same.0 (ascending-IsIn row_cmp r (listed_rows before) m)),
  λ m. IsIn-ascending row_cmp r (listed_rows before) (same.1 (ascending-IsIn row_cmp r (listed_rows after) m)),
)

-- ---- what the changes of rows say

pub said-change_to : (its_kind : RowKind) (its_key : List ℕ) (body : Option (List ℕ)) (kind : RowKind) (key : List ℕ)
    (b : Bool) → is_eq (key_cmp its_kind its_key kind key) ≡ b
    → said_by (change_to its_kind its_key body) kind key ≡ cond b (Some body) None
said-change_to its_kind its_key None kind key b is = ap (λ c. cond c (Some None) None) is
said-change_to its_kind its_key (Some body) kind key b is = ap (λ c. cond c (Some (Some body)) None) is

-- No entry is about the kind and key.
abbrev pub AreOthers : List Entry → RowKind → List ℕ → Type 0
AreOthers entries kind key =
    (entry : Entry) → IsIn entry entries → is_eq (key_cmp (entry_key entry).0 (entry_key entry).1 kind key) ≡ false

pub others-cons : (first : Entry) (entries : List Entry) (kind : RowKind) (key : List ℕ)
    → is_eq (key_cmp (entry_key first).0 (entry_key first).1 kind key) ≡ false → AreOthers entries kind key
    → AreOthers (first ∷ entries) kind key
others-cons first entries kind key is rest entry (inl same) =
    ap (λ (e : Entry). is_eq (key_cmp (entry_key e).0 (entry_key e).1 kind key)) same ∙ is
others-cons first entries kind key is rest entry (inr m) = rest entry m

-- The changes say of a key what the rows have there, or no entry is about it.
said-changes : (rows : List KeptRow) (entries : List Entry) (kind : RowKind) (key : List ℕ)
    → (said_last (map (λ entry. change_at rows (entry_key entry)) entries) kind key ≡ Some (body_at rows kind key))
    ⊎ ((said_last (map (λ entry. change_at rows (entry_key entry)) entries) kind key ≡ None)
    × AreOthers entries kind key)
said-changes rows [] kind key = inr (refl, λ entry m. absurd m)
said-changes rows (entry ∷ entries) kind key =
    by (is_eq (key_cmp (entry_key entry).0 (entry_key entry).1 kind key)) refl
    (said-changes rows entries kind key)
  where
    later : Option (Option (List ℕ))
    later = said_last (map (λ e. change_at rows (entry_key e)) entries) kind key

    first : Option (Option (List ℕ))
    first = said_by (change_at rows (entry_key entry)) kind key

    its_body : Option (List ℕ)
    its_body = body_at rows (entry_key entry).0 (entry_key entry).1

    said : (b : Bool) → is_eq (key_cmp (entry_key entry).0 (entry_key entry).1 kind key) ≡ b
        → first ≡ cond b (Some its_body) None
    said b is = said-change_to (entry_key entry).0 (entry_key entry).1 its_body kind key b is

    by : (b : Bool) → is_eq (key_cmp (entry_key entry).0 (entry_key entry).1 kind key) ≡ b
        → (later ≡ Some (body_at rows kind key))
        ⊎ ((later ≡ None) × AreOthers entries kind key)
        → (option_or later first ≡ Some (body_at rows kind key))
        ⊎ ((option_or later first ≡ None) × AreOthers (entry ∷ entries) kind key)
    by b is (inl last) = inl (ap (λ (o : Option (Option (List ℕ))). option_or o first) last)
    by true is (inr rest) =
        let same = same_key (entry_key entry).0 (entry_key entry).1 kind key
        (is_eq_true (key_cmp (entry_key entry).0 (entry_key entry).1 kind key) is) in
        inl (ap (λ (o : Option (Option (List ℕ))). option_or o first) rest.0
        ∙ said true is
        ∙ ap₂ (λ (k : RowKind) (l : List ℕ). Some (body_at rows k l)) same.0 same.1)
    by false is (inr rest) =
        inr (
          ap (λ (o : Option (Option (List ℕ))). option_or o first) rest.0 ∙ said false is,
          others-cons entry entries kind key is rest.1,
        )

-- ---- the rows after the changes

reverse-unequal : (r : Ordering) → is_eq (ordering_reverse r) ≡ is_eq r
reverse-unequal Less = refl
reverse-unequal Equal = refl
reverse-unequal Greater = refl

-- A row at a key is not at another key.
other_at : (its_kind : RowKind) (its_key : List ℕ) (kind : RowKind) (key : List ℕ) (r : KeptRow)
    → is_eq (key_cmp its_kind its_key kind key) ≡ false → is_eq (row_at kind key r) ≡ true
    → is_eq (row_at its_kind its_key r) ≡ false
other_at its_kind its_key kind key r other here =
    let same = same_key r.kind r.key kind key (is_eq_true (row_at kind key r) here) in
    ap₂ (λ (k : RowKind) (l : List ℕ). is_eq (key_cmp k l its_kind its_key)) same.0 same.1
    ∙ ap is_eq (row_cmp_total.antisymm (record { kind = kind; key = key; body = [] })
    (record { kind = its_kind; key = its_key; body = [] }))
    ∙ reverse-unequal (key_cmp its_kind its_key kind key)
    ∙ other

-- The body at a key that no entry is about stays.
pub body-stays : (entries : List Entry) (state : State) (kind : RowKind) (key : List ℕ)
    → IsAscending table_cmp state.tables → AreSources state.sources → AllDropAlone entries state
    → AreInOrder (kept_rows (state_after entries state)) → AreOthers entries kind key
    → body_at (kept_rows state) kind key ≡ body_at (kept_rows (state_after entries state)) kind key
body-stays entries state kind key up are first after none =
    same-body (kept_rows state) (kept_rows (state_after entries state)) kind key after
    (λ r here. kept-listed state (state_after entries state) r
    (entries-others entries state r up (keyed-valid state.sources are) first
    (λ entry m. other_at (entry_key entry).0 (entry_key entry).1 kind key r (none entry m) here)))

pub rows_after-row_changes : (entries : List Entry) (state : State) → IsAscending table_cmp state.tables
    → AreSources state.sources → AllDropAlone entries state → AreInOrder (kept_rows state)
    → AreInOrder (kept_rows (state_after entries state))
    → rows_after (row_changes entries (state_after entries state)) (kept_rows state)
    ≡ kept_rows (state_after entries state)
rows_after-row_changes entries state up are first before after =
    same_rows (rows_after changes (kept_rows state)) (kept_rows new)
    (in_order-rows_after changes (kept_rows state) before) after
    (λ kind key. body_at-rows_after changes (kept_rows state) kind key
    ∙ by kind key (said-changes (kept_rows new) entries kind key))
  where
    new : State
    new = state_after entries state

    changes : List Change
    changes = row_changes entries new

    by : (kind : RowKind) (key : List ℕ)
        → (said_last changes kind key ≡ Some (body_at (kept_rows new) kind key))
        ⊎ ((said_last changes kind key ≡ None) × AreOthers entries kind key)
        → unwrap_or (said_last changes kind key) (body_at (kept_rows state) kind key)
        ≡ body_at (kept_rows new) kind key
    by kind key (inl said) =
        ap (λ (o : Option (Option (List ℕ))). unwrap_or o (body_at (kept_rows state) kind key)) said
    by kind key (inr none) =
        ap (λ (o : Option (Option (List ℕ))). unwrap_or o (body_at (kept_rows state) kind key)) none.0
        ∙ body-stays entries state kind key up are first after none.1
