-- Rows in order: what is found in them, and that their bodies determine them.
use Rattle.std.proofs.Common.{◌≡◌, ℕ, Bool, true, false, cond, List, [], ◌∷◌, ◌++◌, Option, Some, None, refl, sym}
use Rattle.std.proofs.Common.{ap, ◌∙◌, subst, inl, inr}
use Rattle.std.specs.Prelude.{option_map, unwrap_or}
use Rattle.std.specs.declared.cmp.Ordering.{Ordering}
use Rattle.std.specs.declared.cmp.Ordering.TheVariants.{Less, Equal, Greater}
use Rattle.std.specs.Ordering.{nat_cmp, is_eq, ordering_then}
use Rattle.std.specs.Option.{option_or}
use Rattle.std.specs.Cmp.Lexicographic.{slice_cmp}
use Rattle.std.proofs.lemmas.Cmp.{tied_itself}
use Rattle.std.proofs.lemmas.Map.Lookups.{exact_unsigned, exact_bytes}
use Rattle.portal_base.specs.Ordered.{ascending, found, dropped}
use Rattle.portal_base.proofs.Inserted.{IsAscending-ascending}
use Rattle.portal_base.proofs.Removed.{is_eq_true, AreApart-are_apart}
use Rattle.portal_base.proofs.Unique.{IsIn, below_in, unique}
use Rattle.portal_base.proofs.Upserted.{found-upserted, found-upserted_other, found-dropped, found-dropped_other}
use Rattle.portal_base.proofs.Upserted.{IsAscending-upserted, IsAscending-dropped}
use Rattle.portal_keeper.specs.declared.change.Change.{Change}
use Rattle.portal_keeper.specs.declared.change.Change.TheVariants.{Put, Remove}
use Rattle.portal_keeper.specs.declared.row.KeptRow.{KeptRow}
use Rattle.portal_keeper.specs.declared.row.RowKind.{RowKind}
use Rattle.portal_keeper.specs.declared.row.RowKind.TheVariants.{Version, Org, Set, Table, Row, Source, Job}
use Rattle.portal_keeper.specs.Rows.{kind_number, key_cmp, row_cmp, row_cmp_total, row_at, IsKey-row_at}
use Rattle.portal_keeper.specs.Rows.{AreInOrder, are_distinct, body_at}
use Rattle.portal_keeper.specs.Changed.{changed_rows, rows_after, said_by, said_last}

-- ---- keys that compare as equal are equal

-- the kind of a number
abbrev kind_numbered : ℕ → RowKind
kind_numbered n =
    cond (is_eq (nat_cmp n 1)) Version
    (cond (is_eq (nat_cmp n 2)) Org
    (cond (is_eq (nat_cmp n 3)) Set
    (cond (is_eq (nat_cmp n 4)) Table (cond (is_eq (nat_cmp n 5)) Row (cond (is_eq (nat_cmp n 6)) Source Job)))))

number_of_kind : (kind : RowKind) → kind_numbered (kind_number kind) ≡ kind
number_of_kind Version = refl
number_of_kind Org = refl
number_of_kind Set = refl
number_of_kind Table = refl
number_of_kind Row = refl
number_of_kind Source = refl
number_of_kind Job = refl

same_kind : (kind other : RowKind) → kind_number kind ≡ kind_number other → kind ≡ other
same_kind kind other e = sym (number_of_kind kind) ∙ ap kind_numbered e ∙ number_of_kind other

-- Both of two orders, one after the other, are equal if the whole is.
both_equal : (first second : Ordering) → ordering_then first second ≡ Equal → (first ≡ Equal) × (second ≡ Equal)
both_equal Less second e = absurd (cc)
both_equal Equal second e = (refl, e)
both_equal Greater second e = absurd (cc)

pub same_key : (kind : RowKind) (key : List ℕ) (other_kind : RowKind) (other_key : List ℕ)
    → key_cmp kind key other_kind other_key ≡ Equal → (kind ≡ other_kind) × (key ≡ other_key)
same_key kind key other_kind other_key e =
    let both = both_equal (nat_cmp (kind_number kind) (kind_number other_kind)) (slice_cmp nat_cmp key other_key) e in (
      same_kind kind other_kind (exact_unsigned (kind_number kind) (kind_number other_kind) both.0),
      exact_bytes key other_key both.1,
    )

-- ---- look-ups after changes

-- The body at the kind and key of a change is what the change says, and any other body stays.
body_at-changed : (change : Change) (rows : List KeptRow) (kind : RowKind) (key : List ℕ)
    → body_at (changed_rows change rows) kind key ≡ unwrap_or (said_by change kind key) (body_at rows kind key)
body_at-changed (Put row) rows kind key = by (is_eq (row_at kind key row)) refl
  where
    by : (b : Bool) → is_eq (row_at kind key row) ≡ b
        → body_at (changed_rows (Put row) rows) kind key
        ≡ unwrap_or (cond b (Some (Some row.body)) None) (body_at rows kind key)
    by true here =
        ap (option_map (λ found. found.body))
        (found-upserted row_cmp (row_at kind key) (IsKey-row_at kind key) row rows (is_eq_true (row_at kind key row) here))
    by false other =
        ap (option_map (λ found. found.body))
        (found-upserted_other row_cmp row_cmp_total (row_at kind key) (IsKey-row_at kind key) row rows other)
body_at-changed (Remove its_kind its_key) rows kind key = by (is_eq (key_cmp its_kind its_key kind key)) refl
  where
    by : (b : Bool) → is_eq (key_cmp its_kind its_key kind key) ≡ b
        → body_at (changed_rows (Remove its_kind its_key) rows) kind key
        ≡ unwrap_or (cond b (Some None) None) (body_at rows kind key)
    by true here =
        let same = same_key its_kind its_key kind key (is_eq_true (key_cmp its_kind its_key kind key) here) in
        subst (λ k. body_at (dropped (row_at k its_key) rows) kind key ≡ None) (sym same.0)
        (subst (λ k. body_at (dropped (row_at kind k) rows) kind key ≡ None) (sym same.1)
        (ap (option_map (λ found. found.body)) (found-dropped (row_at kind key) rows)))
    by false other =
        ap (option_map (λ found. found.body))
        (found-dropped_other (row_at its_kind its_key) (row_at kind key) rows (λ row e. apart row e))
      where
        apart : (row : KeptRow) → row_at its_kind its_key row ≡ Equal → is_eq (row_at kind key row) ≡ false
        apart row e =
            let same = same_key row.kind row.key its_kind its_key e in
            subst (λ k. is_eq (key_cmp k row.key kind key) ≡ false) (sym same.0)
            (subst (λ k. is_eq (key_cmp its_kind k kind key) ≡ false) (sym same.1) other)

unwrap_later : (later first : Option (Option (List ℕ))) (before : Option (List ℕ))
    → unwrap_or later (unwrap_or first before) ≡ unwrap_or (option_or later first) before
unwrap_later None first before = refl
unwrap_later (Some body) first before = refl

pub body_at-rows_after : (changes : List Change) (rows : List KeptRow) (kind : RowKind) (key : List ℕ)
    → body_at (rows_after changes rows) kind key ≡ unwrap_or (said_last changes kind key) (body_at rows kind key)
body_at-rows_after [] rows kind key = refl
body_at-rows_after (change ∷ changes) rows kind key =
    body_at-rows_after changes (changed_rows change rows) kind key
    ∙ ap (unwrap_or (said_last changes kind key)) (body_at-changed change rows kind key)
    ∙ unwrap_later (said_last changes kind key) (said_by change kind key) (body_at rows kind key)

-- ---- what changes keep

in_order-changed : (change : Change) (rows : List KeptRow) → AreInOrder rows → AreInOrder (changed_rows change rows)
in_order-changed (Put row) rows up = IsAscending-upserted row_cmp row_cmp_total row rows up
in_order-changed (Remove kind key) rows up = IsAscending-dropped row_cmp (row_at kind key) rows up

pub in_order-rows_after : (changes : List Change) (rows : List KeptRow) → AreInOrder rows
    → AreInOrder (rows_after changes rows)
in_order-rows_after [] rows up = up
in_order-rows_after (change ∷ changes) rows up =
    in_order-rows_after changes (changed_rows change rows) (in_order-changed change rows up)

pub rows_after-++ : (changes more : List Change) (rows : List KeptRow)
    → rows_after (changes ++ more) rows ≡ rows_after more (rows_after changes rows)
rows_after-++ [] more rows = refl
rows_after-++ (change ∷ changes) more rows = rows_after-++ changes more (changed_rows change rows)

-- ---- rows with the same bodies

-- A row of an ordered list is found at its kind and key.
found-row : (row : KeptRow) (rows : List KeptRow) → AreInOrder rows → IsIn row rows
    → found (row_at row.kind row.key) rows ≡ Some row
found-row row [] up in_rows = absurd in_rows
found-row row (first ∷ rows) up (inl same) =
    ap (λ r. cond (is_eq r) (Some first) (found (row_at row.kind row.key) rows))
    (ap (row_at row.kind row.key) (sym same) ∙ tied_itself row_cmp_total row) ∙ ap Some (sym same)
found-row row (first ∷ rows) up (inr later) =
    ap (λ r. cond (is_eq r) (Some first) (found (row_at row.kind row.key) rows))
    (below_in row_cmp first row rows up.0 later) ∙ found-row row rows up.1 later

-- The row that is found is in the list, at the kind and key.
row-found : (kind : RowKind) (key : List ℕ) (row : KeptRow) (rows : List KeptRow)
    → found (row_at kind key) rows ≡ Some row → IsIn row rows × (row_at kind key row ≡ Equal)
row-found kind key row [] h = absurd (cc)
row-found kind key row (first ∷ rows) h =
    by (is_eq (row_at kind key first)) refl h (row-found kind key row rows)
  where
    by : (b : Bool) → is_eq (row_at kind key first) ≡ b → cond b (Some first) (found (row_at kind key) rows) ≡ Some row
        → (found (row_at kind key) rows ≡ Some row → IsIn row rows × (row_at kind key row ≡ Equal))
        → IsIn row (first ∷ rows) × (row_at kind key row ≡ Equal)
    by true here e go =
        let same : first ≡ row = cc in
        (inl (sym same), subst (λ r. row_at kind key r ≡ Equal) same (is_eq_true (row_at kind key first) here))
    by false other e go = (inr (go e).0, (go e).1)

-- A row of a list is in every other list with the same bodies.
in_other : (rows others : List KeptRow) → AreInOrder rows
    → ((kind : RowKind) (key : List ℕ) → body_at rows kind key ≡ body_at others kind key)
    → (row : KeptRow) → IsIn row rows → IsIn row others
in_other rows others up same row in_rows =
    by (found (row_at row.kind row.key) others) refl
    (sym (same row.kind row.key) ∙ ap (option_map (λ found. found.body)) (found-row row rows up in_rows))
  where
    by : (o : Option KeptRow) → found (row_at row.kind row.key) others ≡ o
        → option_map (λ found. found.body) o ≡ Some row.body → IsIn row others
    by None is e = absurd (cc)
    by (Some other) is e =
        let there = row-found row.kind row.key other others is in
        let key = same_key other.kind other.key row.kind row.key there.1 in
        let body : other.body ≡ row.body = cc in
        let whole : other ≡ row = λ i. record { kind = key.0 i; key = key.1 i; body = body i } in
        subst (λ r. IsIn r others) whole there.0

pub same_rows : (rows others : List KeptRow) → AreInOrder rows → AreInOrder others
    → ((kind : RowKind) (key : List ℕ) → body_at rows kind key ≡ body_at others kind key) → rows ≡ others
same_rows rows others up others_up same =
    unique row_cmp row_cmp_total rows others up others_up (in_other rows others up same)
    (in_other others rows others_up (λ kind key. sym (same kind key)))

-- ---- rows put in order

pub in_order-ascending : (rows : List KeptRow) → are_distinct rows ≡ true → AreInOrder (ascending row_cmp rows)
in_order-ascending rows distinct =
    IsAscending-ascending row_cmp row_cmp_total rows (AreApart-are_apart row_cmp rows distinct)
