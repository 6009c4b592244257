-- The rows of an opening: the changes that put them, one after the other, leave them in order.
use Rattle.std.proofs.Common.{◌≡◌, cond, List, [], ◌∷◌, ◌++◌, Option, Some, None, map, append_assoc}
use Rattle.std.proofs.Common.{◌<◌, ◌^◌, All, append-nil, arith, inl, inr, refl, sym, ap, ◌∙◌, subst}
use Rattle.std.specs.List.{flat_map}
use Rattle.std.specs.Prelude.{Err, IfSome, Ok, OnErr, Result, not}
use Rattle.std.specs.Ordering.{is_eq, is_lt}
use Rattle.std.specs.declared.cmp.Ordering.{Ordering}
use Rattle.std.specs.declared.cmp.Ordering.TheVariants.{Less}
use Rattle.datastore_answers.specs.declared.resource_table.ResourceTable.{ResourceTable}
use Rattle.harvest_rows.specs.Rows.{job_rows, source_rows}
use Rattle.harvest_sources.specs.Sources.{SourceState}
use Rattle.packages.specs.declared.package.Package.{Package}
use Rattle.portal_base.proofs.Unique.{IsIn}
use Rattle.portal_base.proofs.Upserted.{ascending-same}
use Rattle.portal_base.specs.Ordered.{IsAscending, IsBelowAll, ascending, dropped, inserted, upserted}
use Rattle.org_roles.specs.PeopleLists.{AreSorted, PeopleLists}
use Rattle.portal_keeper.specs.Changed.{rows_after}
use Rattle.portal_keeper.specs.Keeping.{ChangesRows, KeepsRows, Shows}
use Rattle.portal_keeper.specs.Rows.{AreInOrder, kind_number, row_cmp, row_cmp_total}
use Rattle.portal_keeper.specs.declared.change.Change.TheVariants.{Put}
use Rattle.portal_keeper.specs.declared.row.KeptRow.{KeptRow}
use Rattle.portal_rows.proofs.KindLemmas.{kinds-less}
use Rattle.portal_rows.proofs.OrderLemmas.{org_rows-in_order}
use Rattle.portal_rows.specs.OrgRows.{org_rows}
use Rattle.portal_rows.specs.VersionRow.{version_row}
use Rattle.portal_state.specs.KeptRows.{AreSized, dataset_row, kept_rows, listed_rows, table_rows}
use Rattle.portal_state.specs.Opened.{opened}
use Rattle.portal_state.specs.Parts.{IsConsistent, state_of}
use Rattle.portal_state.specs.PortalValue.{AreKept, AreOfNoState, IsOpenedOver, IsReopened}
use Rattle.portal_state.specs.State.{State}
use Rattle.portal_state.specs.Values.{IsStateOf}
use Rattle.portal_state.specs.declared.opening.Opening.{Opening}
use Rattle.portal_state.specs.declared.parts.Parts.{Parts}
use Rattle.portal_state.proofs.InOrder.{org-kind}
use Rattle.portal_state.proofs.StoreLemmas.{shown_changed, shown_kept}
use Rattle.portal_core.proofs.Values.{typed-sized}

-- ---- an item after all others

-- x is above each item
abbrev IsAboveAll : {X : Type 0} → (X → X → Ordering) → X → List X → Type 0
IsAboveAll cmp x [] = Unit {0}
IsAboveAll cmp x (y ∷ ys) = (cmp y x ≡ Less) × IsAboveAll cmp x ys

below_there : {X : Type 0} (cmp : X → X → Ordering) (y x : X) (ys rest : List X)
    → IsBelowAll cmp y (ys ++ x ∷ rest) → cmp y x ≡ Less
below_there cmp y x [] rest below = below.0
below_there cmp y x (z ∷ ys) rest below = below_there cmp y x ys rest below.1

above_all : {X : Type 0} (cmp : X → X → Ordering) (x : X) (xs rest : List X) → IsAscending cmp (xs ++ x ∷ rest)
    → IsAboveAll cmp x xs
above_all cmp x [] rest up = tt
above_all cmp x (y ∷ ys) rest up = (below_there cmp y x ys rest up.0, above_all cmp x ys rest up.1)

dropped-none : {X : Type 0} (cmp : X → X → Ordering) (x : X) (xs : List X) → IsAboveAll cmp x xs
    → dropped (λ y. cmp y x) xs ≡ xs
dropped-none cmp x [] above = refl
dropped-none cmp x (y ∷ ys) above =
    ap (λ o. cond (not (is_eq o)) (y ∷ dropped (λ z. cmp z x) ys) (dropped (λ z. cmp z x) ys)) above.0
    ∙ ap (λ rest. y ∷ rest) (dropped-none cmp x ys above.1)

inserted-last : {X : Type 0} (cmp : X → X → Ordering) (x : X) (xs : List X) → IsAboveAll cmp x xs
    → inserted cmp x xs ≡ xs ++ x ∷ []
inserted-last cmp x [] above = refl
inserted-last cmp x (y ∷ ys) above =
    ap (λ o. cond (is_lt o) (y ∷ inserted cmp x ys) (x ∷ y ∷ ys)) above.0
    ∙ ap (λ rest. y ∷ rest) (inserted-last cmp x ys above.1)

upserted-last : {X : Type 0} (cmp : X → X → Ordering) (x : X) (xs : List X) → IsAboveAll cmp x xs
    → upserted cmp x xs ≡ xs ++ x ∷ []
upserted-last cmp x xs above =
    ap (inserted cmp x) (dropped-none cmp x xs above) ∙ inserted-last cmp x xs above

-- ---- rows that are put in order

puts-after : (rows base : List KeptRow) → IsAscending row_cmp (base ++ rows) → rows_after (map Put rows) base ≡ base ++ rows
puts-after [] base up = sym (append-nil base)
puts-after (row ∷ rows) base up =
    ap (rows_after (map Put rows)) (upserted-last row_cmp row base (above_all row_cmp row base rows up))
    ∙ puts-after rows (base ++ row ∷ []) (subst (IsAscending row_cmp) (sym (append_assoc base (row ∷ []) rows)) up)
    ∙ append_assoc base (row ∷ []) rows

-- ---- the rows of people

below_version : (people : PeopleLists) → IsBelowAll row_cmp version_row (org_rows people)
below_version people =
    each (org_rows people) (λ r m. org-kind people r m)
  where
    each : (rows : List KeptRow) → ((r : KeptRow) → IsIn r rows → kind_number r.kind ≡ 2)
        → IsBelowAll row_cmp version_row rows
    each [] kinds = tt
    each (r ∷ rows) kinds =
        let kind = kinds r (inl refl) in
        (kinds-less version_row r (omega (arith, kind)), each rows (λ q m. kinds q (inr m)))

people-in_order : (people : PeopleLists) → AreSorted people → AreInOrder (version_row ∷ org_rows people)
people-in_order people sorted = (below_version people, org_rows-in_order people sorted)

-- the rows of sources and jobs
abbrev harvest_rows : List SourceState → List KeptRow
harvest_rows sources = source_rows sources ++ job_rows sources

-- The changes that put the rows of people, where there is no other row, leave the rows of a state with nothing else.
pub puts-kept : (state : State) → AreSorted state.people → state.datasets ≡ [] → state.tables ≡ [] → state.sources ≡ []
    → rows_after (map Put (version_row ∷ org_rows state.people)) [] ≡ kept_rows state
puts-kept state sorted no_dataset no_table no_source =
    puts-after (version_row ∷ org_rows state.people) [] (people-in_order state.people sorted)
    ∙ sym (ascending-same row_cmp row_cmp_total (version_row ∷ org_rows state.people) (people-in_order state.people sorted))
    ∙ ap (ascending row_cmp) (sym listed)
  where
    listed : listed_rows state ≡ version_row ∷ org_rows state.people
    listed =
        ap (λ (ds : List Package). version_row ∷ (org_rows state.people
        ++ (map dataset_row ds ++ (flat_map table_rows state.tables ++ harvest_rows state.sources)))) no_dataset
        ∙ ap (λ (ts : List ResourceTable). version_row
        ∷ (org_rows state.people ++ (flat_map table_rows ts ++ harvest_rows state.sources))) no_table
        ∙ ap (λ (ss : List SourceState). version_row ∷ (org_rows state.people ++ harvest_rows ss)) no_source
        ∙ ap (λ (rows : List KeptRow). version_row ∷ rows) (append-nil (org_rows state.people))

no_tables : (tables : List ResourceTable) → tables ≡ [] → AreSized tables
no_tables tables none = subst AreSized (sym none) (record {
  numbers = λ k t below. absurd (omega (arith, below));
  next_ids = λ k t below. absurd (omega (arith, below));
})

no_sources : (sources : List SourceState) → sources ≡ []
    → All (λ (s : SourceState). s.source.next_job < 2 ^ 64) sources
no_sources sources none =
    subst (All (λ (s : SourceState). s.source.next_job < 2 ^ 64)) (sym none) (λ k s below. absurd (omega (arith, below)))

-- ---- openings

-- The parts of an opening, over a keeper that had no rows and got theirs.
pub begun_kept : (opening : Opening) (parts : Parts) (old new : Option (List KeptRow)) → IsConsistent parts
    → state_of parts ≡ opened opening → Shows old []
    → ChangesRows old (map Put (version_row ∷ org_rows parts.people.people)) new → AreKept new parts
begun_kept opening parts old new consistent is none made =
    let no_dataset : (state_of parts).datasets ≡ [] = ap (λ (s : State). s.datasets) is in
    let no_table : (state_of parts).tables ≡ [] = ap (λ (s : State). s.tables) is in
    let no_source : (state_of parts).sources ≡ [] = ap (λ (s : State). s.sources) is in
    record {
      consistent = consistent;
      sized = record {
        tables = no_tables (state_of parts).tables no_table;
        next_jobs = no_sources (state_of parts).sources no_source;
      };
      kept = shown_changed old new (map Put (version_row ∷ org_rows parts.people.people)) [] (kept_rows (state_of parts))
          none made (puts-kept (state_of parts) consistent.valid.people no_dataset no_table no_source);
    }

-- The parts of a state whose rows the keeper has.
pub resumed_kept : (opening : Opening) (parts : Parts) (rows : List KeptRow) (new : Option (List KeptRow))
    → IsConsistent parts → IsReopened opening rows (state_of parts) → Shows new rows → AreKept new parts
resumed_kept opening parts rows new consistent reopened shown = record {
  consistent = consistent;
  sized = typed-sized (state_of parts) reopened.of_rows.typed;
  kept = by new shown;
}
  where
    by : (new : Option (List KeptRow)) → Shows new rows → Shows new (kept_rows (state_of parts))
    by None shown = tt
    by (Some kept) shown = shown ∙ sym reopened.of_rows.kept

-- What the rows of a keeper lead to, if they are those that were given.
pub opened_empty : (opening : Opening) (rows : List KeptRow) (observed : Option (List KeptRow)) (state : State)
    → Shows observed rows → rows ≡ [] → state ≡ opened opening
    → IfSome observed (λ kept. IsOpenedOver opening kept state)
opened_empty opening rows None state shown none is = tt
opened_empty opening rows (Some kept) state shown none is =
    subst (λ (r : List KeptRow). IsOpenedOver opening r state) (sym (shown ∙ none)) is

pub opened_over : (opening : Opening) (rows : List KeptRow) (observed : Option (List KeptRow)) (state : State)
    → Shows observed rows → (rows ≡ [] → ⊥) → IsReopened opening rows state
    → IfSome observed (λ kept. IsOpenedOver opening kept state)
opened_over opening rows None state shown some is = tt
opened_over opening [] (Some kept) state shown some is = absurd (some refl)
opened_over opening (row ∷ rows) (Some kept) state shown some is =
    subst (λ (r : List KeptRow). IsOpenedOver opening r state) (sym shown) is

-- Rows that aren't none are of no state, if no state has them.
pub of_no_state : (rows : List KeptRow) → (rows ≡ [] → ⊥) → ((state : State) → IsStateOf rows state → ⊥) → AreOfNoState rows
of_no_state [] some none = absurd (some refl)
of_no_state (row ∷ rows) some none = none

-- Rows that were given before and after are shown after, where they were shown before.
pub shown_still : (old new : Option (List KeptRow)) (rows : List KeptRow) → Shows old rows → Shows new rows
    → IfSome old (λ kept. Shows new kept)
shown_still None new rows old_shown new_shown = tt
shown_still (Some kept) None rows old_shown new_shown = tt
shown_still (Some kept) (Some after) rows old_shown new_shown = new_shown ∙ sym old_shown

-- The same of rows that a keeper refused to change.
pub shown_refused : (old middle new : Option (List KeptRow)) (rows : List KeptRow) → Shows old rows → Shows middle rows
    → KeepsRows middle new → IfSome old (λ kept. Shows new kept)
shown_refused old middle new rows old_shown middle_shown kept =
    shown_still old new rows old_shown (shown_kept middle new rows middle_shown kept)

-- A keeper that isn't called keeps its rows.
pub kept_itself : (rows : Option (List KeptRow)) → KeepsRows rows rows
kept_itself None = tt
kept_itself (Some rows) = refl

-- Rows that a keeper refused to give are shown as they were.
pub shown_unread : (old new : Option (List KeptRow)) → KeepsRows old new → IfSome old (λ kept. Shows new kept)
shown_unread None new kept = tt
shown_unread (Some before) None kept = tt
shown_unread (Some before) (Some after) kept = let same : before ≡ after = cc in sym same

pub refused_shown : {T E : Type 0} (result : Result T E) (old middle new : Option (List KeptRow)) (rows : List KeptRow)
    → Shows old rows → Shows middle rows → OnErr result (KeepsRows middle new)
    → OnErr result (IfSome old (λ kept. Shows new kept))
refused_shown (Ok made) old middle new rows old_shown middle_shown kept = tt
refused_shown (Err fault) old middle new rows old_shown middle_shown kept =
    shown_refused old middle new rows old_shown middle_shown kept
