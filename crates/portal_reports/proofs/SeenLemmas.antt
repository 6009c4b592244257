-- The lines of a dataset's tables are the same in the view of a caller who sees the dataset.
use Rattle.std.proofs.Common.{◌≡◌, ◌∙◌, ◌++◌, ℕ, Bool, true, false, ◌||◌, List, [], ◌∷◌, Some, ap}
use Rattle.std.proofs.Common.{find, flat_map, map, refl, sym}
use Rattle.std.specs.List.{list_any}
use Rattle.std.specs.Str.{bytes_eq}
use Rattle.std.proofs.lemmas.Slice.Eq.{bytes_eq-Decides}
use Rattle.packages.specs.Named.{is_named}
use Rattle.packages.specs.Tags.{text_set}
use Rattle.packages.specs.declared.package.Package.{Package}
use Rattle.datastore_answers.specs.Tables.{is_table_among, tables_in, tables_seen, without_room}
use Rattle.datastore_answers.specs.declared.resource_table.ResourceTable.{ResourceTable}
use Rattle.portal_reports.specs.Tables.{dataset_lines, named_lines, table_line, tables_header, tables_text}

-- one of the datasets has the id
abbrev has_id : List Package → List ℕ → Bool
has_id datasets id = list_any (λ d. bytes_eq id d.id) datasets

or-true : (b : Bool) → (b || true) ≡ true
or-true true = refl
or-true false = refl

-- A dataset that is found among them is one of them.
pub found_has_id : (key : List ℕ) (datasets : List Package) (d : Package) → find (is_named key) datasets ≡ Some d
    → has_id datasets d.id ≡ true
found_has_id key [] d found = absurd (cc)
found_has_id key (e ∷ es) d found = by (is_named key e) refl (found_has_id key es d)
  where
    by : (b : Bool) → is_named key e ≡ b → (find (is_named key) es ≡ Some d → has_id es d.id ≡ true)
        → has_id (e ∷ es) d.id ≡ true
    by true is later =
        let same : e ≡ d = cc in
        let alike : bytes_eq d.id e.id ≡ true = (bytes_eq-Decides d.id e.id).1 (sym (ap (λ x. x.id) same)) in
        rw alike refl
    by false is later =
        let beyond : find (is_named key) es ≡ Some d = cc in
        ap (λ b. bytes_eq d.id e.id || b) (later beyond) ∙ or-true (bytes_eq d.id e.id)

-- Its tables are all seen, and memory that they have ready isn't in their lines.
pub lines_seen : (datasets : List Package) (d : Package) → has_id datasets d.id ≡ true → (ts : List ResourceTable)
    → flat_map (table_line d) (tables_in d.id (tables_seen datasets (map without_room ts)))
    ≡ flat_map (table_line d) (tables_in d.id ts)
lines_seen datasets d has [] = refl
lines_seen datasets d has (t ∷ ts) =
    by (bytes_eq t.address.dataset d.id) refl (is_table_among datasets t) refl (lines_seen datasets d has ts)
  where
    by : (own : Bool) → bytes_eq t.address.dataset d.id ≡ own → (seen : Bool) → is_table_among datasets t ≡ seen
        → flat_map (table_line d) (tables_in d.id (tables_seen datasets (map without_room ts)))
        ≡ flat_map (table_line d) (tables_in d.id ts)
        → flat_map (table_line d) (tables_in d.id (tables_seen datasets (map without_room (t ∷ ts))))
        ≡ flat_map (table_line d) (tables_in d.id (t ∷ ts))
    by true own true seen more = rw (seen, own) (ap (λ lines. table_line d t ++ lines) more)
    by true own false seen more =
        let same : t.address.dataset ≡ d.id = (bytes_eq-Decides t.address.dataset d.id).0 own in
        let among : is_table_among datasets t ≡ true = ap (has_id datasets) same ∙ has in
        absurd (cc)
    by false own true seen more = rw (seen, own) more
    by false own false seen more = rw (seen, own) more

-- The lines of the tables of the dataset of this name are those of its tables.
pub named_seen : (name : List ℕ) (datasets : List Package) (d : Package) (ts : List ResourceTable)
    → find (is_named name) datasets ≡ Some d
    → named_lines datasets (tables_seen datasets (map without_room ts)) name
    ≡ flat_map (table_line d) (tables_in d.id ts)
named_seen name datasets d ts found =
    ap (dataset_lines (tables_seen datasets (map without_room ts))) found
    ∙ lines_seen datasets d (found_has_id name datasets d found) ts

-- The report is made by adding the lines of the datasets of these names to the header.
pub tables_made : (datasets : List Package) (tables : List ResourceTable) (names : List (List ℕ)) (first second : List ℕ)
    → first ≡ tables_header → second ≡ first ++ flat_map (named_lines datasets tables) names
    → names ≡ text_set (map (λ (d : Package). d.name) datasets) → second ≡ tables_text datasets tables
tables_made datasets tables names first second is_first is_second is_names =
    is_second
    ∙ ap (λ text. text ++ flat_map (named_lines datasets tables) names) is_first
    ∙ ap (λ ns. tables_header ++ flat_map (named_lines datasets tables) ns) is_names
