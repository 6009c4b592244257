-- The keys of a sort: which of them decides how two datasets stand.
use Rattle.std.proofs.Common.{◌≡◌, ◌≢◌, ◌∙◌, Bool, true, false, ◌||◌, List, [], ◌∷◌, ◌++◌, append-nil, ap, fold}
use Rattle.std.proofs.Common.{refl, sym}
use Rattle.std.specs.Prelude.{if◌then◌else◌}
use Rattle.std.specs.List.{All}
use Rattle.std.specs.Ordering.{ordering_reverse, ordering_then}
use Rattle.std.specs.declared.cmp.Ordering.{Ordering}
use Rattle.std.specs.declared.cmp.Ordering.TheVariants.{Less, Equal, Greater}
use Rattle.std.proofs.lemmas.List.{append_assoc}
use Rattle.std.proofs.lemmas.List.Elements.{All-head, All-tail}
use Rattle.packages.specs.declared.package.Package.{Package}
use Rattle.sorted_pages.specs.Direction.{turned}
use Rattle.sorted_pages.specs.declared.direction.Direction.{Direction}
use Rattle.sorted_pages.specs.declared.direction.Direction.TheVariants.{Ascending, Descending}
use Rattle.dataset_search.specs.Order.{field_cmp, field_cmp_total, key_cmp, name_cmp, search_cmp}
use Rattle.dataset_search.specs.Sort.{deciding, has_field, is_same_field, with_key}
use Rattle.dataset_search.specs.declared.sort.SortField.{SortField}
use Rattle.dataset_search.specs.declared.sort.SortField.TheVariants.{Created, Modified, Name, Score, Title}
use Rattle.dataset_search.specs.declared.sort.SortKey.{SortKey}

-- ---- keys on one field

same-field : (field other : SortField) → is_same_field field other ≡ true → field ≡ other
same-field Name Name e = refl
same-field Name Title e = absurd (cc)
same-field Name Modified e = absurd (cc)
same-field Name Created e = absurd (cc)
same-field Name Score e = absurd (cc)
same-field Title Name e = absurd (cc)
same-field Title Title e = refl
same-field Title Modified e = absurd (cc)
same-field Title Created e = absurd (cc)
same-field Title Score e = absurd (cc)
same-field Modified Name e = absurd (cc)
same-field Modified Title e = absurd (cc)
same-field Modified Modified e = refl
same-field Modified Created e = absurd (cc)
same-field Modified Score e = absurd (cc)
same-field Created Name e = absurd (cc)
same-field Created Title e = absurd (cc)
same-field Created Modified e = absurd (cc)
same-field Created Created e = refl
same-field Created Score e = absurd (cc)
same-field Score Name e = absurd (cc)
same-field Score Title e = absurd (cc)
same-field Score Modified e = absurd (cc)
same-field Score Created e = absurd (cc)
same-field Score Score e = refl

-- Datasets are tied in one direction exactly if they are tied in the other.
turned-tied : (direction : Direction) (field : SortField) (one other : Package)
    → turned direction (field_cmp field) one other ≡ Equal → field_cmp field one other ≡ Equal
turned-tied Ascending field one other e = e
turned-tied Descending field one other e = (field_cmp_total field).antisymm one other ∙ ap ordering_reverse e

tied-turned : (direction : Direction) (field : SortField) (one other : Package) → field_cmp field one other ≡ Equal
    → turned direction (field_cmp field) one other ≡ Equal
tied-turned Ascending field one other e = e
tied-turned Descending field one other e = (field_cmp_total field).antisymm other one ∙ ap ordering_reverse e

-- Datasets that one key ties are tied by each key on its field.
tied-alike : (key again : SortKey) (one other : Package) → is_same_field key.field again.field ≡ true
    → key_cmp key one other ≡ Equal → key_cmp again one other ≡ Equal
tied-alike key again one other same e =
    tied-turned again.direction again.field one other
    (ap (λ field. field_cmp field one other) (sym (same-field key.field again.field same))
    ∙ turned-tied key.direction key.field one other e)

-- ---- keys that decide nothing

-- a key that ties the datasets
tied-left_out : (key : SortKey) (before after : List SortKey) (one other : Package) → key_cmp key one other ≡ Equal
    → search_cmp (before ++ key ∷ after) one other ≡ search_cmp (before ++ after) one other
tied-left_out key [] after one other tied = ap (λ r. ordering_then r (search_cmp after one other)) tied
tied-left_out key (k ∷ before) after one other tied =
    ap (ordering_then (key_cmp k one other)) (tied-left_out key before after one other tied)

-- What comes after a key matters only where it ties the datasets.
then-same : (r s t : Ordering) → (r ≡ Equal → s ≡ t) → ordering_then r s ≡ ordering_then r t
then-same Less s t same = refl
then-same Equal s t same = same refl
then-same Greater s t same = refl

-- a key on a field that an earlier one is on
again-left_out : (key : SortKey) (before after : List SortKey) (one other : Package) → has_field key.field before ≡ true
    → search_cmp (before ++ key ∷ after) one other ≡ search_cmp (before ++ after) one other
again-left_out key [] after one other has = absurd (cc)
again-left_out key (k ∷ before) after one other has =
    by (is_same_field k.field key.field) refl has (again-left_out key before after one other)
  where
    by : (b : Bool) → is_same_field k.field key.field ≡ b → (b || has_field key.field before) ≡ true
        → (has_field key.field before ≡ true
        → search_cmp (before ++ key ∷ after) one other ≡ search_cmp (before ++ after) one other)
        → search_cmp ((k ∷ before) ++ key ∷ after) one other ≡ search_cmp ((k ∷ before) ++ after) one other
    by true same either rest =
        then-same (key_cmp k one other) (search_cmp (before ++ key ∷ after) one other)
        (search_cmp (before ++ after) one other)
        (λ tied. tied-left_out key before after one other (tied-alike k key one other same tied))
    by false same either rest = ap (ordering_then (key_cmp k one other)) (rest either)

deciding-from : (so_far keys : List SortKey) (one other : Package)
    → search_cmp (fold with_key so_far keys) one other ≡ search_cmp (so_far ++ keys) one other
deciding-from so_far [] one other = ap (λ ks. search_cmp ks one other) (sym (append-nil so_far))
deciding-from so_far (key ∷ keys) one other =
    by (has_field key.field so_far) refl (λ before. deciding-from before keys one other)
  where
    by : (b : Bool) → has_field key.field so_far ≡ b
        → ((before : List SortKey)
        → search_cmp (fold with_key before keys) one other ≡ search_cmp (before ++ keys) one other)
        → search_cmp (fold with_key (if b then so_far else so_far ++ key ∷ []) keys) one other
        ≡ search_cmp (so_far ++ key ∷ keys) one other
    by true has rest = rest so_far ∙ sym (again-left_out key so_far keys one other has)
    by false has rest =
        rest (so_far ++ key ∷ [])
        ∙ ap (λ ks. search_cmp ks one other) (append_assoc so_far (key ∷ []) keys)

-- The keys but those on a field named again order datasets as all keys do.
pub deciding-decide : (keys : List SortKey) (one other : Package)
    → search_cmp (deciding keys) one other ≡ search_cmp keys one other
deciding-decide keys one other = deciding-from [] keys one other

-- ---- the key that decides

-- Keys that tie two datasets leave it to the keys after them.
tied-before : (before after : List SortKey) (one other : Package) → All (λ key. key_cmp key one other ≡ Equal) before
    → search_cmp (before ++ after) one other ≡ search_cmp after one other
tied-before [] after one other tied = refl
tied-before (key ∷ before) after one other tied =
    ap (λ r. ordering_then r (search_cmp (before ++ after) one other))
    (All-head (λ k. key_cmp k one other ≡ Equal) key before tied)
    ∙ tied-before before after one other (All-tail (λ k. key_cmp k one other ≡ Equal) key before tied)

pub tied-names : (keys : List SortKey) (one other : Package) → All (λ key. key_cmp key one other ≡ Equal) keys
    → search_cmp keys one other ≡ name_cmp one other
tied-names keys one other tied =
    ap (λ ks. search_cmp ks one other) (sym (append-nil keys)) ∙ tied-before keys [] one other tied

apart-first : (r s : Ordering) → r ≢ Equal → ordering_then r s ≡ r
apart-first Less s apart = refl
apart-first Equal s apart = absurd (apart refl)
apart-first Greater s apart = refl

pub first-decides : (before after : List SortKey) (key : SortKey) (one other : Package)
    → All (λ k. key_cmp k one other ≡ Equal) before → key_cmp key one other ≢ Equal
    → search_cmp (before ++ key ∷ after) one other ≡ key_cmp key one other
first-decides before after key one other tied apart =
    tied-before before (key ∷ after) one other tied
    ∙ apart-first (key_cmp key one other) (search_cmp after one other) apart
