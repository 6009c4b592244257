-- What a shelf's contracts imply about its datasets by id, for the crates above.
use Rattle.std.proofs.Common.{◌≡◌, ℕ, ◌+◌, ◌<◌, Bool, true, false, List, [], ◌∷◌, ◌++◌, Option, Some, None, refl, sym, ap, ◌∙◌}
use Rattle.std.proofs.Common.{get_or, length, take}
use Rattle.std.specs.Bool.{then_some}
use Rattle.std.specs.Prelude.{filter, find, is_some, IsTrue}
use Rattle.std.specs.Option.{option_and_then, option_map}
use Rattle.std.specs.List.{cons_option}
use Rattle.std.proofs.lemmas.List.{take_more}
use Rattle.std.proofs.lemmas.List.Elements.{filter_map-append}
use Rattle.portal_base.proofs.Unique.{IsIn}
use Rattle.packages.specs.Named.{has_address, is_named, position_of, located_at, resource_in, resource_named}
use Rattle.packages.specs.Shelf.{ShelfState, IsValidShelf, package_at, datasets_at, number_in, datasets_of}
use Rattle.packages.specs.declared.package.Package.{Package}
use Rattle.packages.proofs.DatasetLemmas.{datasets-IsIn, IsIn-datasets}
use Rattle.packages.proofs.FindLemmas.{IsIn-find, find-none, none-find, find-alone, find-kept_alone, find-narrowed}
use Rattle.packages.proofs.FindLemmas.{IsAlone, IsAlone-filter}
use Rattle.packages.proofs.ShelfInvariantLemmas.{same_some}
use Rattle.packages.proofs.EntryLemmas.{package_at-IsIn}

-- entries with the same key are at the same number
one_entry : (s : ShelfState) → IsValidShelf s → (key : List ℕ) (x y : ℕ × Package) → IsIn x s.entries → IsIn y s.entries
    → is_named key x.1 ≡ true → is_named key y.1 ≡ true → x.0 ≡ y.0
one_entry s valid key x y m n named also =
    valid.apart key x.0 y.0 x.1 y.1 (package_at-IsIn x.0 x.1 s.entries valid.numbers m)
    (package_at-IsIn y.0 y.1 s.entries valid.numbers n) named also

-- Each dataset is at a number.
pub number_of_member : (s : ShelfState) → IsValidShelf s → (d : Package) → IsIn d (datasets_of s)
    → (n : ℕ) × (package_at n s ≡ Some d)
number_of_member s valid d m =
    let w = datasets-IsIn d s.entries m in (w.0, package_at-IsIn w.0 d s.entries valid.numbers w.1)

-- Only one dataset has this id or this name.
pub named_alone : (key : List ℕ) (s : ShelfState) → IsValidShelf s → IsAlone (is_named key) (datasets_of s)
named_alone key s valid d e m n named also =
    let v = datasets-IsIn d s.entries m in
    let w = datasets-IsIn e s.entries n in
    let number : v.0 ≡ w.0 = one_entry s valid key (v.0, d) (w.0, e) v.1 w.1 named also in
    same_some d e
    (sym (package_at-IsIn v.0 d s.entries valid.numbers v.1) ∙ ap (λ n. package_at n s) number
    ∙ package_at-IsIn w.0 e s.entries valid.numbers w.1)

-- The dataset with an id or a name is the one at the number of that id or name.
pub find_named : (key : List ℕ) (s : ShelfState) → IsValidShelf s
    → find (is_named key) (datasets_of s) ≡ option_and_then (λ n. package_at n s) (number_in key s)
find_named key s valid = by (find (λ e. is_named key e.1) s.entries) refl
  where
    by : (o : Option (ℕ × Package)) → find (λ e. is_named key e.1) s.entries ≡ o
        → find (is_named key) (datasets_of s) ≡ option_and_then (λ n. package_at n s) (option_map (λ e. e.0) o)
    by None is =
        none-find (is_named key) (datasets_of s)
        (λ d m. let w = datasets-IsIn d s.entries m in
        find-none (λ e. is_named key e.1) (w.0, d) s.entries is w.1)
    by (Some e) is =
        let there = IsIn-find (λ e. is_named key e.1) e s.entries is in
        let is_at : package_at e.0 s ≡ Some e.1 = package_at-IsIn e.0 e.1 s.entries valid.numbers there.0 in
        let among = IsIn-datasets e.0 e.1 s.entries there.0 in
        find-alone (is_named key) e.1 (datasets_of s) among there.1
        (λ d m named. named_alone key s valid d e.1 m among named there.1)
        ∙ sym is_at

-- Among the kept datasets it is found if it is kept.
pub find_named_kept : (key : List ℕ) (q : Package → Bool) (s : ShelfState) → IsValidShelf s
    → find (is_named key) (filter q (datasets_of s))
    ≡ option_and_then (λ d. then_some (q d) d) (option_and_then (λ n. package_at n s) (number_in key s))
find_named_kept key q s valid =
    find-kept_alone (is_named key) q (datasets_of s) (named_alone key s valid)
    ∙ ap (option_and_then (λ d. then_some (q d) d)) (find_named key s valid)

-- A dataset without such a resource gives none.
no_resource_in : (address : List ℕ) (d : Package) → has_address address d ≡ false → resource_in address d ≡ None
no_resource_in address d none = by (position_of address d) none
  where
    by : (o : Option ℕ) → is_some o ≡ false → option_and_then (located_at d) o ≡ None
    by None is = refl
    by (Some position) is = absurd (cc)

-- If only datasets with this id or name have the address, the resource is that of the dataset with this id or name.
pub resource_by_name : (address key : List ℕ) (q : Package → Bool) (s : ShelfState) → IsValidShelf s
    → ((d : Package) → IsTrue (has_address address d) → IsTrue (is_named key d))
    → resource_named (filter q (datasets_of s)) address
    ≡ option_and_then (resource_in address) (find (is_named key) (filter q (datasets_of s)))
resource_by_name address key q s valid named =
    find-narrowed (has_address address) (is_named key) (resource_in address) (filter q (datasets_of s))
    (IsAlone-filter (is_named key) q (datasets_of s) (named_alone key s valid)) named (no_resource_in address)

-- One number more adds the dataset there.
pub datasets_at-more : (shelf : ShelfState) (numbers : List ℕ) (i : ℕ) (d : Package) → i < length numbers
    → package_at (get_or numbers i 0) shelf ≡ Some d
    → datasets_at shelf (take (i + 1) numbers) ≡ datasets_at shelf (take i numbers) ++ d ∷ []
datasets_at-more shelf numbers i d within there =
    ap (datasets_at shelf) (take_more numbers i 0 within)
    ∙ filter_map-append (λ number. package_at number shelf) (take i numbers) (get_or numbers i 0 ∷ [])
    ∙ ap (λ o. datasets_at shelf (take i numbers) ++ cons_option o []) there
