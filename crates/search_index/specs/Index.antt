-- The index: the terms of datasets by number.
use Rattle.std.specs.Prelude.{◌≡◌, ℕ, ◌+◌, cond, List, [], ◌∷◌, ◌++◌, map, filter, Option, Some, None}
use Rattle.std.specs.declared.cmp.Ordering.{Ordering}
use Rattle.std.specs.Ordering.{nat_cmp}
use Rattle.portal_base.specs.Ordered.{dropped, upserted}
use Rattle.packages.specs.Shelf.{ShelfState}
use Rattle.packages.specs.declared.package.Package.{Package}
use Rattle.search_index.specs.Demands.{meets}
use Rattle.search_index.specs.Items.{matches}
use Rattle.search_index.specs.Terms.{terms_of}
use Rattle.search_index.specs.declared.demands.Demands.{Demands}
use Rattle.search_index.specs.declared.item.Item.{Item}

-- a number with the terms of the dataset there
abbrev pub Entry : Type 0
Entry = ℕ × List (List ℕ)

-- by number
abbrev pub entry_cmp : Entry → Entry → Ordering
entry_cmp e f = nat_cmp e.0 f.0

-- the order of an entry's number against a number
abbrev pub at_number : ℕ → Entry → Ordering
at_number n e = nat_cmp e.0 n

-- The numbers with their terms, ordered by number. Numbers below `room` can be entered without an allocation.
pub record IndexState : Type 0 where
  pub entries : List Entry
  pub room : ℕ

-- with these terms at the number, in place of those there
abbrev pub with_terms : ℕ → List (List ℕ) → IndexState → IndexState
with_terms n terms index = record index { entries = upserted entry_cmp (n, terms) index.entries }

-- without the terms at the number
abbrev pub without_number : ℕ → IndexState → IndexState
without_number n index = record index { entries = dropped (at_number n) index.entries }

-- a dataset's number with its terms
abbrev pub entry_of : ℕ × Package → Entry
entry_of e = (e.0, terms_of e.1)

-- The index has the numbers of the shelf and no others, each with the terms of the dataset there.
abbrev pub StandsFor : IndexState → ShelfState → Type 0
StandsFor index shelf = index.entries ≡ map entry_of shelf.entries

-- the numbers of the datasets that match the items, ascending
abbrev pub numbers_found : List Item → ShelfState → List ℕ
numbers_found items shelf = map (λ e. e.0) (filter (λ e. matches items e.1) shelf.entries)

-- ---- the representation: the terms at each index, if there are any

-- the entries of a table, whose first row has this number
abbrev pub entries_from : ℕ → List (Option (List (List ℕ))) → List Entry
entries_from n [] = []
entries_from n (None ∷ rows) = entries_from (n + 1) rows
entries_from n (Some terms ∷ rows) = (n, terms) ∷ entries_from (n + 1) rows

-- the number of a row, if its terms meet the demands
abbrev pub selected_at : Demands → ℕ → Option (List (List ℕ)) → List ℕ
selected_at demands n None = []
selected_at demands n (Some terms) = cond (meets demands terms) (n ∷ []) []

-- the numbers of the rows whose terms meet the demands
abbrev pub numbers_selected : Demands → ℕ → List (Option (List (List ℕ))) → List ℕ
numbers_selected demands n [] = []
numbers_selected demands n (row ∷ rows) = selected_at demands n row ++ numbers_selected demands (n + 1) rows
