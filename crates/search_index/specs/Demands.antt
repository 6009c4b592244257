-- What the items of a query demand, put together.
use Rattle.std.specs.Prelude.{◌≡◌, ℕ, Bool, not, ◌&&◌, List}
use Rattle.std.specs.List.{list_any}
use Rattle.search_index.specs.Items.{all_select, has_term, passes_all}
use Rattle.search_index.specs.declared.demands.Demands.{Demands}
use Rattle.search_index.specs.declared.item.Item.{Item}

-- The terms pass all required tests. None of them is excluded, and they don't pass all tests of any excluding item.
abbrev pub meets : Demands → List (List ℕ) → Bool
meets demands terms =
    passes_all terms demands.tests.items
    && (not (list_any (has_term terms) demands.excluded_terms.items)
    && not (list_any (λ tests. passes_all terms tests.items) demands.excluded.items))

-- what the demands mean: terms meet them exactly if all the items select the terms
abbrev pub Means : Demands → List Item → Type 0
Means demands items = (terms : List (List ℕ)) → meets demands terms ≡ all_select items terms
