-- The items of a query: what each asks of a dataset's terms.
use Rattle.std.specs.Prelude.{ℕ, Bool, not, cond, List, nat_eq}
use Rattle.std.specs.List.{list_all, list_any, starts_with}
use Rattle.std.specs.Str.{bytes_eq}
use Rattle.packages.specs.declared.package.Package.{Package}
use Rattle.search_index.specs.Terms.{terms_of}
use Rattle.search_index.specs.declared.item.Item.{Item}
use Rattle.search_index.specs.declared.item.Test.{Test}
use Rattle.search_index.specs.declared.item.Test.TheVariants.{Term, Prefix}

-- one of the terms is this one
abbrev pub has_term : List (List ℕ) → List ℕ → Bool
has_term terms term = list_any (λ other. bytes_eq other term) terms

-- one of the terms begins with this prefix
abbrev pub has_prefix : List (List ℕ) → List ℕ → Bool
has_prefix terms prefix = list_any (λ term. starts_with nat_eq term prefix) terms

-- whether terms pass a test
abbrev pub passes : List (List ℕ) → Test → Bool
passes terms (Term term) = has_term terms term
passes terms (Prefix prefix) = has_prefix terms prefix

-- whether they pass all tests
abbrev pub passes_all : List (List ℕ) → List Test → Bool
passes_all terms tests = list_all (passes terms) tests

-- An item selects terms that pass all its tests, and an excluding item those that don't.
abbrev pub selects : List (List ℕ) → Item → Bool
selects terms item = cond item.is_excluding (not (passes_all terms item.tests)) (passes_all terms item.tests)

-- whether all items select the terms
abbrev pub all_select : List Item → List (List ℕ) → Bool
all_select items terms = list_all (selects terms) items

-- whether a dataset matches the items of a query
abbrev pub matches : List Item → Package → Bool
matches items dataset = all_select items (terms_of dataset)
