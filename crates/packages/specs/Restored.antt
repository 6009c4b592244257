-- The lists of datasets from which a shelf can be restored.
use Rattle.std.specs.Prelude.{◌≡◌, ℕ, List, [], ◌∷◌, Bool, true, not, ◌&&◌}
use Rattle.std.specs.List.{list_any}
use Rattle.packages.specs.Named.{is_named}
use Rattle.packages.specs.declared.package.Package.{Package}

-- one of the datasets has this id or this name
abbrev pub is_in_use : List ℕ → List Package → Bool
is_in_use key datasets = list_any (is_named key) datasets

-- none of the datasets has this one's id or its name as its id or its name
abbrev pub is_free : Package → List Package → Bool
is_free dataset datasets = not (is_in_use dataset.id datasets) && not (is_in_use dataset.name datasets)

-- No text is the id or the name of two of the datasets. The id of a dataset may be its own name.
abbrev pub have_unique_keys : List Package → Bool
have_unique_keys [] = true
have_unique_keys (d ∷ ds) = is_free d ds && have_unique_keys ds

-- no text is the id or the name of both datasets
abbrev pub ShareNoKey : Package → Package → Type 0
ShareNoKey d e = (key : List ℕ) → is_named key d ≡ true → is_named key e ≡ true → ⊥
