-- The count of each text of a list in which texts repeat. No public clause cites these definitions.
use Rattle.std.specs.Prelude.{ℕ, ◌+◌, List, [], ◌∷◌, filter, length, map, cond}
use Rattle.std.specs.Str.{bytes_eq}
use Rattle.portal_base.specs.Ordered.{ascending}
use Rattle.packages.specs.Tags.{text_set}
use Rattle.facets.specs.Counts.{Facet, facet_cmp, is_value}

-- how often the text is in the list
abbrev pub occurrences : List (List ℕ) → List ℕ → ℕ
occurrences texts text = length (filter (λ t. bytes_eq t text) texts)

-- each text with the number of its occurrences, ordered as facets are
abbrev pub tallied : List (List ℕ) → List Facet
tallied texts = ascending facet_cmp (map (λ text. (text, occurrences texts text)) (text_set texts))

-- the values among an item's texts, each once
abbrev pub own_values : List (List ℕ) → List (List ℕ)
own_values texts = text_set (filter is_value texts)

-- a text before counted ones, of a list whose equal texts are next to each other
abbrev pub run_and : List ℕ → List Facet → List Facet
run_and text [] = (text, 1) ∷ []
run_and text (run ∷ runs) = cond (bytes_eq text run.0) ((run.0, run.1 + 1) ∷ runs) ((text, 1) ∷ run ∷ runs)

-- the length of the first run
abbrev pub first_count : List Facet → ℕ
first_count [] = 0
first_count (run ∷ runs) = run.1

-- the runs of equal texts, each with its length
abbrev pub runs : List (List ℕ) → List Facet
runs [] = []
runs (text ∷ texts) = run_and text (runs texts)
