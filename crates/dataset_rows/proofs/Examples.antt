-- Worked examples: the row of a dataset, and what is read of values that are no dataset's.
use Rattle.std.proofs.Common.{◌≡◌, false, [], ◌∷◌, ◌++◌, refl, rules}
use Rattle.std.specs.Prelude.{codes, pos}
use Rattle.std.specs.Fmt.{digits}
use Rattle.serde_json.proofs.OnLiterals.{serde_json_on_literals}
use Rattle.portal_base.specs.Json.{json_text}
use Rattle.portal_base.specs.MomentText.{moment_text, count_off}
use Rattle.portal_base.specs.declared.json_value.Json.{Json, the_lemmas}
use Rattle.portal_base.specs.declared.json_value.Json as json
use Rattle.packages.specs.Package.{fresh_package}
use Rattle.packages.specs.State.{state_name}
use Rattle.packages.specs.declared.package.Package.{Package}
use Rattle.packages.specs.declared.package.Resource.{Resource}
use Rattle.packages.specs.declared.package.State.TheVariants.{Draft, Active, Deleted}
use Rattle.dataset_rows.specs.Reading.{number_of, state_named, text_of, truth_of}
use Rattle.dataset_rows.specs.Rows.{row_text, resource_json}
use Rattle.dataset_rows.proofs.ReadBack.{data_of-List, data_of-Map, data_of-Text, data_of-Truth, data_of-Whole}

abbrev counts : Resource
counts = record {
  number = 1;
  name = codes "counts";
  url = codes "http://city.example/counts.csv";
  format = codes "CSV";
  description = codes "one \"row\" a tree";
  mimetype = [];
}

abbrev trees : Package
trees = record (fresh_package (codes "7") (codes "trees") (codes "Trees") (codes "city") (codes "ann")
    (pos 1704067200)) {
      state = Draft;
      tags = codes "green" ∷ codes "parks" ∷ [];
      resources = counts ∷ [];
      next_resource = 2;
    }

-- ---- rows

row_of_counts : json_text (resource_json counts)
    ≡ codes "{\"description\":\"one \\\"row\\\" a tree\",\"format\":\"CSV\",\"mimetype\":\"\",\"name\":\"counts\""
    ++ codes ",\"number\":1,\"url\":\"http://city.example/counts.csv\"}"
unfolding serde_json_on_literals digits
row_of_counts = simp (data_of-Map, data_of-Text, data_of-Whole)

-- the id isn't in the body
row_of_trees : row_text trees
    ≡ codes "{\"author\":\"\",\"created\":\"2024-01-01T00:00:00\",\"creator\":\"ann\",\"iri\":\"\",\"license_id\":\"\""
    ++ codes ",\"maintainer\":\"\",\"modified\":\"2024-01-01T00:00:00\",\"name\":\"trees\",\"next_resource\":2"
    ++ codes ",\"notes\":\"\",\"owner_org\":\"city\",\"private\":false,\"resources\":[" ++ json_text (resource_json counts)
    ++ codes "],\"source\":\"\",\"state\":\"draft\",\"tags\":[\"green\",\"parks\"],\"title\":\"Trees\",\"url\":\"\""
    ++ codes ",\"version\":\"\"}"
unfolding row_text serde_json_on_literals digits moment_text count_off
row_of_trees = simp (data_of-Map, data_of-List, data_of-Text, data_of-Truth, data_of-Whole)

deleted : state_named (state_name Deleted) ≡ Deleted
deleted = refl

-- ---- values of other kinds

absent : text_of (codes "name") (json.Map []) ≡ []
unfolding text_of
absent = search (rules, the_lemmas)

text_for_a_number : number_of (codes "number") (json.Map ((codes "number", json.Text (codes "7")) ∷ [])) ≡ 0
unfolding number_of
text_for_a_number = search (rules, the_lemmas)

-- 2 ^ 32 is no `u32`
large : number_of (codes "number") (json.Map ((codes "number", json.Whole (pos 4294967296)) ∷ [])) ≡ 0
unfolding number_of
large = search (rules, the_lemmas)

null_for_a_truth : truth_of (codes "private") (json.Map ((codes "private", json.Null) ∷ [])) ≡ false
unfolding truth_of
null_for_a_truth = search (rules, the_lemmas)

-- an unknown state is read as active, which has another row
unknown_state : state_named (codes "gone") ≡ Active
unknown_state = refl
