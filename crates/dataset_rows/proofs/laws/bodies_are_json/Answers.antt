use Rattle.dataset_rows.specs.Rows.{row_json, row_text}
use Rattle.dataset_rows.proofs.ReadBack.{json_reading-Ok}
use Rattle.dataset_rows.proofs.RowLemmas.{json_read-row_text}
use Rattle.dataset_rows.proofs.laws.bodies_are_json.Goals as goal

pub returns : goal.returns
returns c = λ d typed utf8. json_reading-Ok (row_text d) (row_json d) utf8 (json_read-row_text d typed)
