use Rattle.std.proofs.Common.{refl}
use Rattle.dataset_rows.specs.Rows.{row_text}
use Rattle.dataset_rows.proofs.RowLemmas.{row_read}
use Rattle.dataset_rows.proofs.laws.rows_are_read_back.Goals as goal

pub returns : goal.returns
returns c = λ d typed. row_read d.id (row_text d) d (record { typed = typed; named = refl; written = refl })
