use Rattle.std.proofs.Common.{refl}
use Rattle.sqlite_tied.specs.Compute.{everything}
use Rattle.keeper_sqlite.proofs.laws.the_made_table_has_the_form.Goals as goal
use Rattle.keeper_sqlite.specs.Statements.{make_text}

pub returns : goal.returns
unfolding make_text everything
returns c = refl
