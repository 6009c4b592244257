use Rattle.portal_base.proofs.IdForms.{id_is_no_name}
use Rattle.portal_base.proofs.value_laws.an_id_is_no_name.Goals as goal

pub returns : goal.returns
returns c = id_is_no_name
