-- In the order of the entries: what is in something goes before it.
use Rattle.portal_state.proofs.AloneEntries.{all-alone}
use Rattle.portal_core.proofs.laws.nothing_goes_without_an_entry.Goals as goal

pub returns : goal.returns
returns c = all-alone
