use Rattle.harvest_results.proofs.ItemLemmas.{least-below, least-found, least-none}
use Rattle.harvest_results.proofs.laws.the_least_iri_of_a_name_counts.Goals as goal

pub returns : goal.returns
returns c = record { found = least-found; least = least-below; none = least-none }
