use Rattle.facets.proofs.LawLemmas.{one_of-means, same_class-means}
use Rattle.facets.proofs.laws.equal_classes_are_the_same.Goals as goal

pub returns : goal.returns
returns c = record { same = same_class-means; among = one_of-means }
