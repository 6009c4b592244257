use Rattle.facets.specs.Facets.{texts_in}
use Rattle.facets.proofs.LawLemmas.{has_text-means}
use Rattle.facets.proofs.laws.a_dataset_has_its_texts_as_values.Goals as goal

pub returns : goal.returns
returns c = λ field value dataset. has_text-means (texts_in field) value dataset
