use Rattle.std.proofs.Common.{◌∙◌, List, ap, map, filter}
use Rattle.visibility.specs.Visibility.{class_for}
use Rattle.facets.specs.Counters.{Entry}
use Rattle.facets.specs.Counts.{count_with, counts_by}
use Rattle.facets.specs.Facets.{texts_in}
use Rattle.facets.specs.Facts.{facts_of, is_one_of, same_class, texts_at}
use Rattle.facets.proofs.EntryLemmas.{count_with-map, counts_by-map, facts-of_class, texts_at-facts_of}
use Rattle.facets.proofs.laws.counters_count_the_datasets.Goals as goal

pub returns : goal.returns
returns c = record {
  count = λ counters datasets class field value stands.
      ap (λ (entries : List Entry). count_with (texts_at field) value
      (filter (λ facts. same_class facts.class class) (map (λ e. e.1) entries))) stands
      ∙ ap (count_with (texts_at field) value) (facts-of_class (λ other. same_class other class) datasets)
      ∙ count_with-map facts_of (texts_at field) (texts_in field) (texts_at-facts_of field) value
      (filter (λ d. same_class (class_for d) class) datasets);
  tally = λ counters datasets classes field stands.
      ap (λ (entries : List Entry). counts_by (texts_at field)
      (filter (λ facts. is_one_of classes facts.class) (map (λ e. e.1) entries))) stands
      ∙ ap (counts_by (texts_at field)) (facts-of_class (is_one_of classes) datasets)
      ∙ counts_by-map facts_of (texts_at field) (texts_in field) (texts_at-facts_of field)
      (filter (λ d. is_one_of classes (class_for d)) datasets);
}
