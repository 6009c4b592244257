use Rattle.std.proofs.Common.{rules, length, []}
use Rattle.std.specs.Prelude.{slice_index_or}
use Rattle.std.specs.Ordering.{is_lt, nat_cmp}
use Rattle.std.specs.Cmp.Lexicographic.{slice_cmp, nat_list_cmp_total}
use Rattle.std.proofs.lemmas.List.Sorted.{ranks_by}
use Rattle.std.proofs.lemmas.Fn.{always_returns_same}
use Rattle.table_schema.proofs.IndexLemmas.{AreBelow-permutation}
use Rattle.table_schema.proofs.listed.sort_indices.Goals as goal

pub returns : goal.returns
returns c =
    let texts = c.args.texts.now in
    record {
      below = AreBelow-permutation (length texts) c.args.indices.now c.sort_unstable_by.new.self
          c.sort_unstable_by.ensures.permutation c.requires;
      ascending = c.sort_unstable_by.ensures.sorted
          (λ i j. is_lt (slice_cmp nat_cmp (slice_index_or texts i []) (slice_index_or texts j [])))
          (ranks_by nat_list_cmp_total (λ i. slice_index_or texts i []))
          (always_returns_same _ _ _ (λ a r f' k. search rules));
    }
