use Rattle.std.proofs.Common.{rules, length}
use Rattle.std.specs.Prelude.{slice_index_or}
use Rattle.std.specs.Ordering.{is_lt}
use Rattle.std.proofs.lemmas.List.Sorted.{ranks_by}
use Rattle.std.proofs.lemmas.Fn.{always_returns_same}
use Rattle.table_schema.specs.declared.cell.Cell.TheVariants.{Null}
use Rattle.table_schema.specs.Order.{exact_cmp, exact_cmp_total}
use Rattle.table_schema.proofs.IndexLemmas.{AreBelow-permutation}
use Rattle.table_schema.proofs.allowed.sort_indices.Goals as goal

pub returns : goal.returns
returns c =
    let cells = c.args.cells.now in
    record {
      below = AreBelow-permutation (length cells) c.args.indices.now c.sort_unstable_by.new.self
          c.sort_unstable_by.ensures.permutation c.requires;
      ascending = c.sort_unstable_by.ensures.sorted
          (λ i j. is_lt (exact_cmp (slice_index_or cells i Null) (slice_index_or cells j Null)))
          (ranks_by exact_cmp_total (λ i. slice_index_or cells i Null))
          (always_returns_same _ _ _ (λ a r f' k. search rules));
    }
