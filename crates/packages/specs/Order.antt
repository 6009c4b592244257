-- The order of datasets: by the bytes of their ids.
use Rattle.std.specs.declared.cmp.Ordering.{Ordering}
use Rattle.std.specs.Ordering.{nat_cmp}
use Rattle.std.specs.Cmp.{IsTotalOrder}
use Rattle.std.specs.Cmp.Lexicographic.{slice_cmp}
use Rattle.std.proofs.lemmas.Cmp.{on_total, nat_list_cmp_total}
use Rattle.packages.specs.declared.package.Package.{Package}

-- by id
abbrev pub dataset_cmp : Package → Package → Ordering
dataset_cmp d e = slice_cmp nat_cmp d.id e.id

-- The order is total.
pub dataset_cmp_total : IsTotalOrder dataset_cmp
dataset_cmp_total = on_total (λ d. d.id) nat_list_cmp_total
