use Rattle.std.proofs.Common.{◌≡◌, ◌↔◌, IfNone, IfOk, IfSome, List, Err, None, Ok, Option, Result, Some, ap, subst, ℕ}
use Rattle.std.proofs.lemmas.Option.{same_Some}
use Rattle.dataset_rows.specs.Rows.{HasRow}
use Rattle.dataset_rows.proofs.RowLemmas.{one_dataset}
use Rattle.packages.specs.declared.package.Package.{Package}
use Rattle.portal_rows.proofs.kept_values.read_dataset.Goals as goal

exactly : {E : Type 0} (id body : List ℕ) (r : Result (Option Package) E)
    → IfOk r (λ found. IfSome found (HasRow id body))
    → IfOk r (λ found. IfNone found ((dataset : Package) → HasRow id body dataset → ⊥))
    → IfOk r (λ found. (dataset : Package) → (found ≡ Some dataset) ↔ HasRow id body dataset)
exactly id body (Ok None) some none = λ dataset. (λ e. absurd (cc), λ row. absurd (none dataset row))
exactly id body (Ok (Some read)) some none = λ dataset. (
  λ e. subst (HasRow id body) (same_Some read dataset e) some,
  λ row. ap Some (one_dataset id body read dataset some row),
)
exactly id body (Err e) some none = tt

pub returns : goal.returns
returns c =
    exactly c.args.id.now c.args.body.now c.from_row.result c.from_row.ensures.found c.from_row.ensures.none
