use Rattle.std.proofs.Common.{◌≡◌, ◌∙◌, ◌<◌, ◌≤◌, true, length, codes, sym, ap, arith}
use Rattle.std.proofs.lemmas.Bool.Decides.{nat_tests}
use Rattle.std.specs.Prelude.{Some, Ok}
use Rattle.std.specs.List.{list_all}
use Rattle.portal_base.specs.Kinds.{list_in, present}
use Rattle.table_schema.specs.Values.{is_map}
use Rattle.table_schema.proofs.ColumnLemmas.{field_items-of}
use Rattle.table_schema.proofs.column.field_items.Goals as goal

pub returns-clause-items : goal.returns-clause-items
returns-clause-items c =
    let dictionary : is_map c.args.value.now ≡ true = cc in
    let there : present (codes "fields") c.args.value.now ≡ Some c.in-Some.fields.now = sym c.in-Some.ensures in
    let list : list_in c.in-Some.fields.now ≡ Some c.as_slice-listed.result.now = cc (c.in-Some-list_in.ensures) in
    let some : 0 < length c.as_slice-listed.result.now = grind (arith, nat_tests) in
    let few : length c.as_slice-listed.result.now ≤ 500 = omega arith in
    let all : list_all is_map c.as_slice-listed.result.now ≡ true = cc in
    field_items-of _ _ _ dictionary there list some few all ∙ ap Ok c.as_slice-listed.ensures
