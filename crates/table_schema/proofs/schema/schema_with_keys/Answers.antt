use Rattle.std.proofs.Common.{◌≡◌, ap, sym, ◌∙◌}
use Rattle.std.specs.Arc.{arc_value}
use Rattle.std.specs.Prelude.{Some}
use Rattle.table_schema.specs.Keys.{missing_in, key_in, foreign_keys_in, fields_from}
use Rattle.table_schema.proofs.WrittenLemmas.{columns_few, schema_with_keys_back, schema_with_keys_parts}
use Rattle.table_schema.proofs.schema.schema_with_keys.Goals as goal

pub key_of-requires : goal.key_of-requires
key_of-requires c = rw c.as_slice.ensures.value (columns_few c.args.value.now c.args.columns.items c.requires)

pub foreign_keys_of-requires : goal.foreign_keys_of-requires
foreign_keys_of-requires c =
    rw c.as_slice-2.ensures.value (columns_few c.args.value.now c.args.columns.items c.requires)

pub fields_of-requires : goal.fields_of-requires
fields_of-requires c = columns_few c.args.value.now c.args.columns.items c.requires

pub invariant_of-result : goal.invariant_of-result
invariant_of-result c =
    let shared : arc_value c.in_ok-missing-2.missing ≡ c.in-Some.missing = c.in_ok-missing-2.ensures.ok in
    let missing_so : missing_in c.args.value.now ≡ Some (arc_value c.in_ok-missing-2.missing) =
    sym c.in_ok-missing.ensures ∙ c.in-Some.is ∙ ap Some (sym shared) in
    let key_so : key_in c.args.columns.items c.args.value.now ≡ Some c.in-Some-2.key =
    sym (rw c.as_slice.ensures.value at c.in_ok-key.ensures) ∙ c.in-Some-2.is in
    let foreign_so : foreign_keys_in c.args.columns.items c.in-Some-2.key c.args.value.now ≡ Some c.in-Some-3.foreign =
    sym (rw (c.as_slice-2.ensures.value, c.as_slice-3.ensures) at c.in_ok-foreign.ensures) ∙ c.in-Some-3.is in
    let fields_so : c.in_ok-fields.fields ≡ fields_from (arc_value c.in_ok-missing-2.missing) c.in-Some-2.key 0
    c.args.columns.items = rw c.as_slice-4.ensures at c.in_ok-fields.ensures in
    let whole = schema_with_keys_parts c.args.columns.items c.args.value.now c.in_ok-fields.fields
    (arc_value c.in_ok-missing-2.missing) c.in-Some-2.key c.in-Some-3.foreign missing_so key_so foreign_so
    fields_so in
    schema_with_keys_back c.args.columns.items c.args.value.now _ c.requires whole

pub returns : goal.returns
returns c =
    let shared : arc_value c.in_ok-missing-2.missing ≡ c.in-Some.missing = c.in_ok-missing-2.ensures.ok in
    let missing_so : missing_in c.args.value.now ≡ Some (arc_value c.in_ok-missing-2.missing) =
    sym c.in_ok-missing.ensures ∙ c.in-Some.is ∙ ap Some (sym shared) in
    let key_so : key_in c.args.columns.items c.args.value.now ≡ Some c.in-Some-2.key =
    sym (rw c.as_slice.ensures.value at c.in_ok-key.ensures) ∙ c.in-Some-2.is in
    let foreign_so : foreign_keys_in c.args.columns.items c.in-Some-2.key c.args.value.now ≡ Some c.in-Some-3.foreign =
    sym (rw (c.as_slice-2.ensures.value, c.as_slice-3.ensures) at c.in_ok-foreign.ensures) ∙ c.in-Some-3.is in
    let fields_so : c.in_ok-fields.fields ≡ fields_from (arc_value c.in_ok-missing-2.missing) c.in-Some-2.key 0
    c.args.columns.items = rw c.as_slice-4.ensures at c.in_ok-fields.ensures in
    let whole = schema_with_keys_parts c.args.columns.items c.args.value.now c.in_ok-fields.fields
    (arc_value c.in_ok-missing-2.missing) c.in-Some-2.key c.in-Some-3.foreign missing_so key_so foreign_so
    fields_so in
    sym whole
