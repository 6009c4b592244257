use Rattle.std.proofs.Common.{◌≡◌, ap, sym, ◌∙◌, refl, subst, List}
use Rattle.std.specs.Prelude.{Ok, All}
use Rattle.table_schema.specs.Field.{FieldValue, SchemaValue}
use Rattle.table_schema.specs.Printed.{HasValues}
use Rattle.table_schema.specs.Keys.{schema_reading}
use Rattle.table_schema.specs.Written.{schema_value}
use Rattle.table_schema.proofs.WrittenLemmas.{schema-values}
use Rattle.table_schema.proofs.schema.Schema.to_json.Goals as goal

pub fields_json-requires : goal.fields_json-requires
fields_json-requires c =
    let back : schema_reading (schema_value c.args.self.now) ≡ Ok c.args.self.now =
    cc (c.self.invariant, c.self.view_is) in
    let same : c.self.inside.fields ≡ c.args.self.now.fields = ap (λ (s : SchemaValue). s.fields) c.self.view_is in
    let values = schema-values (schema_value c.args.self.now) c.args.self.now back in
    subst (λ (l : List FieldValue). All (λ (f : FieldValue). HasValues f.constraints) l)
    (sym (c.as_slice-fields.ensures ∙ same)) values

pub returns-clause-value : goal.returns-clause-value
unfolding schema_value
returns-clause-value c =
    rw (← c.self.view_is) (
    c.into_json.ensures
    ∙ (rw c.in_ok-add-4.ensures.ok
    (rw c.in_ok-add-3.ensures.ok (rw c.in_ok-add-2.ensures.ok (rw c.in_ok-add.ensures.ok (rw c.new-members.ensures
    (rw c.in_ok-fields_json.ensures
    (rw c.in_ok-foreign_keys_json.ensures (rw c.in_ok-texts_json.ensures (rw c.in_ok-names_json.ensures
    (rw c.as_slice-fields.ensures
    (rw c.as_slice.ensures (rw c.as_slice-2.ensures (rw c.deref.ensures (rw c.as_slice-3.ensures refl)))))))))))))))

pub returns-clause-back : goal.returns-clause-back
returns-clause-back c =
    let back : schema_reading (schema_value c.args.self.now) ≡ Ok c.args.self.now =
    cc (c.self.invariant, c.self.view_is) in
    ap schema_reading (returns-clause-value c) ∙ back
