use Rattle.std.proofs.Common.{◌∙◌, ap, sym}
use Rattle.table_schema.specs.Field.{FieldValue}
use Rattle.table_schema.specs.Reading.{value_reading}
use Rattle.table_schema.proofs.CellLemmas.{kept-IsValue, of_json-answers, value_read-IsValue}
use Rattle.table_schema.proofs.field.Field.of_json.Goals as goal

pub returns-in_ok-value_of-in_default : goal.returns-in_ok-value_of-in_default
returns-in_ok-value_of-in_default c =
    let read = c.in_ok-value_of-in_default.ensures.cell ∙ ap (λ k. value_reading k c.args.value.now) c.kind.ensures in
    let answers = of_json-answers c.args.self.now c.self.inside.form c.self.inside.constraints c.args.value.now
    c.in_ok-value_of-in_default.field-0 c.kept.result (sym (ap (λ (f : FieldValue). f.form) c.self.view_is))
    (sym (ap (λ (f : FieldValue). f.constraints) c.self.view_is)) c.in_default.not-Null read c.kept.ensures.cell
    c.kept.ensures.fault in
    record {
      cell = answers.0;
      value = kept-IsValue c.kept.result c.self.inside.constraints c.in_ok-value_of-in_default.field-0
          c.kept.ensures.cell
          (value_read-IsValue c.kind.result c.args.value.now c.in_ok-value_of-in_default.field-0
          c.in_ok-value_of-in_default.ensures.cell);
      fault = answers.1;
      memory = λ e. absurd (c.kept.ensures.memory e);
    }
