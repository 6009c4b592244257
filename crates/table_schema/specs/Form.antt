-- The types of fields (Table Schema v1, "Types and formats").
use Rattle.table_schema.specs.declared.form.Form.{Form}
use Rattle.table_schema.specs.declared.form.Form.TheVariants as form
use Rattle.table_schema.specs.declared.form.Kind.{Kind}
use Rattle.table_schema.specs.declared.form.Kind.TheVariants as kind

-- the type of a field, without the options of its texts
abbrev pub kind_of : Form → Kind
kind_of form.Text = kind.Text
kind_of (form.Integer bare) = kind.Integer
kind_of (form.Number spelling) = kind.Number
kind_of (form.Boolean truths) = kind.Boolean
kind_of form.Date = kind.Date
kind_of form.Time = kind.Time
kind_of form.Datetime = kind.Datetime
kind_of form.Year = kind.Year
kind_of form.YearMonth = kind.YearMonth
