use Rattle.std.proofs.Common.{◌≡◌, ap, sym, ◌∙◌, map, true, false}
use Rattle.std.specs.Str.{bytes_eq}
use Rattle.table_schema.specs.declared.column.Column.{Column}
use Rattle.table_schema.specs.declared.fault.SchemaFault.TheVariants.{BadConstraint}
use Rattle.table_schema.specs.Descriptor.{name_reading, kind_reading, format_reading, pattern_reading, column_reading}
use Rattle.table_schema.specs.Truth.{is_among}
use Rattle.table_schema.specs.Values.{or_fault}
use Rattle.table_schema.proofs.ColumnLemmas.{list_any-map, refused, gives_err}
use Rattle.table_schema.proofs.DescriptorLemmas.{name_fault, taken_fault, new_so, kind_fault_so, kind_so}
use Rattle.table_schema.proofs.DescriptorLemmas.{format_fault_so, format_so, pattern_fault_so, pattern_so}
use Rattle.table_schema.proofs.column.column_of.Goals as goal

pub returns-in_err-name : goal.returns-in_err-name
returns-in_err-name c =
    let number = c.args.number in
    let names = map (λ (x : Column). x.name) c.args.before.now in
    let item = c.args.item.now in
    let fault = c.in_err-name.field-0.0 in
    gives_err (λ x. x) c.from_residual.result (column_reading number names item) fault c.from_residual.ensures.1
    (refused fault (name_reading number item) (column_reading number names item)
    (λ e. name_fault number names item fault e) c.in_err-name.ensures.name)

pub returns-then-is_taken : goal.returns-then-is_taken
returns-then-is_taken c =
    let number = c.args.number in
    let names = map (λ (x : Column). x.name) c.args.before.now in
    let item = c.args.item.now in
    let name = c.in_ok-name.name.now in
    let old : is_among names name ≡ true =
    list_any-map (λ (x : Column). x.name) (λ t. bytes_eq t name) c.args.before.now ∙ sym c.if-is_taken.ensures in
    taken_fault number names item name c.in_ok-name.ensures.name old

pub returns-in_err-kind : goal.returns-in_err-kind
returns-in_err-kind c =
    let number = c.args.number in
    let names = map (λ (x : Column). x.name) c.args.before.now in
    let item = c.args.item.now in
    let name = c.in_ok-name.name.now in
    let new : is_among names name ≡ false =
    list_any-map (λ (x : Column). x.name) (λ t. bytes_eq t name) c.args.before.now ∙ sym c.if-is_taken.ensures in
    let named = new_so number names item name c.in_ok-name.ensures.name new in
    let fault = c.in_err-kind.field-0.0 in
    gives_err (λ x. x) c.from_residual-in_err-kind.result (column_reading number names item) fault
    c.from_residual-in_err-kind.ensures.1
    (refused fault (kind_reading number item) (column_reading number names item)
    (λ e. named ∙ kind_fault_so number item name fault e) c.in_err-kind.ensures.kind)

pub returns-in_err-validate_format : goal.returns-in_err-validate_format
returns-in_err-validate_format c =
    let number = c.args.number in
    let names = map (λ (x : Column). x.name) c.args.before.now in
    let item = c.args.item.now in
    let name = c.in_ok-name.name.now in
    let new : is_among names name ≡ false =
    list_any-map (λ (x : Column). x.name) (λ t. bytes_eq t name) c.args.before.now ∙ sym c.if-is_taken.ensures in
    let named = new_so number names item name c.in_ok-name.ensures.name new in
    let k = c.in_ok-kind.kind in
    let kinded = named ∙ kind_so number item name k c.in_ok-kind.ensures.kind in
    let fault = c.in_err-validate_format.field-0.0 in
    gives_err (λ x. x) c.from_residual-in_err-validate_format.result (column_reading number names item) fault
    c.from_residual-in_err-validate_format.ensures.1
    (refused fault (format_reading item) (column_reading number names item)
    (λ e. kinded ∙ format_fault_so number item name k fault e) c.in_err-validate_format.ensures.format)

pub returns-in_err-validate_pattern : goal.returns-in_err-validate_pattern
returns-in_err-validate_pattern c =
    let number = c.args.number in
    let names = map (λ (x : Column). x.name) c.args.before.now in
    let item = c.args.item.now in
    let name = c.in_ok-name.name.now in
    let new : is_among names name ≡ false =
    list_any-map (λ (x : Column). x.name) (λ t. bytes_eq t name) c.args.before.now ∙ sym c.if-is_taken.ensures in
    let named = new_so number names item name c.in_ok-name.ensures.name new in
    let k = c.in_ok-kind.kind in
    let kinded = named ∙ kind_so number item name k c.in_ok-kind.ensures.kind in
    let formed = kinded ∙ format_so number item name k c.in_ok-validate_format.ensures.format in
    let fault = c.in_err-validate_pattern.field-0.0 in
    gives_err (λ x. x) c.from_residual-in_err-validate_pattern.result (column_reading number names item) fault
    c.from_residual-in_err-validate_pattern.ensures.1
    (refused fault (pattern_reading item) (column_reading number names item)
    (λ e. formed ∙ pattern_fault_so number item name k fault e) c.in_err-validate_pattern.ensures.pattern)

pub returns-in-Some : goal.returns-in-Some
returns-in-Some c =
    let number = c.args.number in
    let names = map (λ (x : Column). x.name) c.args.before.now in
    let item = c.args.item.now in
    let name = c.in_ok-name.name.now in
    let new : is_among names name ≡ false =
    list_any-map (λ (x : Column). x.name) (λ t. bytes_eq t name) c.args.before.now ∙ sym c.if-is_taken.ensures in
    let named = new_so number names item name c.in_ok-name.ensures.name new in
    let k = c.in_ok-kind.kind in
    let kinded = named ∙ kind_so number item name k c.in_ok-kind.ensures.kind in
    let formed = kinded ∙ format_so number item name k c.in_ok-validate_format.ensures.format in
    formed ∙ pattern_so number item name k c.in_ok-column.field-0 c.in_ok-validate_pattern.ensures.pattern
    c.in_ok-column.ensures ∙ ap (or_fault (BadConstraint number)) c.in-Some.is

pub returns-in-None : goal.returns-in-None
returns-in-None c =
    let number = c.args.number in
    let names = map (λ (x : Column). x.name) c.args.before.now in
    let item = c.args.item.now in
    let name = c.in_ok-name.name.now in
    let new : is_among names name ≡ false =
    list_any-map (λ (x : Column). x.name) (λ t. bytes_eq t name) c.args.before.now ∙ sym c.if-is_taken.ensures in
    let named = new_so number names item name c.in_ok-name.ensures.name new in
    let k = c.in_ok-kind.kind in
    let kinded = named ∙ kind_so number item name k c.in_ok-kind.ensures.kind in
    let formed = kinded ∙ format_so number item name k c.in_ok-validate_format.ensures.format in
    formed ∙ pattern_so number item name k c.in_ok-column.field-0 c.in_ok-validate_pattern.ensures.pattern
    c.in_ok-column.ensures ∙ ap (or_fault (BadConstraint number)) c.in-None.is
