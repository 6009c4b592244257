use Rattle.std.proofs.Common.{◌∙◌, ◌++◌, ap, filter, flat_map, map, rules, string_bytes}
use Rattle.packages.specs.Tags.{text_set}
use Rattle.packages.specs.declared.package.Package.{Package}
use Rattle.visibility.specs.Viewer.{datasets_for}
use Rattle.visibility.specs.Visibility.{sees_in}
use Rattle.datastore_answers.specs.Tables.{tables_of, tables_seen}
use Rattle.portal_reports.specs.Tables.{named_lines}
use Rattle.portal_reports.proofs.SeenLemmas.{tables_made}
use Rattle.portal_reports.proofs.tables.tables_text.Goals as goal

pub returns : goal.returns
returns c =
    let viewer = c.args.viewer.now in
    let datasets = datasets_for viewer in
    let tables = tables_seen datasets (tables_of c.args.tables.now) in
    tables_made datasets tables c.in_ok-names.names.items (string_bytes c.push_header.new.text)
    (string_bytes c.push_each.new.text) (search rules)
    (c.in_ok-push_each.ensures
    ∙ ap (λ ns. string_bytes c.push_header.new.text ++ flat_map (named_lines datasets tables) ns) c.as_slice-2.ensures.value)
    (c.in_ok-names.ensures
    ∙ ap (λ ds. text_set (map (λ (d : Package). d.name) (filter (sees_in viewer.people viewer.caller) ds))) c.requires)
