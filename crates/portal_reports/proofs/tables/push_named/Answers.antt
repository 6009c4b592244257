use Rattle.std.proofs.Common.{◌≡◌, ◌∙◌, ◌++◌, OnOk, Some, ap, find, flat_map, rules, string_bytes, subst, sym}
use Rattle.packages.specs.Named.{is_named}
use Rattle.visibility.specs.Viewer.{datasets_for}
use Rattle.portal_reports.specs.Tables.{table_line}
use Rattle.portal_reports.proofs.SeenLemmas.{named_seen}
use Rattle.portal_reports.proofs.tables.push_named.Goals as goal

pub returns-in-Some : goal.returns-in-Some
returns-in-Some c =
    let datasets = datasets_for c.args.viewer.now in
    let d = c.in-Some.dataset.now in
    let found : find (is_named c.args.name.now) datasets ≡ Some d = search rules in
    subst (λ lines. OnOk c.push_tables.result
    (string_bytes c.push_tables.new.text ≡ string_bytes c.args.text.now ++ lines))
    (ap (flat_map (table_line d)) c.of_dataset.ensures
    ∙ sym (named_seen c.args.name.now datasets d c.args.tables.now.tables found))
    c.push_tables.ensures
