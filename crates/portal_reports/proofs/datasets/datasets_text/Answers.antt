use Rattle.std.proofs.Common.{◌∙◌, ◌++◌, ap, codes, decimal, map, rules, string_bytes, sum_by}
use Rattle.org_roles.specs.declared.entry.Org.{Org}
use Rattle.visibility.specs.Viewer.{datasets_for}
use Rattle.portal_reports.specs.Columns.{line}
use Rattle.portal_reports.specs.Counts.{counted}
use Rattle.portal_reports.specs.Datasets.{numbers_of}
use Rattle.portal_reports.proofs.CountLemmas.{text_made}
use Rattle.portal_reports.proofs.datasets.datasets_text.Goals as goal

pub returns : goal.returns
returns c =
    let counts = c.in_ok-counts.counts in
    let orgs = c.args.viewer.now.people.orgs in
    text_made (datasets_for c.args.viewer.now) counts c.in_ok-counts.ensures orgs
    (string_bytes c.push_header.new.text) (string_bytes c.push_orgs.new.text) (string_bytes c.push_line.new.text)
    (search rules) (search rules)
    (c.in_ok-push_line.ensures
    ∙ ap (λ ns. string_bytes c.push_orgs.new.text ++ line 40 (codes "total") (map decimal ns))
    (c.as_slice-2.ensures ∙ c.totals_of-totals.ensures
    ∙ ap (λ os. numbers_of (λ column. sum_by (λ (org : Org). counted counts org.name column) os)) c.orgs-2.ensures))
