use Rattle.std.proofs.Common.{◌≡◌, ◌∙◌, OnOk, ap, subst}
use Rattle.std.specs.Option.{option_copied}
use Rattle.packages.specs.Reading.{with_lists_read, with_names_read, with_title_read}
use Rattle.packages.specs.declared.package.Package.{Package}
use Rattle.packages.proofs.build.read_keys.Goals as goal

pub returns-clause-dataset : goal.returns-clause-dataset
returns-clause-dataset c =
    let body = c.args.body.now in
    let old = option_copied c.args.old in
    subst (λ (d : Package). OnOk c.read_title_and_links.result (c.read_title_and_links.new.dataset ≡ with_title_read body d))
    (c.in_ok-read_lists.ensures.dataset
    ∙ ap (with_lists_read body old) (c.in_ok-read_names.ensures.dataset
    ∙ ap (with_names_read body old) c.in_ok-read_authors.ensures.dataset))
    c.read_title_and_links.ensures.dataset
