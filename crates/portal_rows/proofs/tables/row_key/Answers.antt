use Rattle.std.proofs.Common.{◌∙◌, ◌++◌, [], ◌∷◌, ap, append_assoc, sym}
use Rattle.std.specs.Fmt.{styled_decimal}
use Rattle.portal_rows.specs.TableRows.{twenty_digits}
use Rattle.portal_rows.proofs.KeyLemmas.{padded_integral-twenty}
use Rattle.portal_rows.proofs.tables.row_key.Goals as goal

pub returns : goal.returns
returns c =
    let id = c.args.id in
    c.from.ensures ∙ c.in_ok-key.ensures.ok
    ∙ ap (λ s. c.as_str-resource.result.now ++ 47 ∷ styled_decimal s id) c.laid_out.ensures
    ∙ ap (λ l. c.as_str-resource.result.now ++ 47 ∷ l) (padded_integral-twenty id)
    ∙ ap (λ l. l ++ 47 ∷ twenty_digits id) c.as_str-resource.ensures
    ∙ sym (append_assoc c.args.resource.now (47 ∷ []) (twenty_digits id))
