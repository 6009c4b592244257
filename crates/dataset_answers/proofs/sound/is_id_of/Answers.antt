use Rattle.std.proofs.Common.{◌≡◌, ap, sym, ◌∙◌}
use Rattle.std.proofs.lemmas.Slice.Eq.{bytes_eq-Decides}
use Rattle.uuid.specs.Text.{hyphenated_text, lower}
use Rattle.portal_base.specs.Id.{id_text}
use Rattle.dataset_answers.proofs.sound.is_id_of.Goals as goal

pub returns : goal.returns
returns c =
    let id : c.encode_lower.result.now ≡ id_text c.args.number =
    c.encode_lower.ensures.text ∙ ap (hyphenated_text lower) (c.hyphenated-id.ensures ∙ c.from_u128.ensures) in
    let same = bytes_eq-Decides c.encode_lower.result.now c.args.text.now in
    (λ holds. sym (same.0 (sym c.eq.ensures ∙ holds)) ∙ id, λ is. c.eq.ensures ∙ same.1 (id ∙ sym is))
