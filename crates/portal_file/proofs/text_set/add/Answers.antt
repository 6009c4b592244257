use Rattle.std.proofs.Common.{◌≡◌, ◌∙◌, Bool, true, false, cond, refl, ap}
use Rattle.std.specs.Prelude.{◌||◌}
use Rattle.std.specs.String.{string_bytes}
use Rattle.std.specs.HashSet.{contains_text}
use Rattle.std.specs.Str.{bytes_eq}
use Rattle.std.proofs.lemmas.Map.Text.{hash_set_updates_text}
use Rattle.portal_file.proofs.text_set.add.Goals as goal

either : (a b : Bool) → cond a true b ≡ a || b
either true b = refl
either false b = refl

pub returns-clause-texts : goal.returns-clause-texts
returns-clause-texts c q =
    let text = c.in_ok-text.text in
    hash_set_updates_text (string_bytes text) c.args.texts.now c.insert.new.self true c.in_ok-insert.ensures.updates q
    ∙ either (bytes_eq (string_bytes text) q) (contains_text c.args.texts.now q)
    ∙ ap (λ v. bytes_eq v q || contains_text c.args.texts.now q) c.in_ok-text.ensures.ok
