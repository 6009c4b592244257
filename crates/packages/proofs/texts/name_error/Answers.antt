use Rattle.std.proofs.Common.{◌∙◌, ap}
use Rattle.std.specs.Option.{option_map}
use Rattle.std.proofs.lemmas.Result.{IfOk-weaker}
use Rattle.portal_base.specs.Name.{name_fault, name_fault_message}
use Rattle.packages.specs.Texts.{longest_name}
use Rattle.packages.proofs.texts.name_error.Goals as goal

pub returns-in-Some : goal.returns-in-Some
returns-in-Some c =
    IfOk-weaker c.name_message.result _ _
    (λ message is. is ∙ ap (option_map (name_fault_message longest_name))
    (c.in-Some.ensures ∙ ap (λ text. name_fault text longest_name) c.as_str.ensures))
    c.name_message.ensures

pub returns-in-None : goal.returns-in-None
returns-in-None c =
    ap (option_map (name_fault_message longest_name))
    (c.in-None.ensures ∙ ap (λ text. name_fault text longest_name) c.as_str.ensures)
