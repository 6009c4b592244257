use Rattle.std.proofs.Common.{◌≡◌, ◌∙◌, IsUtf8, string_bytes, sym, subst}
use Rattle.std.proofs.lemmas.Str.{IsUtf8-string_bytes}
use Rattle.serde_json.proofs.FreeTexts.{text_of_value}
use Rattle.portal_base.specs.Json.{data_of, json_text}
use Rattle.portal_base.proofs.JsonBack.{read_back}
use Rattle.portal_base.proofs.JsonKept.{has_float-data_of}
use Rattle.portal_base.proofs.json_value.Json.text.Goals as goal
use Rattle.portal_base.proofs.json_value.Json.text.Goals.{In-Ok}

written : (c : In-Ok) → string_bytes c.in-Ok.string ≡ json_text c.args.self.now
written c =
    let sent = c.in-Ok.ensures.events in
    let j = c.args.self.now in
    text_of_value (data_of j) sent.0 (string_bytes c.in-Ok.string) sent.1 sent.2 (has_float-data_of j)

pub returns-in-Ok-clause-text : goal.returns-in-Ok-clause-text
returns-in-Ok-clause-text c = c.from.ensures ∙ written c.before

pub returns-in-Ok-clause-reads_back : goal.returns-in-Ok-clause-reads_back
returns-in-Ok-clause-reads_back c =
    let utf8 : IsUtf8 c.from.result = subst IsUtf8 (sym c.from.ensures) (IsUtf8-string_bytes c.in-Ok.string) in
    read_back c.args.self.now c.from.result utf8 (c.from.ensures ∙ written c.before)
