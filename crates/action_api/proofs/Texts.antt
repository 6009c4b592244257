-- The texts of the two dictionaries of replies, piece by piece.
use Rattle.std.proofs.Common.{◌≡◌, ℕ, List, ◌++◌, sym, ap, ◌∙◌, rules, true, false}
use Rattle.std.specs.Prelude.{codes}
use Rattle.serde_json.specs.Data.{boolean, string, object, no_members, member}
use Rattle.serde_json.specs.Written.{compact_text}
use Rattle.serde_json.proofs.OnLiterals.{serde_json_on_literals}
use Rattle.portal_base.specs.Json.{data_of, json_text}
use Rattle.portal_base.specs.declared.json_value.Json.{Json, Text, the_lemmas}
use Rattle.action_api.specs.Reply.{success_dictionary, failure_dictionary}

text_data : (text : List ℕ) → data_of (Text text) ≡ string text
text_data text = search (rules, the_lemmas)

success_data : (help : List ℕ) (value : Json)
    → data_of (success_dictionary help value)
    ≡ object (member (codes "help") (string help) (member (codes "result") (data_of value)
    (member (codes "success") (boolean true) no_members)))
success_data help value = search (rules, the_lemmas)

failure_data : (help : List ℕ) (error : Json)
    → data_of (failure_dictionary help error)
    ≡ object (member (codes "error") (data_of error) (member (codes "help") (string help)
    (member (codes "success") (boolean false) no_members)))
failure_data help error = search (rules, the_lemmas)

-- the rendered success, from the texts of its help and its value
abbrev success_pieces : List ℕ → List ℕ → List ℕ
success_pieces help value =
    codes "{\"help\":" ++ (help ++ (codes ",\"result\":" ++ (value ++ codes ",\"success\":true}")))

-- the rendered failure, from the texts of its help and its error
abbrev failure_pieces : List ℕ → List ℕ → List ℕ
failure_pieces help error =
    codes "{\"error\":" ++ (error ++ (codes ",\"help\":" ++ (help ++ codes ",\"success\":false}")))

success_is : (help : List ℕ) (value : Json)
    → json_text (success_dictionary help value) ≡ success_pieces (compact_text (string help)) (json_text value)
unfolding serde_json_on_literals
success_is help value = ap compact_text (success_data help value)

failure_is : (help : List ℕ) (error : Json)
    → json_text (failure_dictionary help error) ≡ failure_pieces (compact_text (string help)) (json_text error)
unfolding serde_json_on_literals
failure_is help error = ap compact_text (failure_data help error)

pub success_texts : (help : List ℕ) (value : Json) (help_text value_text : List ℕ)
    → help_text ≡ json_text (Text help) → value_text ≡ json_text value
    → success_pieces help_text value_text ≡ json_text (success_dictionary help value)
success_texts help value help_text value_text h v =
    rw (h, v) (ap (λ d. success_pieces (compact_text d) (json_text value)) (text_data help)
    ∙ sym (success_is help value))

pub failure_texts : (help : List ℕ) (error : Json) (help_text error_text : List ℕ)
    → help_text ≡ json_text (Text help) → error_text ≡ json_text error
    → failure_pieces help_text error_text ≡ json_text (failure_dictionary help error)
failure_texts help error help_text error_text h e =
    rw (h, e) (ap (λ d. failure_pieces (compact_text d) (json_text error)) (text_data help)
    ∙ sym (failure_is help error))
