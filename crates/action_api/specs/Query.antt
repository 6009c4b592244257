-- The request of a query (URL Standard, section 5.1): its pairs of names and values are the members of the body.
use Rattle.std.specs.Prelude.{ℕ, List, [], ◌∷◌, Bool, false, ◌==◌, ◌||◌, nat_lt, length, fold, Option, option_map}
use Rattle.std.specs.Prelude.{Result, Ok, Err, if◌then◌else◌}
use Rattle.std.specs.BTreeMap.{insert_entry}
use Rattle.std.specs.Ordering.{nat_cmp}
use Rattle.std.specs.Cmp.Lexicographic.{slice_cmp}
use Rattle.std.specs.Str.Lossy.{utf8_lossy}
use Rattle.form_urlencoded.specs.Form.{decode, raw_pairs}
use Rattle.portal_base.specs.Json.{json_reading}
use Rattle.portal_base.specs.declared.json_value.Json.{Json, Map, Text}
use Rattle.portal_base.specs.declared.json_value.JsonFault.{JsonFault}
use Rattle.portal_calls.specs.Action as action
use Rattle.portal_calls.specs.declared.call.Request.{Request}
use Rattle.portal_calls.specs.Body.{longest_body}
use Rattle.action_api.specs.Request.{request_for}
use Rattle.action_api.specs.declared.early.Early.{Early}
use Rattle.action_api.specs.declared.early.Early.TheVariants.{TooLong}

-- the decoded text of a name or a value: `+` is a space, escapes are decoded, what isn't UTF-8 becomes U+FFFD
abbrev pub text_of : List ℕ → List ℕ
text_of bytes = utf8_lossy (decode bytes)

-- whether the text begins as a list or a dictionary does
abbrev pub begins_json : List ℕ → Bool
begins_json [] = false
begins_json (b ∷ bytes) = b == 91 || b == 123

abbrev pub or_text : List ℕ → Result Json JsonFault → Json
or_text text (Ok json) = json
or_text text (Err fault) = Text text

-- the value of a text: the list or dictionary that it is as JSON, else the text itself
abbrev pub query_value : List ℕ → Json
query_value text = if begins_json text then or_text text (json_reading text) else Text text

-- the members with the pair's member, which replaces one of an equal key
abbrev pub with_pair : List (List ℕ × Json) → List ℕ × List ℕ → List (List ℕ × Json)
with_pair members pair = insert_entry (slice_cmp nat_cmp) members (text_of pair.0) (query_value (text_of pair.1))

-- The body of a query: a member for each key, ascending by bytes. Of the values of a key the last one counts.
abbrev pub query_body : List ℕ → Json
query_body query = Map (fold with_pair [] (raw_pairs query))

-- The request for the action of that name, with the body of a query.
abbrev pub request_of_query : List ℕ → List ℕ → Result Request Early
request_of_query name query =
    if nat_lt longest_body (length query) then Err TooLong else request_for name (query_body query)

-- whether the action of that name only reads, where one has the name
abbrev pub is_reading_action : List ℕ → Option Bool
is_reading_action name = option_map action.is_reading (action.action_named name)
