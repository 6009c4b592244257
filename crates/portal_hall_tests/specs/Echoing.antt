-- A machine that shows the same for each event of the portal.
use Rattle.std.specs.Prelude.{⊤, true, false}
use Rattle.portal_base.specs.declared.json_value.Json.TheVariants as json
use Rattle.portal_events.specs.declared.event.Event.{Event}
use Rattle.portal_events.specs.declared.event.Reply.{Reply}
use Rattle.portal_events.specs.declared.event.Reply.TheVariants.{Shown}
use Rattle.portal_hall.specs.History.{Step}

-- It shows `true`, and nothing changes.
abbrev pub echo_step : ⊤ → Event → Step ⊤ Reply
echo_step core event = record { core = core; reply = Shown (json.Truth true); is_accepted = false }
