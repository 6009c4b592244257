-- What a caller sees of what it sees.
use Rattle.std.proofs.Common.{◌≡◌, refl}
use Rattle.portal_base.specs.declared.caller.Caller.{Caller}
use Rattle.datastore_answers.specs.Tables.{is_table_among}
use Rattle.harvest_answers.proofs.ViewLemmas.{sources_seen_twice}
use Rattle.visibility.specs.View.{datasets_seen}
use Rattle.visibility.proofs.ViewLemmas.{filter_twice, people_seen_twice, datasets_seen_twice}
use Rattle.portal_state.specs.State.{State}
use Rattle.portal_state.specs.View.{view_of, is_own_quota}

pub view_of-twice : (caller : Caller) (state : State) → view_of caller (view_of caller state) ≡ view_of caller state
view_of-twice caller state =
    rw (
      people_seen_twice caller state.people,
      datasets_seen_twice caller state.people state.datasets,
      filter_twice (is_table_among (datasets_seen caller state.people state.datasets)) state.tables,
      sources_seen_twice caller state.people state.sources,
      filter_twice (is_own_quota caller) state.quota_used,
    ) refl
