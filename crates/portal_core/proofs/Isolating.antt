-- Equal views are answered alike, and what is accepted leaves equal views.
use Rattle.std.proofs.Common.{◌≡◌, ℕ, true, false, ◌&&◌, Bool, List, refl, sym, ap, ◌∙◌, subst, ◌+◌}
use Rattle.std.proofs.Common.{Option, cond}
use Rattle.std.specs.Prelude.{filter, unwrap_or, nat_le}
use Rattle.std.specs.Option.{option_map}
use Rattle.std.specs.Str.{bytes_eq}
use Rattle.std.proofs.lemmas.Slice.Eq.{bytes_eq-Decides}
use Rattle.portal_base.specs.declared.caller.Caller.{Caller}
use Rattle.portal_base.specs.declared.caller.Caller.TheVariants.{Anonymous, Named}
use Rattle.portal_base.specs.Ordered.{IsAscending, upserted, dropped}
use Rattle.portal_base.proofs.Filtered.{list_all-IsIn}
use Rattle.portal_base.proofs.Upserted.{filter-upserted}
use Rattle.org_roles.specs.declared.change.OrgChange.{OrgChange}
use Rattle.org_roles.specs.declared.change.OrgChange.TheVariants.{Create, Patch, Remove, SetRole, DropRole}
use Rattle.dataset_answers.specs.Fit.{IsFitDataset}
use Rattle.dataset_answers.specs.declared.change.DatasetChange.{DatasetChange}
use Rattle.dataset_answers.specs.declared.change.DatasetChange.TheVariants as dataset
use Rattle.datastore_answers.specs.Summaries.{summaries_of}
use Rattle.organization_answers.specs.Fit.{IsFitOrg}
use Rattle.organization_answers.specs.Owners.{owners_of}
use Rattle.packages.specs.declared.package.Package.{Package}
use Rattle.portal_base.proofs.Unique.{IsIn-Contains}
use Rattle.std.specs.List.{list_any}
use Rattle.portal_calls.specs.Answer.{AcceptsOnly}
use Rattle.portal_calls.specs.declared.answer.Answer.{Answer}
use Rattle.portal_calls.specs.declared.answer.Answer.TheVariants.{Shown, Refused, Accepted}
use Rattle.portal_calls.specs.declared.call.Call.{Call}
use Rattle.visibility.specs.View.{datasets_seen}
use Rattle.visibility.specs.Visibility.{is_public_if_harvested}
use Rattle.visibility.proofs.ViewLemmas.{find-kept, called_by_name}
use Rattle.datastore_answers.specs.TableAnswers.{map_answer}
use Rattle.portal_events.specs.Reply.{is_name_in_use}
use Rattle.portal_events.specs.declared.event.Event.TheVariants.{Call as a_call}
use Rattle.portal_state.specs.Answer.{answer_to, call_view_of, planned_answer, quota_bytes, quota_if, quota_of}
use Rattle.portal_state.specs.Change.{Change}
use Rattle.portal_state.specs.Changed.{AreUnused, applied, changed, charged, with_planned}
use Rattle.portal_state.specs.Fit.{IsFit}
use Rattle.portal_state.specs.Known.{is_known, known_call}
use Rattle.portal_state.specs.Planned.{PlannedChange, People, Datasets, Tables, Sources, change_of, claims_of}
use Rattle.portal_state.specs.State.{State, accepted_bytes_of, accepted_bytes_of_user, quota_used_cmp}
use Rattle.portal_state.specs.State.{quota_used_cmp_total}
use Rattle.portal_state.specs.Step.{Outcome, answer_in, call_step, known_step, outcome_of}
use Rattle.portal_state.specs.Valid.{IsValid}
use Rattle.portal_state.specs.View.{is_own_quota, view_of}
use Rattle.portal_state.specs.declared.quota.QuotaUsed.{QuotaUsed}
use Rattle.portal_state.proofs.Answering.{answer_fit}
use Rattle.portal_state.proofs.ChangeEntries.{applied-planned}
use Rattle.portal_state.proofs.Changing.{IsOwn, IsOwnChange, IsOwnDatasets, changed-seen, own-sources, same_state}
use Rattle.portal_state.proofs.Fitting.{fit_in_state}
use Rattle.portal_state.proofs.Keeping.{harvested_open, no-tables}
use Rattle.portal_state.proofs.Knowing.{calls-alike, known-alike, known-call, known-views_alike}
use Rattle.portal_core.proofs.Nobody.{nobody-refused}
use Rattle.portal_state.proofs.Settling.{accepted-unused, outcome_unused, quiet-unused, refused-same}
use Rattle.portal_state.proofs.TableViewing.{own-id}

-- ---- replies

pub settled_alike : (answer : Answer Change) (call : Call) (s t : State)
    → is_name_in_use (outcome_of answer call s).reply ≡ false → is_name_in_use (outcome_of answer call t).reply ≡ false
    → (outcome_of answer call s).reply ≡ (outcome_of answer call t).reply
settled_alike (Shown json) call s t first second = refl
settled_alike (Refused denial) call s t first second = refl
settled_alike (Accepted json change) call s t first second =
    rw (
      outcome_unused json change call s (quiet-unused json change call s first),
      outcome_unused json change call t (quiet-unused json change call t second),
    ) refl

known-replies_alike : (s t : State) (call : Call) → view_of call.caller s ≡ view_of call.caller t
    → is_name_in_use (known_step s call).reply ≡ false → is_name_in_use (known_step t call).reply ≡ false
    → (known_step s call).reply ≡ (known_step t call).reply
known-replies_alike s t call same first second =
    let onto : answer_in s call ≡ answer_in t call = ap (answer_to call) same in
    let first_there : is_name_in_use (outcome_of (answer_in t call) call s).reply ≡ false =
    subst (λ (a : Answer Change). is_name_in_use (outcome_of a call s).reply ≡ false) onto first in
    ap (λ (a : Answer Change). (outcome_of a call s).reply) onto
    ∙ settled_alike (answer_in t call) call s t first_there second

-- the step in the second state, by the caller as the first state knows it
step-there : (s t : State) (call : Call) → view_of call.caller s ≡ view_of call.caller t
    → call_step t call ≡ known_step t (known_call s.people call)
step-there s t call same = ap (known_step t) (sym (calls-alike call s t same))

pub replies_alike : (s t : State) (call : Call) → view_of call.caller s ≡ view_of call.caller t
    → is_name_in_use (call_step s call).reply ≡ false → is_name_in_use (call_step t call).reply ≡ false
    → (call_step s call).reply ≡ (call_step t call).reply
replies_alike s t call same first second =
    let there : call_step t call ≡ known_step t (known_call s.people call) = step-there s t call same in
    known-replies_alike s t (known_call s.people call) (known-views_alike call s t same) first
    (subst (λ (o : Outcome). is_name_in_use o.reply ≡ false) there second)
    ∙ sym (ap (λ (o : Outcome). o.reply) there)

-- ---- what is charged

own_user : (user : List ℕ) (s : QuotaUsed)
    → (bytes_eq s.user user && is_own_quota (Named user) s) ≡ bytes_eq s.user user
own_user user s = called_by_name s.user user

-- the caller sees what it was charged
bytes-seen : (user : List ℕ) (quota_used : List QuotaUsed)
    → accepted_bytes_of_user user (filter (is_own_quota (Named user)) quota_used)
    ≡ accepted_bytes_of_user user quota_used
bytes-seen user quota_used =
    ap (λ (o : Option QuotaUsed). unwrap_or (option_map (λ (s : QuotaUsed). s.bytes) o) 0)
    (find-kept (λ (s : QuotaUsed). bytes_eq s.user user) (is_own_quota (Named user)) (own_user user) quota_used)

-- so the caller's quota is seen
pub quota_seen : (call : Call) (quota_used : List QuotaUsed)
    → quota_of call (filter (is_own_quota call.caller) quota_used) ≡ quota_of call quota_used
quota_seen call quota_used = ap (λ (n : ℕ). quota_if (nat_le (n + call.size) quota_bytes)) (by call.caller)
  where
    by : (caller : Caller) → accepted_bytes_of caller (filter (is_own_quota caller) quota_used)
        ≡ accepted_bytes_of caller quota_used
    by Anonymous = refl
    by (Named user) = bytes-seen user quota_used

-- the entry of the user with the size added to that of the list
abbrev entry : List ℕ → ℕ → List QuotaUsed → QuotaUsed
entry user size quota_used = record { user = user; bytes = accepted_bytes_of_user user quota_used + size }

-- what the caller sees of what was charged
charged-seen : (user : List ℕ) (size : ℕ) (quota_used : List QuotaUsed) → IsAscending quota_used_cmp quota_used
    → filter (is_own_quota (Named user)) (upserted quota_used_cmp (entry user size quota_used) quota_used)
    ≡ upserted quota_used_cmp (entry user size (filter (is_own_quota (Named user)) quota_used))
    (filter (is_own_quota (Named user)) quota_used)
charged-seen user size quota_used up =
    let own : List QuotaUsed = filter (is_own_quota (Named user)) quota_used in
    let mine : bytes_eq user user ≡ true = (bytes_eq-Decides user user).1 refl in
    filter-upserted quota_used_cmp quota_used_cmp_total (is_own_quota (Named user)) (entry user size quota_used)
    quota_used up
    ∙ ap (λ b. cond b (upserted quota_used_cmp (entry user size quota_used) own)
    (dropped (λ (s : QuotaUsed). quota_used_cmp s (entry user size quota_used)) own)) mine
    ∙ ap (λ (n : ℕ). upserted quota_used_cmp (record { user = user; bytes = n + size }) own)
    (sym (bytes-seen user quota_used))

charged_alike : (caller : Caller) (size : ℕ) (s t : State) → IsAscending quota_used_cmp s.quota_used
    → IsAscending quota_used_cmp t.quota_used → view_of caller s ≡ view_of caller t
    → view_of caller (charged caller size s) ≡ view_of caller (charged caller size t)
charged_alike Anonymous size s t up_s up_t same = same
charged_alike (Named user) size s t up_s up_t same =
    let people = ap (λ (v : State). v.people) same in
    let datasets = ap (λ (v : State). v.datasets) same in
    let quota_used : filter (is_own_quota (Named user)) s.quota_used ≡ filter (is_own_quota (Named user)) t.quota_used =
    ap (λ (v : State). v.quota_used) same in
    let now : filter (is_own_quota (Named user)) (upserted quota_used_cmp (entry user size s.quota_used) s.quota_used)
    ≡ filter (is_own_quota (Named user)) (upserted quota_used_cmp (entry user size t.quota_used) t.quota_used) =
    charged-seen user size s.quota_used up_s
    ∙ ap (λ (own : List QuotaUsed). upserted quota_used_cmp (entry user size own) own) quota_used
    ∙ sym (charged-seen user size t.quota_used up_t) in
    same_state people datasets (ap (λ (v : State). v.tables) same) (ap (λ (v : State). v.sources) same) now

-- ---- what is changed

-- what is fit is the caller's own to make
own-people : (change : OrgChange) (call : Call) (state : State)
    → IsFitOrg (call_view_of call state) (owners_of state.sources) change → IsOwnChange call.caller state.people change
own-people (Create org) call state fit = tt
own-people (Patch org) call state fit = tt
own-people (Remove name) call state fit = fit.own.administered
own-people (SetRole org user role) call state fit = fit.own.administered
own-people (DropRole org user) call state fit = fit.fit.own.administered

own-datasets : (change : DatasetChange) (call : Call) (state : State) → IsValid state
    → IsFitDataset (call_view_of call (view_of call.caller state)) (summaries_of (view_of call.caller state).tables)
    change
    → AreUnused state (claims_of (Datasets change)) → IsOwnDatasets call.caller state change
own-datasets (dataset.Create d) call state valid fit unused = no-tables d state valid unused
own-datasets (dataset.Replace d) call state valid fit unused =
    let seen : List Package = datasets_seen call.caller state.people state.datasets in
    subst (λ (id : List ℕ). list_any (λ (e : Package). bytes_eq id e.id) seen ≡ true) fit.id
    (own-id fit.old seen (IsIn-Contains fit.old seen fit.is_present))
own-datasets (dataset.Remove id) call state valid fit unused = tt

own : (change : PlannedChange) (call : Call) (state : State) → IsValid state
    → IsFit call (view_of call.caller state) change → AreUnused state (claims_of change) → IsOwn call.caller state change
own (People change) call state valid fit unused =
    own-people change call state
    (fit_in_state (People change) call state (harvested_open state valid) valid.sources.ascending fit)
own (Datasets change) call state valid fit unused = own-datasets change call state valid fit unused
own (Tables change) call state valid fit unused = tt
own (Sources change) call state valid fit unused = own-sources change call state valid.sources.ascending fit unused

-- a change leaves what was charged
quota_used-left : (change : PlannedChange) (state : State) → (changed change state).quota_used ≡ state.quota_used
quota_used-left (People change) state = refl
quota_used-left (Datasets change) state = refl
quota_used-left (Tables change) state = refl
quota_used-left (Sources change) state = refl

-- the caller sees of the changed state what it sees of its view with the change made in it
changed-there : (change : PlannedChange) (call : Call) (state : State) → IsValid state
    → IsFit call (view_of call.caller state) change → AreUnused state (claims_of change)
    → view_of call.caller (changed change (view_of call.caller state)) ≡ view_of call.caller (changed change state)
changed-there change call state valid fit unused =
    changed-seen change call.caller state valid.people.roles valid.datasets valid.tables.ascending
    valid.sources.ascending
    (λ d within. list_all-IsIn is_public_if_harvested state.datasets (harvested_open state valid) d within)
    (own change call state valid fit unused)

made_alike : (planned : PlannedChange) (call : Call) (s t : State) → IsValid s → IsValid t
    → view_of call.caller s ≡ view_of call.caller t → IsFit call (view_of call.caller t) planned
    → AreUnused s (claims_of planned) → AreUnused t (claims_of planned)
    → view_of call.caller (with_planned call planned s) ≡ view_of call.caller (with_planned call planned t)
made_alike planned call s t in_s in_t same fit unused_s unused_t =
    let fit_s : IsFit call (view_of call.caller s) planned =
    subst (λ (v : State). IsFit call v planned) (sym same) fit in
    charged_alike call.caller call.size (changed planned s) (changed planned t)
    (subst (IsAscending quota_used_cmp) (sym (quota_used-left planned s)) in_s.quota_used)
    (subst (IsAscending quota_used_cmp) (sym (quota_used-left planned t)) in_t.quota_used)
    (sym (changed-there planned call s in_s fit_s unused_s)
    ∙ ap (λ (v : State). view_of call.caller (changed planned v)) same
    ∙ changed-there planned call t in_t fit unused_t)

-- the answer with its change written out as entries, on the caller's view of this state
abbrev written : Call → State → Answer PlannedChange → Answer Change
written call state answer = map_answer (λ planned. change_of planned (view_of call.caller state)) answer

-- so do the entries of the change, written out on the view
applied_alike : (planned : PlannedChange) (call : Call) (s t : State) → IsValid s → IsValid t
    → view_of call.caller s ≡ view_of call.caller t → IsFit call (view_of call.caller t) planned
    → AreUnused s (claims_of planned) → AreUnused t (claims_of planned)
    → view_of call.caller (applied call (change_of planned (view_of call.caller t)) s)
    ≡ view_of call.caller (applied call (change_of planned (view_of call.caller t)) t)
applied_alike planned call s t in_s in_t same fit unused_s unused_t =
    ap (view_of call.caller)
    (ap (λ (v : State). applied call (change_of planned v) s) (sym same)
    ∙ applied-planned planned call s in_s (subst (λ (v : State). IsFit call v planned) (sym same) fit))
    ∙ made_alike planned call s t in_s in_t same fit unused_s unused_t
    ∙ ap (view_of call.caller) (sym (applied-planned planned call t in_t fit))

-- ---- views

-- what one answer leaves in states of equal views, where neither reply is that a name or an id is in use
quiet_views : (answer : Answer PlannedChange) (call : Call) (s t : State) → IsValid s → IsValid t
    → view_of call.caller s ≡ view_of call.caller t
    → AcceptsOnly (IsFit call (view_of call.caller t)) answer
    → is_name_in_use (outcome_of (written call t answer) call s).reply ≡ false
    → is_name_in_use (outcome_of (written call t answer) call t).reply ≡ false
    → view_of call.caller (outcome_of (written call t answer) call s).core
    ≡ view_of call.caller (outcome_of (written call t answer) call t).core
quiet_views (Shown json) call s t in_s in_t same fit first second = same
quiet_views (Refused denial) call s t in_s in_t same fit first second = same
quiet_views (Accepted json planned) call s t in_s in_t same fit first second =
    let change : Change = change_of planned (view_of call.caller t) in
    let unused_s : AreUnused s (claims_of planned) = quiet-unused json change call s first in
    let unused_t : AreUnused t (claims_of planned) = quiet-unused json change call t second in
    ap (λ (o : Outcome). view_of call.caller o.core) (outcome_unused json change call s unused_s)
    ∙ applied_alike planned call s t in_s in_t same fit unused_s unused_t
    ∙ sym (ap (λ (o : Outcome). view_of call.caller o.core) (outcome_unused json change call t unused_t))

known-quiet_views : (s t : State) (call : Call) → IsValid s → IsValid t
    → view_of call.caller s ≡ view_of call.caller t
    → is_name_in_use (known_step s call).reply ≡ false → is_name_in_use (known_step t call).reply ≡ false
    → view_of call.caller (known_step s call).core ≡ view_of call.caller (known_step t call).core
known-quiet_views s t call in_s in_t same first second =
    let onto : answer_in s call ≡ answer_in t call = ap (answer_to call) same in
    let first_there : is_name_in_use (outcome_of (answer_in t call) call s).reply ≡ false =
    subst (λ (a : Answer Change). is_name_in_use (outcome_of a call s).reply ≡ false) onto first in
    ap (λ (a : Answer Change). view_of call.caller (outcome_of a call s).core) onto
    ∙ quiet_views (planned_answer call (view_of call.caller t)) call s t in_s in_t same
    (answer_fit call (view_of call.caller t)) first_there second

pub quiet_views_alike : (s t : State) (call : Call) → IsValid s → IsValid t
    → view_of call.caller s ≡ view_of call.caller t
    → is_name_in_use (call_step s call).reply ≡ false → is_name_in_use (call_step t call).reply ≡ false
    → view_of call.caller (call_step s call).core ≡ view_of call.caller (call_step t call).core
quiet_views_alike s t call in_s in_t same first second = by (is_known s.people call.caller) refl
  where
    first_known : known_call s.people call ≡ call → is_name_in_use (known_step s call).reply ≡ false
    first_known is = subst (λ (c : Call). is_name_in_use (known_step s c).reply ≡ false) is first

    second_known : known_call t.people call ≡ call → is_name_in_use (known_step t call).reply ≡ false
    second_known is = subst (λ (c : Call). is_name_in_use (known_step t c).reply ≡ false) is second

    by : (b : Bool) → is_known s.people call.caller ≡ b
        → view_of call.caller (call_step s call).core ≡ view_of call.caller (call_step t call).core
    by true is =
        let in_first : known_call s.people call ≡ call = known-call s.people call is in
        let in_second : known_call t.people call ≡ call = sym (calls-alike call s t same) ∙ in_first in
        ap (λ (c : Call). view_of call.caller (known_step s c).core) in_first
        ∙ known-quiet_views s t call in_s in_t same (first_known in_first) (second_known in_second)
        ∙ sym (ap (λ (c : Call). view_of call.caller (known_step t c).core) in_second)
    by false is =
        ap (view_of call.caller) (refused-same s (a_call call) (nobody-refused s call is))
        ∙ same
        ∙ sym (ap (view_of call.caller) (refused-same t (a_call call)
        (nobody-refused t call (sym (known-alike call.caller call.caller s t same) ∙ is))))

-- the reply to an accepted call is not that a name or an id is in use
accepted-quiet : (answer : Answer Change) (call : Call) (state : State)
    → (outcome_of answer call state).is_accepted ≡ true → is_name_in_use (outcome_of answer call state).reply ≡ false
accepted-quiet (Shown json) call state is = refl
accepted-quiet (Refused denial) call state is = absurd (cc)
accepted-quiet (Accepted json change) call state is =
    rw (outcome_unused json change call state (accepted-unused json change call state is)) refl

pub views_alike : (s t : State) (call : Call) → IsValid s → IsValid t
    → view_of call.caller s ≡ view_of call.caller t
    → (call_step s call).is_accepted ≡ true → (call_step t call).is_accepted ≡ true
    → view_of call.caller (call_step s call).core ≡ view_of call.caller (call_step t call).core
views_alike s t call in_s in_t same first second =
    let first_call : Call = known_call s.people call in
    let second_call : Call = known_call t.people call in
    quiet_views_alike s t call in_s in_t same (accepted-quiet (answer_in s first_call) first_call s first)
    (accepted-quiet (answer_in t second_call) second_call t second)
