-- What a step charges to its caller's quota.
use Rattle.std.proofs.Common.{◌≡◌, ℕ, ◌+◌, Bool, true, false, List, [], ◌∷◌, Option, Some, None, refl}
use Rattle.std.proofs.Common.{sym, ap, ◌∙◌, if◌then◌else◌}
use Rattle.std.specs.Prelude.{find, unwrap_or, option_map}
use Rattle.std.specs.declared.cmp.Ordering.{Ordering}
use Rattle.std.specs.Ordering.{nat_cmp}
use Rattle.std.specs.Cmp.Lexicographic.{slice_cmp}
use Rattle.std.proofs.lemmas.Cmp.{nat_list_cmp_total, tied_itself}
use Rattle.std.proofs.lemmas.Map.Text.{is_eq-slice_cmp}
use Rattle.portal_base.specs.Ordered.{found, upserted, IsKey, IsKey-field}
use Rattle.portal_base.specs.declared.caller.Caller.{Caller}
use Rattle.portal_base.specs.declared.caller.Caller.TheVariants.{Anonymous, Named}
use Rattle.org_roles.specs.PeopleLists.{PeopleLists}
use Rattle.portal_base.proofs.Filtered.{find-same}
use Rattle.portal_base.proofs.Upserted.{found-upserted, found-upserted_other}
use Rattle.portal_calls.specs.declared.answer.Answer.{Answer}
use Rattle.portal_calls.specs.declared.answer.Answer.TheVariants.{Shown, Refused, Accepted}
use Rattle.portal_calls.specs.declared.call.Call.{Call}
use Rattle.visibility.specs.View.{is_called}
use Rattle.portal_core.proofs.Nobody.{nobody-refused}
use Rattle.portal_state.proofs.Knowing.{known-call}
use Rattle.portal_state.proofs.Settling.{refused-same}
use Rattle.portal_state.specs.Change.{Change}
use Rattle.portal_state.specs.Changed.{applied, charged, is_in_use}
use Rattle.portal_state.specs.Entries.{Entry, PutOrg, DropOrg, PutRole, DropRole, PutDataset, EditDataset}
use Rattle.portal_state.specs.Entries.{DropDataset, PutTable, DropTable, PutRow, DropRow, OfSources, changed_by, state_after}
use Rattle.portal_state.specs.Known.{is_known, known_call}
use Rattle.portal_state.specs.State.{State, accepted_bytes_of_user, quota_used_cmp, quota_used_cmp_total}
use Rattle.portal_state.specs.Step.{answer_in, call_step, outcome_of, outcome_unless_in_use}
use Rattle.portal_state.specs.declared.change.Claim.{Claim}
use Rattle.portal_state.specs.declared.quota.QuotaUsed.{QuotaUsed}
use Rattle.portal_events.specs.declared.event.Event.TheVariants.{Call as a_call}

-- the order of an entry relative to a user's
abbrev at : List ℕ → QuotaUsed → Ordering
at user entry = slice_cmp nat_cmp entry.user user

at-IsKey : (user : List ℕ) → IsKey quota_used_cmp (at user)
at-IsKey user = IsKey-field (λ (entry : QuotaUsed). entry.user) nat_list_cmp_total user

abbrev bytes_in : Option QuotaUsed → ℕ
bytes_in entry = unwrap_or (option_map (λ s. s.bytes) entry) 0

accepted-found : (user : List ℕ) (quota_used : List QuotaUsed)
    → accepted_bytes_of_user user quota_used ≡ bytes_in (found (at user) quota_used)
accepted-found user quota_used =
    ap bytes_in (find-same _ _ (λ (s : QuotaUsed). sym (is_eq-slice_cmp s.user user)) quota_used)

-- the user's bytes grow by the size
own-charged : (user : List ℕ) (size : ℕ) (state : State)
    → accepted_bytes_of_user user (charged (Named user) size state).quota_used
    ≡ accepted_bytes_of_user user state.quota_used + size
own-charged user size state =
    let entry : QuotaUsed = record { user = user; bytes = accepted_bytes_of_user user state.quota_used + size } in
    accepted-found user (upserted quota_used_cmp entry state.quota_used)
    ∙ ap bytes_in (found-upserted quota_used_cmp (at user) (at-IsKey user) entry state.quota_used
    (tied_itself nat_list_cmp_total user))

-- those of other users stay
other-charged : (caller : Caller) (user : List ℕ) (size : ℕ) (state : State) → is_called caller user ≡ false
    → accepted_bytes_of_user user (charged caller size state).quota_used
    ≡ accepted_bytes_of_user user state.quota_used
other-charged Anonymous user size state other = refl
other-charged (Named name) user size state other =
    let entry : QuotaUsed = record { user = name; bytes = accepted_bytes_of_user name state.quota_used + size } in
    accepted-found user (upserted quota_used_cmp entry state.quota_used)
    ∙ ap bytes_in (found-upserted_other quota_used_cmp quota_used_cmp_total (at user) (at-IsKey user) entry
    state.quota_used (is_eq-slice_cmp name user ∙ other))
    ∙ sym (accepted-found user state.quota_used)

-- no entry touches the quotas
changed_by-quota : (entry : Entry) (state : State) → (changed_by entry state).quota_used ≡ state.quota_used
changed_by-quota (PutOrg org) state = refl
changed_by-quota (DropOrg name) state = refl
changed_by-quota (PutRole role) state = refl
changed_by-quota (DropRole org user) state = refl
changed_by-quota (PutDataset dataset) state = refl
changed_by-quota (EditDataset id edit) state = refl
changed_by-quota (DropDataset id) state = refl
changed_by-quota (PutTable head) state = refl
changed_by-quota (DropTable address) state = refl
changed_by-quota (PutRow address row) state = refl
changed_by-quota (DropRow address id) state = refl
changed_by-quota (OfSources entry) state = refl

pub state_after-quota : (entries : List Entry) (state : State)
    → (state_after entries state).quota_used ≡ state.quota_used
state_after-quota [] state = refl
state_after-quota (entry ∷ entries) state =
    state_after-quota entries (changed_by entry state) ∙ changed_by-quota entry state

-- what is accepted is a change that was applied
accepted-applied : (answer : Answer Change) (call : Call) (state : State)
    → (outcome_of answer call state).is_accepted ≡ true
    → (change : Change) × ((outcome_of answer call state).core ≡ applied call change state)
accepted-applied (Shown json) call state accepted = absurd (cc)
accepted-applied (Refused denial) call state accepted = absurd (cc)
accepted-applied (Accepted json change) call state accepted = by (find (is_in_use state) change.claims) accepted
  where
    by : (claim : Option Claim) → (outcome_unless_in_use claim call json change state).is_accepted ≡ true
        → (made : Change) × ((outcome_unless_in_use claim call json change state).core ≡ applied call made state)
    by None a = (change, refl)
    by (Some c) a = absurd (cc)

-- The caller of a call that is accepted is known.
accepted-known : (state : State) (call : Call) → (call_step state call).is_accepted ≡ true
    → known_call state.people call ≡ call
accepted-known state call accepted = by (is_known state.people call.caller) refl
  where
    by : (b : Bool) → is_known state.people call.caller ≡ b → known_call state.people call ≡ call
    by true is = known-call state.people call is
    by false is =
        let refused : (call_step state call).is_accepted ≡ false = nobody-refused state call is in
        absurd (cc)

pub own-accepted : (state : State) (call : Call) (user : List ℕ) → call.caller ≡ Named user
    → (call_step state call).is_accepted ≡ true
    → accepted_bytes_of_user user (call_step state call).core.quota_used
    ≡ accepted_bytes_of_user user state.quota_used + call.size
own-accepted state call user own accepted =
    let same : known_call state.people call ≡ call = accepted-known state call accepted in
    let known_own : (known_call state.people call).caller ≡ Named user =
    ap (λ (c : Call). c.caller) same ∙ own in
    let made = accepted-applied (answer_in state (known_call state.people call)) (known_call state.people call) state
    accepted in
    let now : State = state_after made.0.entries state in
    ap (λ (s : State). accepted_bytes_of_user user s.quota_used) made.1
    ∙ ap (λ (caller : Caller). accepted_bytes_of_user user (charged caller call.size now).quota_used) known_own
    ∙ own-charged user call.size now
    ∙ ap (λ (q : List QuotaUsed). accepted_bytes_of_user user q + call.size) (state_after-quota made.0.entries state)

-- a caller whom no user has isn't charged in anybody's place
known-other : (people : PeopleLists) (call : Call) (user : List ℕ) → is_called call.caller user ≡ false
    → is_called (known_call people call).caller user ≡ false
known-other people call user other = by (is_known people call.caller)
  where
    by : (b : Bool) → is_called (if b then call.caller else Anonymous) user ≡ false
    by true = other
    by false = refl

pub others-same : (state : State) (call : Call) (user : List ℕ) → is_called call.caller user ≡ false
    → accepted_bytes_of_user user (call_step state call).core.quota_used
    ≡ accepted_bytes_of_user user state.quota_used
others-same state call user other = by (call_step state call).is_accepted refl
  where
    known : Call
    known = known_call state.people call

    by : (b : Bool) → (call_step state call).is_accepted ≡ b
        → accepted_bytes_of_user user (call_step state call).core.quota_used
        ≡ accepted_bytes_of_user user state.quota_used
    by false is = ap (λ (s : State). accepted_bytes_of_user user s.quota_used) (refused-same state (a_call call) is)
    by true is =
        let made = accepted-applied (answer_in state known) known state is in
        ap (λ (s : State). accepted_bytes_of_user user s.quota_used) made.1
        ∙ other-charged known.caller user call.size (state_after made.0.entries state)
        (known-other state.people call user other)
        ∙ ap (λ (q : List QuotaUsed). accepted_bytes_of_user user q) (state_after-quota made.0.entries state)
