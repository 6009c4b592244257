use Rattle.std.proofs.Common.{◌≡◌, ap, ◌∙◌, sym, subst, pos, ◌*ℤ◌}
use Rattle.jiff.specs.Words.{civil_nanos, IsCivilNanos, signed_nanos, time_nanos}
use Rattle.portal_base.proofs.CivilLemmas.{IsCivilNanos-moment, FitsSigned-moment, civil_nanos-start}
use Rattle.portal_base.proofs.CivilLemmas.{civil_seconds-after, zero_plus}
use Rattle.portal_base.proofs.moment.civil_of.Goals as goal

pub unwrap-requires : goal.unwrap-requires
unwrap-requires c =
    let m = c.moment.inside.seconds in
    let start : civil_nanos c.to_datetime-start.result ≡ pos 0 =
    civil_nanos-start c.date.result c.to_datetime-start.result c.date.ensures c.to_datetime-start.ensures.date
    (ap time_nanos c.to_datetime-start.ensures.time ∙ c.midnight.ensures) in
    let nanos : signed_nanos c.from_secs.result ≡ m *ℤ pos 1000000000 =
    c.from_secs.ensures ∙ ap (λ z. z *ℤ pos 1000000000) (FitsSigned-moment m c.moment.invariant) in
    c.checked_add.ensures.succeeds.1
    (subst IsCivilNanos (sym (zero_plus _ _ m start nanos)) (IsCivilNanos-moment m c.moment.invariant))

pub returns-clause-second : goal.returns-clause-second
returns-clause-second c =
    let m = c.moment.inside.seconds in
    let start : civil_nanos c.to_datetime-start.result ≡ pos 0 =
    civil_nanos-start c.date.result c.to_datetime-start.result c.date.ensures c.to_datetime-start.ensures.date
    (ap time_nanos c.to_datetime-start.ensures.time ∙ c.midnight.ensures) in
    let nanos : signed_nanos c.from_secs.result ≡ m *ℤ pos 1000000000 =
    c.from_secs.ensures ∙ ap (λ z. z *ℤ pos 1000000000) (FitsSigned-moment m c.moment.invariant) in
    (civil_seconds-after m _ _ c.unwrap.result start nanos (rw c.unwrap.ensures at c.checked_add.ensures.value)).0
    ∙ c.moment.view_is

pub returns-clause-no_fraction : goal.returns-clause-no_fraction
returns-clause-no_fraction c =
    let m = c.moment.inside.seconds in
    let start : civil_nanos c.to_datetime-start.result ≡ pos 0 =
    civil_nanos-start c.date.result c.to_datetime-start.result c.date.ensures c.to_datetime-start.ensures.date
    (ap time_nanos c.to_datetime-start.ensures.time ∙ c.midnight.ensures) in
    let nanos : signed_nanos c.from_secs.result ≡ m *ℤ pos 1000000000 =
    c.from_secs.ensures ∙ ap (λ z. z *ℤ pos 1000000000) (FitsSigned-moment m c.moment.invariant) in
    (civil_seconds-after m _ _ c.unwrap.result start nanos (rw c.unwrap.ensures at c.checked_add.ensures.value)).1
