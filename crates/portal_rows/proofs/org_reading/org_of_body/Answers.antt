use Rattle.std.proofs.Common.{◌≡◌}
use Rattle.portal_rows.specs.OrgRows.{IsOrgBody, IsOrgWithRoles, org_value}
use Rattle.portal_rows.specs.Readings.{org_with_roles_reading}
use Rattle.portal_rows.specs.declared.org_reading.OrgWithRoles.{OrgWithRoles}
use Rattle.portal_rows.proofs.OrgLemmas.{org_value-readable, org_with_roles-back, org_with_roles_read}
use Rattle.portal_rows.proofs.ReadLemmas.{complete_reading, sound_reading}
use Rattle.portal_rows.proofs.org_reading.org_of_body.Goals as goal

pub returns-in-Some-clause-sound : goal.returns-in-Some-clause-sound
returns-in-Some-clause-sound c =
    let readable = rw c.in-Some.is at c.in_ok-value.ensures.readable in
    sound_reading c.org_with_roles_in.result (org_with_roles_reading c.args.name.now c.in-Some.value)
    (λ (kept : OrgWithRoles). IsOrgWithRoles kept × (kept.org.name ≡ c.args.name.now))
    (λ kept e. org_with_roles_read c.args.name.now c.in-Some.value kept readable e) c.org_with_roles_in.ensures

pub returns-in-Some-clause-complete : goal.returns-in-Some-clause-complete
returns-in-Some-clause-complete c =
    complete_reading c.org_with_roles_in.result (org_with_roles_reading c.args.name.now)
    (λ (kept : OrgWithRoles). org_value kept.org kept.roles) c.in_ok-value.field-0 c.in-Some.value
    (λ (kept : OrgWithRoles). IsOrgBody kept c.args.name.now c.args.body.now) c.in-Some.is
    (λ kept is. c.in_ok-value.ensures.back (org_value kept.org kept.roles) (org_value-readable kept is.0) is.2)
    (λ kept is. org_with_roles-back c.args.name.now kept is.0 is.1) c.org_with_roles_in.ensures

pub returns-in-None-clause-complete : goal.returns-in-None-clause-complete
returns-in-None-clause-complete c = λ kept is.
    let found = c.in_ok-value.ensures.back (org_value kept.org kept.roles) (org_value-readable kept is.0) is.2 in
    let none = c.in-None.is in
    absurd (cc)
