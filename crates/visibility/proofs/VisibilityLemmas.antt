-- Whether the caller sees or may edit a dataset depends on two facts about the people: whether the caller is a
-- sysadmin, and its role in the dataset's organization.
use Rattle.std.proofs.Common.{◌≡◌, rules}
use Rattle.portal_base.specs.declared.caller.Caller.{Caller}
use Rattle.org_roles.specs.PeopleLists.{PeopleLists, is_sysadmin_in}
use Rattle.packages.specs.declared.package.Package.{Package}
use Rattle.visibility.specs.Visibility.{caller_role, may_edit_in, sees_in}

pub may_edit_in-own : (p q : PeopleLists) (caller : Caller) (dataset : Package)
    → is_sysadmin_in p caller ≡ is_sysadmin_in q caller
    → caller_role p caller dataset.owner_org ≡ caller_role q caller dataset.owner_org
    → may_edit_in p caller dataset ≡ may_edit_in q caller dataset
may_edit_in-own p q caller dataset flag role = search rules

pub sees_in-own : (p q : PeopleLists) (caller : Caller) (dataset : Package)
    → is_sysadmin_in p caller ≡ is_sysadmin_in q caller
    → caller_role p caller dataset.owner_org ≡ caller_role q caller dataset.owner_org
    → sees_in p caller dataset ≡ sees_in q caller dataset
sees_in-own p q caller dataset flag role = search rules
