-- The answers to calls on organizations, their members and users: functions of the call and of its caller's view.
-- `owners` are the organizations of the sources in the view.
use Rattle.std.specs.Prelude.{ℕ, List, [], codes, Bool, true, false, map, filter, Option, Some, Result, Ok, Err}
use Rattle.std.specs.Prelude.{unwrap_or, option_map}
use Rattle.std.specs.List.{filter_map}
use Rattle.std.specs.Str.{bytes_eq}
use Rattle.portal_base.specs.declared.json_value.Json.{Json}
use Rattle.portal_base.specs.declared.json_value.Json as json
use Rattle.portal_base.specs.declared.kinds.KindFault.{KindFault}
use Rattle.portal_base.specs.KeyErrors.{error_if, kind_message}
use Rattle.portal_base.specs.Kinds.{truth_at}
use Rattle.org_roles.specs.PeopleLists.{is_sysadmin_in, org_in}
use Rattle.org_roles.specs.declared.change.OrgChange.{OrgChange}
use Rattle.org_roles.specs.declared.change.OrgChange.TheVariants.{Create, Patch, Remove, SetRole, DropRole}
use Rattle.org_roles.specs.declared.entry.Org.{Org}
use Rattle.org_roles.specs.declared.role.Role.{Role}
use Rattle.org_roles.specs.declared.role.Role.TheVariants.{Admin}
use Rattle.packages.specs.declared.package.Package.{Package}
use Rattle.visibility.specs.View.{administers}
use Rattle.visibility.specs.Visibility.{caller_role}
use Rattle.portal_calls.specs.Answer.{thing_at, authorized_thing, answer_if_found, answer_if_authorized, answer_if_valid, answer_unless_denied, denial_of}
use Rattle.portal_calls.specs.declared.answer.Answer.{Answer}
use Rattle.portal_calls.specs.declared.answer.Answer.TheVariants.{Shown, Accepted}
use Rattle.portal_calls.specs.declared.answer.Denial.{Denial}
use Rattle.portal_calls.specs.declared.answer.Kind.TheVariants.{Organization}
use Rattle.portal_calls.specs.declared.answer.Right.TheVariants.{CreateOrganization, AdministerOrganization}
use Rattle.portal_calls.specs.declared.topic.OrganizationAction.{OrganizationAction}
use Rattle.portal_calls.specs.declared.topic.OrganizationAction.TheVariants.{OrganizationCreate, OrganizationPatch}
use Rattle.portal_calls.specs.declared.topic.OrganizationAction.TheVariants.{OrganizationDelete, OrganizationShow}
use Rattle.portal_calls.specs.declared.topic.OrganizationAction.TheVariants.{OrganizationList, OrganizationListForUser}
use Rattle.portal_calls.specs.declared.topic.OrganizationAction.TheVariants.{OrganizationMemberCreate}
use Rattle.portal_calls.specs.declared.topic.OrganizationAction.TheVariants.{OrganizationMemberDelete, MemberList}
use Rattle.portal_calls.specs.declared.topic.OrganizationAction.TheVariants.{UserList}
use Rattle.visibility.specs.CallView.{CallView}
use Rattle.organization_answers.specs.Dictionary.{organization_dictionary, capacity_dictionary, member_dictionary}
use Rattle.organization_answers.specs.Dictionary.{member_entry}
use Rattle.organization_answers.specs.Bodies.{creation_errors, created_org, patch_errors, patched_org, removal_errors}
use Rattle.organization_answers.specs.Bodies.{member_errors, former_member_errors, user_given, role_given}

-- ---- changes of organizations

abbrev pub answer_to_organization_create : CallView → Answer OrgChange
answer_to_organization_create view =
    let org = created_org view.call.request.body view.call.moment in
    answer_if_authorized (is_sysadmin_in view.people view.caller) CreateOrganization
    (answer_if_valid view.quota (creation_errors view.call.request.body)
    (Accepted (organization_dictionary view.datasets org) (Create org)))

-- the organization that the key `id` names
abbrev pub organization_named : CallView → Result Org Denial
organization_named view = thing_at (codes "id") view.call.request.body Organization (org_in view.people)

-- the same, if the caller administers the organization
abbrev pub administered_organization : CallView → Result Org Denial
administered_organization view =
    authorized_thing (λ org. administers view.people view.caller org.name) AdministerOrganization
    (organization_named view)

abbrev pub answer_to_organization_patch : CallView → Answer OrgChange
answer_to_organization_patch view =
    answer_if_found (administered_organization view)
    (λ org. answer_if_valid view.quota (patch_errors view.call.request.body)
    (Accepted (organization_dictionary view.datasets (patched_org view.call.request.body org))
    (Patch (patched_org view.call.request.body org))))

abbrev pub answer_to_organization_delete : CallView → List (List ℕ) → Answer OrgChange
answer_to_organization_delete view owners =
    answer_if_found (administered_organization view)
    (λ org. answer_if_valid view.quota (removal_errors org.name view.datasets owners)
    (Accepted json.Null (Remove org.name)))

-- ---- members

abbrev pub answer_to_member_create : CallView → Answer OrgChange
answer_to_member_create view =
    let user = user_given view.call.request.body in
    let role = role_given view.call.request.body in
    answer_if_found (administered_organization view)
    (λ org. answer_if_valid view.quota (member_errors view.people view.call.request.body)
    (Accepted (member_dictionary org.name user role) (SetRole org.name user role)))

abbrev pub answer_to_member_delete : CallView → Answer OrgChange
answer_to_member_delete view =
    answer_if_found (administered_organization view)
    (λ org. answer_if_valid view.quota (former_member_errors view.people org.name view.call.request.body)
    (Accepted json.Null (DropRole org.name (user_given view.call.request.body))))

abbrev pub answer_to_member_list : CallView → Answer OrgChange
answer_to_member_list view =
    answer_if_found (administered_organization view)
    (λ org. Shown (json.List (map member_entry (filter (λ m. bytes_eq m.org org.name) view.people.roles))))

-- ---- reads

abbrev pub answer_to_organization_show : CallView → Answer OrgChange
answer_to_organization_show view =
    answer_if_found (organization_named view)
    (λ org. Shown (organization_dictionary view.datasets org))

-- an organization in a list: its name, or its dictionary
abbrev pub organization_item : Bool → List Package → Org → Json
organization_item false datasets org = json.Text org.name
organization_item true datasets org = organization_dictionary datasets org

abbrev pub truth_or : Bool → Result (Option Bool) KindFault → Bool
truth_or default (Ok found) = unwrap_or found default
truth_or default (Err fault) = default

abbrev pub answer_to_organization_list : CallView → Answer OrgChange
answer_to_organization_list view =
    let all_fields = truth_at (codes "all_fields") view.call.request.body in
    answer_unless_denied (denial_of (error_if (codes "all_fields") (kind_message all_fields) []))
    (Shown (json.List (map (organization_item (truth_or false all_fields) view.datasets) view.people.orgs)))

-- a sysadmin administers every organization, whatever role the sysadmin has there
abbrev pub capacity_or_admin : Bool → Option Role → Option Role
capacity_or_admin true role = Some Admin
capacity_or_admin false role = role

abbrev pub capacity : CallView → List ℕ → Option Role
capacity view org =
    capacity_or_admin (is_sysadmin_in view.people view.caller) (caller_role view.people view.caller org)

-- an organization with the caller's capacity in it, if there is one
abbrev pub capacity_item : CallView → Org → Option Json
capacity_item view org = option_map (capacity_dictionary org) (capacity view org.name)

abbrev pub answer_to_organization_list_for_user : CallView → Answer OrgChange
answer_to_organization_list_for_user view = Shown (json.List (filter_map (capacity_item view) view.people.orgs))

abbrev pub answer_to_user_list : CallView → Answer OrgChange
answer_to_user_list view = Shown (json.List (map (λ user. json.Text user.name) view.people.users))

-- ---- every action

abbrev pub answer_to_action : OrganizationAction → CallView → List (List ℕ) → Answer OrgChange
answer_to_action OrganizationCreate view owners = answer_to_organization_create view
answer_to_action OrganizationPatch view owners = answer_to_organization_patch view
answer_to_action OrganizationDelete view owners = answer_to_organization_delete view owners
answer_to_action OrganizationShow view owners = answer_to_organization_show view
answer_to_action OrganizationList view owners = answer_to_organization_list view
answer_to_action OrganizationListForUser view owners = answer_to_organization_list_for_user view
answer_to_action OrganizationMemberCreate view owners = answer_to_member_create view
answer_to_action OrganizationMemberDelete view owners = answer_to_member_delete view
answer_to_action MemberList view owners = answer_to_member_list view
answer_to_action UserList view owners = answer_to_user_list view
