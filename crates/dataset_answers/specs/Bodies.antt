-- The bodies of calls on datasets and resources: their errors, and the datasets that they describe. The defaults, and
-- the values that `package_update` and `package_patch` keep, are those of CKAN 2.10.
use Rattle.std.specs.Prelude.{ℕ, ℤ, ◌+◌, List, [], ◌∷◌, ◌++◌, codes, Bool, true, not, nat_lt, is_some, length, set}
use Rattle.std.specs.Prelude.{Option, Some, None, option_and_then}
use Rattle.std.specs.List.{remove}
use Rattle.portal_base.specs.KeyErrors.{KeyError, error_if, with_errors}
use Rattle.portal_base.specs.Id.{id_text}
use Rattle.portal_base.specs.declared.caller.Caller.{Caller}
use Rattle.portal_base.specs.declared.caller.Caller.TheVariants.{Anonymous, Named}
use Rattle.portal_base.specs.declared.json_value.Json.{Json}
use Rattle.org_roles.specs.PeopleLists.{PeopleLists, org_in}
use Rattle.org_roles.specs.declared.entry.Org.{Org}
use Rattle.packages.specs.Body.{body_errors, built_dataset}
use Rattle.packages.specs.Resources.{resource_errors}
use Rattle.packages.specs.Texts.{text_given}
use Rattle.packages.specs.Errors.{message_unless}
use Rattle.packages.specs.declared.package.Package.{Package}
use Rattle.packages.specs.declared.package.Resource.{Resource}
use Rattle.packages.specs.declared.package.State.TheVariants.{Deleted}
use Rattle.portal_calls.specs.declared.call.Call.{Call}
use Rattle.visibility.specs.TableSummary.{TableSummary, breaks_references}

-- ---- the errors of a dataset's body

-- the organization that the body gives for a dataset, if there is one of that name
abbrev pub organization_given : PeopleLists → Json → Option Org
organization_given people body = option_and_then (org_in people) (text_given (codes "owner_org") body)

abbrev pub organization_error : PeopleLists → Json → Option (List ℕ)
organization_error people body =
    option_and_then (λ name. message_unless (is_some (org_in people name)) (codes "Organization does not exist"))
    (text_given (codes "owner_org") body)

-- An organization that doesn't exist precedes the other errors of its key.
abbrev pub dataset_errors : PeopleLists → Json → Option Package → List KeyError
dataset_errors people body old =
    with_errors (body_errors body old) (error_if (codes "owner_org") (organization_error people body) [])

-- the error if a table that stays refers to one that is removed
abbrev pub lost_table_error : List TableSummary → Package → Option (List ℕ)
lost_table_error summaries changed =
    message_unless (not (breaks_references summaries changed.id changed.resources))
    (codes "A table of another resource refers to it")

-- The errors of a body that changes a dataset. The other errors of the key `resources` precede that of a removed
-- table.
abbrev pub change_errors : PeopleLists → List TableSummary → Json → Package → Package → List KeyError
change_errors people summaries body dataset changed =
    error_if (codes "resources") (lost_table_error summaries changed) (dataset_errors people body (Some dataset))

-- ---- the datasets of calls

-- the name of the caller, which is empty for an anonymous one
abbrev pub caller_name : Caller → List ℕ
caller_name Anonymous = []
caller_name (Named user) = user

-- the dataset with this id, created by this user at this moment
abbrev pub with_origin : Package → List ℕ → List ℕ → ℤ → Package
with_origin dataset id creator moment = record dataset {
  id = id;
  creator = creator;
  created = moment;
  modified = moment;
}

-- the new dataset that a call describes
abbrev pub created_dataset : Call → Package
created_dataset call =
    with_origin (built_dataset call.request.body None true) (id_text call.nonce.0) (caller_name call.caller) call.moment

-- The dataset with the changes of a call. With `whole` absent keys take their defaults, and without it they keep their
-- values.
abbrev pub changed_dataset : Call → Bool → Package → Package
changed_dataset call whole dataset = record (built_dataset call.request.body (Some dataset) whole) {
  modified = call.moment;
}

-- the dataset after its deletion
abbrev pub deleted_dataset : Call → Package → Package
deleted_dataset call dataset = record dataset { state = Deleted; modified = call.moment }

-- ---- the resources of calls

-- a dataset has at most 200 resources
abbrev pub new_resource_errors : Package → Json → List KeyError
new_resource_errors dataset body =
    error_if (codes "package_id")
    (message_unless (nat_lt (length dataset.resources) 200) (codes "More than 200 resources"))
    (resource_errors body)

-- the dataset with one more resource, which has the next number
abbrev pub with_new_resource : Call → Package → Resource → Package
with_new_resource call dataset resource = record dataset {
  resources = dataset.resources ++ resource ∷ [];
  next_resource = dataset.next_resource + 1;
  modified = call.moment;
}

-- the dataset with this resource at the position
abbrev pub with_resource_at : Call → Package → ℕ → Resource → Package
with_resource_at call dataset position resource = record dataset {
  resources = set dataset.resources position resource;
  modified = call.moment;
}

-- the dataset without the resource at the position
abbrev pub without_resource_at : Call → Package → ℕ → Package
without_resource_at call dataset position = record dataset {
  resources = remove dataset.resources position;
  modified = call.moment;
}
