-- The datasets and resources that a call names, in its caller's view.
use Rattle.std.specs.Prelude.{ℕ, List, codes, ◌&&◌, is_some, is_none, if◌then◌else◌}
use Rattle.std.specs.Prelude.{Option, find, Result}
use Rattle.portal_base.specs.declared.json_value.Json.{Json}
use Rattle.portal_base.specs.Kinds.{present}
use Rattle.packages.specs.Named.{Located, is_named}
use Rattle.packages.specs.declared.package.Package.{Package}
use Rattle.portal_calls.specs.Answer.{thing_at, authorized_thing}
use Rattle.portal_calls.specs.declared.answer.Denial.{Denial}
use Rattle.portal_calls.specs.declared.answer.Kind.TheVariants as kind
use Rattle.portal_calls.specs.declared.answer.Right.TheVariants.{EditDataset}
use Rattle.visibility.specs.CallView.{CallView}
use Rattle.visibility.specs.Lookup.{resource_at}
use Rattle.visibility.specs.Visibility.{may_edit_in}

-- ---- datasets

-- the dataset with that id or name
abbrev pub dataset_named : List Package → List ℕ → Option Package
dataset_named datasets key = find (is_named key) datasets

-- the dataset that a key of the body names
abbrev pub dataset_at : List ℕ → CallView → Result Package Denial
dataset_at key view = thing_at key view.call.request.body kind.Dataset (dataset_named view.datasets)

-- the same, if the caller may edit the dataset
abbrev pub editable_dataset_at : List ℕ → CallView → Result Package Denial
editable_dataset_at key view =
    authorized_thing (λ dataset. may_edit_in view.people view.caller dataset) EditDataset (dataset_at key view)

-- The key that names the dataset of an update: `name` if `id` is absent and `name` is present, and else `id`.
abbrev pub naming_key : Json → List ℕ
naming_key body =
    if is_none (present (codes "id") body) && is_some (present (codes "name") body) then codes "name" else codes "id"

-- ---- resources

-- the resource that the key `id` names, if the caller may edit its dataset
abbrev pub editable_resource_at : CallView → Result Located Denial
editable_resource_at view =
    authorized_thing (λ located. may_edit_in view.people view.caller located.dataset) EditDataset
    (resource_at (codes "id") view)
