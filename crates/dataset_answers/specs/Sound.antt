-- The datasets that may exist, given the people.
use Rattle.std.specs.Prelude.{◌≡◌, ℕ, List, true, false, is_some}
use Rattle.std.specs.Ordering.{nat_cmp}
use Rattle.std.specs.Cmp.Lexicographic.{slice_cmp}
use Rattle.portal_base.specs.Id.{id_text}
use Rattle.portal_base.specs.Name.{is_name}
use Rattle.portal_base.specs.Ordered.{IsAscending}
use Rattle.org_roles.specs.PeopleLists.{PeopleLists, org_in}
use Rattle.packages.specs.Numbered.{AreNumbered}
use Rattle.packages.specs.Texts.{longest_name}
use Rattle.packages.specs.declared.package.Package.{Package}
use Rattle.visibility.specs.Visibility.{is_harvested}

-- the text is the id of a number, of which it has the low 128 bits
abbrev pub IsId : List ℕ → Type 0
IsId text = (number : ℕ) × (text ≡ id_text number)

-- the organization exists
abbrev pub OrgExists : PeopleLists → List ℕ → Type 0
OrgExists people org = is_some (org_in people org) ≡ true

-- A dataset that wasn't harvested, with an id and a name of the right form, in an organization that exists, with
-- numbered resources, and with tags that strictly ascend by bytes. No name has the form of an id, so that no dataset's
-- name is the id of another.
pub record IsSound (people : PeopleLists) (dataset : Package) : Type 0 where
  pub not_harvested : is_harvested dataset ≡ false
  pub id : IsId dataset.id
  pub name : is_name dataset.name longest_name ≡ true
  pub org : OrgExists people dataset.owner_org
  pub resources : AreNumbered dataset
  pub tags : IsAscending (slice_cmp nat_cmp) dataset.tags
