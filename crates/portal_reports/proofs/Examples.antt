-- Worked examples, by computation: who sees which counts of datasets, and the lines of tables.
use Rattle.std.proofs.Common.{◌≡◌, ◌++◌, ℕ, Bool, true, false, List, [], ◌∷◌, refl}
use Rattle.std.specs.Prelude.{codes, pos}
use Rattle.std.specs.Fmt.{digits}
use Rattle.portal_base.specs.declared.caller.Caller.{Caller}
use Rattle.portal_base.specs.declared.caller.Caller.TheVariants.{Anonymous, Named}
use Rattle.org_roles.specs.declared.entry.Org.{Org}
use Rattle.org_roles.specs.declared.role.Role.TheVariants.{Member}
use Rattle.org_roles.specs.PeopleLists.{PeopleLists}
use Rattle.packages.specs.declared.package.Package.{Package}
use Rattle.packages.specs.declared.package.State.{State}
use Rattle.packages.specs.declared.package.State.TheVariants.{Draft, Active, Deleted}
use Rattle.packages.specs.Package.{fresh_package}
use Rattle.visibility.specs.View.{datasets_seen}
use Rattle.table_schema.specs.Field.{FieldValue}
use Rattle.datastore_table.specs.declared.row.Row.{Row}
use Rattle.datastore_answers.specs.declared.resource_table.ResourceTable.{ResourceTable}
use Rattle.portal_reports.specs.Columns.{left, right}
use Rattle.portal_reports.specs.Datasets.{datasets_text}
use Rattle.portal_reports.specs.Tables.{tables_text}

-- ---- columns

a_long_text_is_not_cut : right (codes "12345678901") ≡ codes "12345678901"
a_long_text_is_not_cut = refl

a_short_text_is_filled_up : left 3 (codes "a") ++ right (codes "12") ≡ codes "a          12"
a_short_text_is_filled_up = refl

-- ---- datasets

abbrev org : List ℕ → Org
org name = record { name = name; title = []; description = []; created = pos 0 }

-- bob is a member of `city`, and root is a sysadmin
abbrev people : PeopleLists
people = record {
  users = record { name = codes "bob"; sysadmin = false } ∷ record { name = codes "root"; sysadmin = true } ∷ [];
  orgs = org (codes "city") ∷ org (codes "lake") ∷ [];
  roles = record { org = codes "city"; user = codes "bob"; role = Member } ∷ [];
}

-- a dataset of `city` that ann made
abbrev dataset : List ℕ → List ℕ → State → Bool → Package
dataset id name state private =
    record (fresh_package id name [] (codes "city") (codes "ann") (pos 0)) { state = state; private = private }

abbrev harvested : Package
harvested = record (dataset (codes "3") (codes "d3") Active false) { source = codes "air"; owner_org = codes "lake" }

-- public, private, harvested for `lake`, a draft, and deleted
abbrev datasets : List Package
datasets =
    dataset (codes "1") (codes "d1") Active false ∷ dataset (codes "2") (codes "d2") Active true ∷ harvested
    ∷ dataset (codes "4") (codes "d4") Draft false ∷ dataset (codes "5") (codes "a5") Deleted false ∷ []

abbrev datasets_for : Caller → List ℕ
datasets_for caller = datasets_text people.orgs (datasets_seen caller people datasets)

seen_by_a_member : datasets_for (Named (codes "bob"))
    ≡ codes "organization                              datasets   private    drafts harvested\n"
    ++ codes "city                                             2         1         0         0\n"
    ++ codes "lake                                             1         0         0         1\n"
    ++ codes "total                                            3         1         0         1\n"
unfolding digits
seen_by_a_member = refl

seen_by_nobody : datasets_for Anonymous
    ≡ codes "organization                              datasets   private    drafts harvested\n"
    ++ codes "city                                             1         0         0         0\n"
    ++ codes "lake                                             1         0         0         1\n"
    ++ codes "total                                            2         0         0         1\n"
unfolding digits
seen_by_nobody = refl

seen_by_a_sysadmin : datasets_for (Named (codes "root"))
    ≡ codes "organization                              datasets   private    drafts harvested\n"
    ++ codes "city                                             3         1         1         0\n"
    ++ codes "lake                                             1         0         0         1\n"
    ++ codes "total                                            4         1         1         1\n"
unfolding digits
seen_by_a_sysadmin = refl

no_organizations : datasets_text [] []
    ≡ codes "organization                              datasets   private    drafts harvested\n"
    ++ codes "total                                            0         0         0         0\n"
unfolding digits
no_organizations = refl

-- ---- tables

-- a table of three rows and two fields
abbrev table : List ℕ → ℕ → (Row → FieldValue → ResourceTable)
table id number row field = record {
  address = record { dataset = id; number = number };
  targets = [];
  table = record {
    schema = record { fields = field ∷ field ∷ []; key = []; foreign = []; missing = [] };
    rows = row ∷ row ∷ row ∷ [];
    next_id = 4;
    room = 0;
  };
}

-- by name and then by number; those of a deleted dataset too
tables_by_name : (row : Row) (field : FieldValue) → tables_text datasets
    (table (codes "1") 2 row field ∷ table (codes "1") 10 row field ∷ table (codes "5") 1 row field ∷ [])
    ≡ codes "table                                                             rows   columns\n"
    ++ codes "a5.1                                                                 3         2\n"
    ++ codes "d1.2                                                                 3         2\n"
    ++ codes "d1.10                                                                3         2\n"
unfolding digits
tables_by_name row field = refl
