-- Worked examples: two tables, one of which references the other, when they are consistent, and which references
-- break.
use Rattle.std.proofs.Common.{◌≡◌, ℕ, true, false, List, [], ◌∷◌, refl}
use Rattle.std.specs.Prelude.{codes, pos}
use Rattle.packages.specs.declared.package.Resource.{Resource}
use Rattle.table_schema.specs.Descriptor.{no_constraints}
use Rattle.table_schema.specs.Field.{FieldValue}
use Rattle.table_schema.specs.declared.cell.Cell.{Cell}
use Rattle.table_schema.specs.declared.cell.Cell.TheVariants as cell
use Rattle.table_schema.specs.declared.form.Form.{Form}
use Rattle.table_schema.specs.declared.form.Form.TheVariants as form
use Rattle.visibility.specs.TableSummary.{breaks_references}
use Rattle.datastore_answers.specs.Summaries.{summaries_of}
use Rattle.datastore_answers.specs.Consistent.{are_found, are_resolved}
use Rattle.datastore_answers.specs.Linked.{are_linked}
use Rattle.datastore_answers.specs.Tables.{tables_kept}
use Rattle.datastore_answers.specs.declared.resource_table.ResourceTable.{ResourceTable}

abbrev field : List ℕ → Form → FieldValue
field name form = record { name = name; form = form; constraints = no_constraints; missing = []; in_key = false }

-- the table of resource 1, with the key `id`, and a row whose key is 1
abbrev streets : ResourceTable
streets = record {
  address = record { dataset = codes "a"; number = 1 };
  targets = [];
  table = record {
    schema = record { fields = field (codes "id") (form.Integer true) ∷ []; key = 0 ∷ []; foreign = []; missing = [] };
    rows = record { id = 1; cells = cell.Int (pos 1) ∷ [] } ∷ [];
    next_id = 2;
    room = 0;
  };
}

-- the table of resource 2, whose field of this form references the streets, with a row that has this cell
abbrev lamps : Form → Cell → ResourceTable
lamps form street = record {
  address = record { dataset = codes "a"; number = 2 };
  targets = 1 ∷ [];
  table = record {
    schema = record {
      fields = field (codes "street") form ∷ [];
      key = [];
      foreign = record { fields = 0 ∷ []; resource = codes "streets"; target = codes "id" ∷ [] } ∷ [];
      missing = [];
    };
    rows = record { id = 1; cells = street ∷ [] } ∷ [];
    next_id = 2;
    room = 0;
  };
}

abbrev both : Cell → List ResourceTable
both street = streets ∷ lamps (form.Integer true) street ∷ []

-- ---- consistency

resolved_targets : are_resolved (both (cell.Int (pos 1))) ≡ true
resolved_targets = refl

all_found : are_found (both (cell.Int (pos 1))) ≡ true
all_found = refl

all_linked : are_linked (both (cell.Int (pos 1))) ≡ true
all_linked = refl

-- no street has that key
no_street : are_linked (both (cell.Int (pos 2))) ≡ false
no_street = refl

-- null references nothing
unlit : are_linked (both cell.Null) ≡ true
unlit = refl

-- If the referenced table isn't found, no reference is broken. So consistency asks too that it is found.
nothing_asked : are_linked (lamps (form.Integer true) (cell.Int (pos 2)) ∷ []) ≡ true
nothing_asked = refl

not_found : are_found (lamps (form.Integer true) (cell.Int (pos 2)) ∷ []) ≡ false
not_found = refl

-- a field of another kind than the key's
other_kind : are_found (streets ∷ lamps form.Text (cell.Text (codes "1")) ∷ []) ≡ false
other_kind = refl

-- ---- broken references

abbrev resource : ℕ → Resource
resource number = record {
  number = number;
  name = [];
  url = [];
  format = [];
  description = [];
  mimetype = [];
}

-- the streets are removed, and the lamps are kept
lost : breaks_references (summaries_of (both cell.Null)) (codes "a") (resource 2 ∷ []) ≡ true
lost = refl

-- the lamps are removed
not_lost : breaks_references (summaries_of (both cell.Null)) (codes "a") (resource 1 ∷ []) ≡ false
not_lost = refl

-- both are removed
none_stays : breaks_references (summaries_of (both cell.Null)) (codes "a") [] ≡ false
none_stays = refl

other_dataset : breaks_references (summaries_of (both cell.Null)) (codes "b") (resource 2 ∷ []) ≡ false
other_dataset = refl

streets_alone : tables_kept (codes "a") (resource 1 ∷ []) (both cell.Null) ≡ streets ∷ []
streets_alone = refl

others_stay : tables_kept (codes "b") [] (both cell.Null) ≡ both cell.Null
others_stay = refl
