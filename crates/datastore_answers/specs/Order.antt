-- The order of the tables of resources: by their dataset's id, and then by their number in the dataset.
use Rattle.std.specs.Prelude.{Bool}
use Rattle.std.specs.declared.cmp.Ordering.{Ordering}
use Rattle.std.specs.Ordering.{is_eq, nat_cmp, ordering_then}
use Rattle.std.specs.Cmp.{IsTotalOrder, nat_cmp_total}
use Rattle.std.specs.Cmp.Lexicographic.{slice_cmp}
use Rattle.std.proofs.lemmas.Cmp.{on_total, then_total, nat_list_cmp_total}
use Rattle.portal_base.specs.Ordered.{IsKey, IsKey-field, IsMonotone, IsMonotone-field}
use Rattle.datastore_answers.specs.declared.address.Address.{Address}
use Rattle.datastore_answers.specs.declared.resource_table.ResourceTable.{ResourceTable}

abbrev pub address_cmp : Address → Address → Ordering
address_cmp a b = ordering_then (slice_cmp nat_cmp a.dataset b.dataset) (nat_cmp a.number b.number)

pub address_cmp_total : IsTotalOrder address_cmp
address_cmp_total = then_total (on_total (λ a. a.dataset) nat_list_cmp_total) (on_total (λ a. a.number) nat_cmp_total)

abbrev pub table_cmp : ResourceTable → ResourceTable → Ordering
table_cmp t u = address_cmp t.address u.address

pub table_cmp_total : IsTotalOrder table_cmp
table_cmp_total = on_total (λ t. t.address) address_cmp_total

-- compares a table's address with this one
abbrev pub at_address : Address → ResourceTable → Ordering
at_address address t = address_cmp t.address address

pub IsKey-at_address : (address : Address) → IsKey table_cmp (at_address address)
IsKey-at_address address = IsKey-field (λ t. t.address) address_cmp_total address

pub IsMonotone-at_address : (address : Address) → IsMonotone table_cmp (at_address address)
IsMonotone-at_address address = IsMonotone-field (λ t. t.address) address_cmp_total address

-- the table is at this address
abbrev pub is_at : Address → ResourceTable → Bool
is_at address t = is_eq (at_address address t)
