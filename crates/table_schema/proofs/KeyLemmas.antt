-- The indices of fields, and references between them.
use Rattle.std.proofs.Common.{◌≡◌, ℕ, suc, ◌+◌, ◌<◌, ◌==◌, true, false, refl, ap, sym, ◌∙◌, List, [], ◌∷◌, ◌++◌}
use Rattle.std.proofs.Common.{length, get_or, drop, append_assoc, length-append, slice_get, arith}
use Rattle.std.specs.Prelude.{Option, Some, None, option_map}
use Rattle.std.specs.List.{list_any}
use Rattle.std.proofs.lemmas.Bool.{and_parts}
use Rattle.std.proofs.lemmas.List.{at_drop_more}
use Rattle.table_schema.specs.declared.column.Column.{Column}
use Rattle.table_schema.proofs.ValueLemmas.{joined}
use Rattle.table_schema.specs.Field.{FieldValue}
use Rattle.table_schema.specs.Keys.{index_of, indices_from, refers, refers_to_key, field_of, fields_from}

-- the index of a field in a list whose first field has this index
abbrev pub index_on : ℕ → List Column → List ℕ → Option ℕ
index_on index columns name = option_map (λ k. index + k) (index_of columns name)

-- the indices before, followed by those of these names
abbrev pub indices_on : List Column → List ℕ → List (List ℕ) → Option (List ℕ)
indices_on columns before names = option_map (λ indices. before ++ indices) (indices_from columns before names)

-- A reference to the whole key has the length of the key.
pub refers_to_key-lengths : (columns : List Column) (indices key : List ℕ) (target : List (List ℕ))
    → refers_to_key columns indices key target ≡ true → (length indices ≡ length key) × (length key ≡ length target)
refers_to_key-lengths columns [] [] [] h = (refl, refl)
refers_to_key-lengths columns [] [] (t ∷ target) h = cc
refers_to_key-lengths columns [] (k ∷ key) target h = cc
refers_to_key-lengths columns (p ∷ indices) [] target h = cc
refers_to_key-lengths columns (p ∷ indices) (k ∷ key) [] h = cc
refers_to_key-lengths columns (p ∷ indices) (k ∷ key) (t ∷ target) h =
    let rest =
    refers_to_key-lengths columns indices key target
    (and_parts (refers (slice_get columns p) (slice_get columns k) t) (refers_to_key columns indices key target)
    h).1 in
    (ap suc rest.0, ap suc rest.1)

pub indices_on-next : (columns : List Column) (before : List ℕ) (names : List (List ℕ)) (i : ℕ) (name : List ℕ)
    (index : ℕ) → i < length names → name ≡ get_or names i name → index_of columns name ≡ Some index
    → list_any (λ p. p == index) before ≡ false
    → indices_on columns before (drop i names) ≡ indices_on columns (before ++ index ∷ []) (drop (i + 1) names)
indices_on-next columns before names i name index lt is found new =
    at_drop_more (indices_on columns before) names i name lt
    ∙ (rw (← is)
    (rw found (rw new (joined before index (indices_from columns (before ++ index ∷ []) (drop (i + 1) names))))))

-- A repeated name makes the key invalid.
pub indices_on-again : (columns : List Column) (before : List ℕ) (names : List (List ℕ)) (i : ℕ) (name : List ℕ)
    (index : ℕ) → i < length names → name ≡ get_or names i name → index_of columns name ≡ Some index
    → list_any (λ p. p == index) before ≡ true → indices_on columns before (drop i names) ≡ None
indices_on-again columns before names i name index lt is found old =
    at_drop_more (indices_on columns before) names i name lt ∙ (rw (← is) (rw found (rw old refl)))

-- One more field after those before it.
pub fields_from-next : (missing : List (List ℕ)) (key : List ℕ) (before : List FieldValue) (column : Column)
    (rest : List Column)
    → before ++ fields_from missing key (length before) (column ∷ rest)
    ≡ (before ++ field_of missing key (length before) column ∷ [])
    ++ fields_from missing key (length (before ++ field_of missing key (length before) column ∷ [])) rest
fields_from-next missing key before column rest =
    let field = field_of missing key (length before) column in
    let e : length (before ++ field ∷ []) ≡ suc (length before) = simp length-append (omega arith) in
    rw e (sym (append_assoc before (field ∷ []) (fields_from missing key (suc (length before)) rest)))
