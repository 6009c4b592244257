-- The list of fields, and their names.
use Rattle.std.proofs.Common.{◌≡◌, ◌∙◌, sym, subst, suc, ◌+◌, get_or, drop, append_assoc, length-append, ℕ, ◌<◌, ◌≤◌}
use Rattle.std.proofs.Common.{nat_le, Bool, true, ◌||◌, refl, ap, List, [], ◌∷◌, ◌++◌, map, length, codes, arith}
use Rattle.std.proofs.lemmas.Bool.Decides.{nat_tests}
use Rattle.std.proofs.lemmas.List.{at_drop_more}
use Rattle.std.specs.Prelude.{Some, Result, Ok, Err}
use Rattle.std.specs.Result.{IsErrAnd}
use Rattle.std.specs.List.{list_any, list_all}
use Rattle.portal_base.specs.declared.json_value.Json.{Json}
use Rattle.table_schema.specs.declared.column.Column.{Column}
use Rattle.table_schema.specs.declared.fault.SchemaFault.{SchemaFault}
use Rattle.table_schema.specs.declared.fault.SchemaFault.TheVariants.{OutOfMemory, NotJson, NoFields, UnknownKind}
use Rattle.table_schema.specs.declared.fault.SchemaFault.TheVariants.{BadConstraint, RepeatedName, BadKey}
use Rattle.table_schema.specs.declared.fault.SchemaFault.TheVariants.{Unsupported, BadName}
use Rattle.table_schema.specs.Descriptor.{field_items, column_reading, columns_reading}
use Rattle.portal_base.specs.Kinds.{list_in, present}
use Rattle.table_schema.specs.Values.{◌>>>◌, IsRefused, Gives, is_map}

pub list_any-map : {A B : Type 0} (f : A → B) (p : B → Bool) (xs : List A)
    → list_any p (map f xs) ≡ list_any (λ x. p (f x)) xs
list_any-map f p [] = refl
list_any-map f p (x ∷ xs) = ap (λ b. p (f x) || b) (list_any-map f p xs)

-- 1 to 500 dictionaries are the fields.
pub field_items-of : (value fields : Json) (items : List Json) → is_map value ≡ true
    → present (codes "fields") value ≡ Some fields → list_in fields ≡ Some items → 0 < length items
    → length items ≤ 500 → list_all is_map items ≡ true → field_items value ≡ Ok items
field_items-of value fields items dictionary there list some few all =
    let least : nat_le 1 (length items) ≡ true = grind (arith, nat_tests) in
    let most : nat_le (length items) 500 ≡ true = grind (arith, nat_tests) in
    rw dictionary (rw there (rw list (rw least (rw most (rw all refl)))))

-- ---- one field after another

-- the fields before, followed by those of these items
abbrev pub columns_on : List Column → List Json → Result (List Column) SchemaFault
columns_on before items =
    columns_reading (suc (length before)) (map (λ (c : Column). c.name) before) items >>> λ rest. Ok (before ++ rest)

moved : (before : List Column) (column : Column) (rest : Result (List Column) SchemaFault)
    → ((rest >>> λ cs. Ok (column ∷ cs)) >>> λ cs. Ok (before ++ cs))
    ≡ (rest >>> λ cs. Ok ((before ++ column ∷ []) ++ cs))
moved before column (Err fault) = refl
moved before column (Ok cs) = ap Ok (sym (append_assoc before (column ∷ []) cs))

names-more : (before : List Column) (column : Column)
    → map (λ (c : Column). c.name) (before ++ column ∷ []) ≡ map (λ (c : Column). c.name) before ++ column.name ∷ []
names-more [] column = refl
names-more (c ∷ before) column = ap (λ names. c.name ∷ names) (names-more before column)

pub columns_on-next : (before : List Column) (items : List Json) (i : ℕ) (item : Json) (column : Column)
    → i ≡ length before → i < length items → item ≡ get_or items i item
    → column_reading (i + 1) (map (λ (c : Column). c.name) before) item ≡ Ok column
    → columns_on before (drop i items) ≡ columns_on (before ++ column ∷ []) (drop (i + 1) items)
columns_on-next before items i item column at lt is e =
    let names = map (λ (c : Column). c.name) before in
    let rest = drop (i + 1) items in
    let number : i + 1 ≡ suc (length before) = omega (arith, at) in
    let read : column_reading (suc (length before)) names item ≡ Ok column = rw (← number) e in
    let longer : length (before ++ column ∷ []) ≡ suc (length before) = simp length-append (omega arith) in
    at_drop_more (columns_on before) items i item lt
    ∙ ap (λ x. columns_on before (x ∷ rest)) (sym is)
    ∙ ap (λ r.
    (r >>> λ c. (columns_reading (suc (suc (length before))) (names ++ c.name ∷ []) rest >>> λ cs. Ok (c ∷ cs)))
    >>> λ cs. Ok (before ++ cs)) read
    ∙ moved before column (columns_reading (suc (suc (length before))) (names ++ column.name ∷ []) rest)
    ∙ ap (λ n. columns_reading (suc n) (names ++ column.name ∷ []) rest >>> λ cs. Ok ((before ++ column ∷ []) ++ cs))
    (sym longer)
    ∙ ap (λ ns. columns_reading (suc (length (before ++ column ∷ []))) ns rest
    >>> λ cs. Ok ((before ++ column ∷ []) ++ cs)) (sym (names-more before column))

pub columns_on-fault : (before : List Column) (items : List Json) (i : ℕ) (item : Json) (fault : SchemaFault)
    → i ≡ length before → i < length items → item ≡ get_or items i item
    → column_reading (i + 1) (map (λ (c : Column). c.name) before) item ≡ Err fault
    → columns_on before (drop i items) ≡ Err fault
columns_on-fault before items i item fault at lt is e =
    let names = map (λ (c : Column). c.name) before in
    let rest = drop (i + 1) items in
    let number : i + 1 ≡ suc (length before) = omega (arith, at) in
    let read : column_reading (suc (length before)) names item ≡ Err fault = rw (← number) e in
    at_drop_more (columns_on before) items i item lt
    ∙ ap (λ x. columns_on before (x ∷ rest)) (sym is)
    ∙ ap (λ r.
    (r >>> λ c. (columns_reading (suc (suc (length before))) (names ++ c.name ∷ []) rest >>> λ cs. Ok (c ∷ cs)))
    >>> λ cs. Ok (before ++ cs)) read

-- The error of one reading is that of another.
pub refused : {A B : Type 0} (fault : SchemaFault) (one : Result A SchemaFault) (other : Result B SchemaFault)
    → (one ≡ Err fault → other ≡ Err fault) → IsRefused fault one → IsRefused fault other
refused OutOfMemory one other then h = tt
refused NotJson one other then h = then h
refused NoFields one other then h = then h
refused (UnknownKind n) one other then h = then h
refused (BadConstraint n) one other then h = then h
refused (RepeatedName n) one other then h = then h
refused BadKey one other then h = then h
refused (Unsupported text) one other then h = then h
refused (BadName n) one other then h = then h

-- A call that returns this error has the error of the reading.
pub gives_err : {X Y : Type 0} (view : X → Y) (result : Result X SchemaFault) (reading : Result Y SchemaFault)
    (fault : SchemaFault) → IsErrAnd result (λ e. e ≡ fault) → IsRefused fault reading → Gives view result reading
gives_err view (Ok x) reading fault e h = absurd e
gives_err view (Err given) reading fault e h = subst (λ f. IsRefused f reading) (sym e) h
