-- The tables that a caller sees, by the datasets that it sees.
use Rattle.std.proofs.Common.{◌≡◌, ℕ, Bool, true, false, ◌&&◌, ◌||◌, cond, List, [], ◌∷◌, map, refl, sym, ap}
use Rattle.std.proofs.Common.{◌∙◌, subst}
use Rattle.std.proofs.Common.{inl, inr}
use Rattle.std.specs.Prelude.{filter, if◌then◌else◌}
use Rattle.std.specs.List.{list_any}
use Rattle.std.specs.Str.{bytes_eq}
use Rattle.std.proofs.lemmas.Slice.Eq.{bytes_eq-Decides}
use Rattle.portal_base.specs.Ordered.{IsAscending}
use Rattle.portal_base.proofs.Unique.{IsIn}
use Rattle.packages.specs.declared.package.Package.{Package}
use Rattle.visibility.proofs.ViewLemmas.{filter_twice}
use Rattle.datastore_answers.specs.Changed.{TableChange, changed_tables, without_rows, put_into}
use Rattle.datastore_answers.specs.Changed as table
use Rattle.datastore_answers.specs.Order.{at_address, is_at, table_cmp, table_cmp_total}
use Rattle.datastore_answers.specs.Summaries.{summary_of, summaries_of}
use Rattle.datastore_answers.specs.Tables.{is_table_among, tables_seen}
use Rattle.visibility.specs.TableSummary.{summaries_seen}
use Rattle.datastore_answers.specs.declared.address.Address.{Address}
use Rattle.datastore_answers.specs.declared.resource_table.ResourceTable.{ResourceTable}
use Rattle.datastore_answers.proofs.FitLemmas.{put_into-address}
use Rattle.portal_state.proofs.Kept.{dropped-kept, placed-kept}

-- ---- tests that one item of a list passes

pub any-is : {X : Type 0} (p : X → Bool) (xs : List X) → list_any p xs ≡ true → (x : X) × IsIn x xs × (p x ≡ true)
any-is p [] any = absurd (cc)
any-is {X} p (x ∷ xs) any = by (p x) refl any (any-is p xs)
  where
    by : (b : Bool) → p x ≡ b → (b || list_any p xs) ≡ true
        → (list_any p xs ≡ true → (z : X) × IsIn z xs × (p z ≡ true)) → (z : X) × IsIn z (x ∷ xs) × (p z ≡ true)
    by true is here rest = (x, inl refl, is)
    by false is here rest = let z = rest here in (z.0, inr z.1, z.2)

pub any-among : {X : Type 0} (p : X → Bool) (x : X) (xs : List X) → IsIn x xs → p x ≡ true → list_any p xs ≡ true
any-among p x [] among holds = absurd among
any-among p x (y ∷ ys) (inl same) holds = ap (λ b. b || list_any p ys) (sym (ap p same) ∙ holds)
any-among p x (y ∷ ys) (inr among) holds =
    ap (λ b. p y || b) (any-among p x ys among holds) ∙ or_true (p y)
  where
    or_true : (b : Bool) → (b || true) ≡ true
    or_true true = refl
    or_true false = refl

pub both : (a b : Bool) → (a && b) ≡ true → (a ≡ true) × (b ≡ true)
both true b is = (refl, is)
both false b is = absurd (cc)

-- ---- tables of datasets

-- Where the id of each of the one datasets is one of the others', so is each of their tables.
pub among-narrower : (ds es : List Package)
    → ((d : Package) → IsIn d ds → list_any (λ (e : Package). bytes_eq d.id e.id) es ≡ true) → (t : ResourceTable)
    → is_table_among ds t ≡ true → is_table_among es t ≡ true
among-narrower ds es within t now =
    let d = any-is (λ (d : Package). bytes_eq t.address.dataset d.id) ds now in
    subst (λ (id : List ℕ). list_any (λ (e : Package). bytes_eq id e.id) es ≡ true)
    (sym ((bytes_eq-Decides t.address.dataset d.0.id).0 d.2)) (within d.0 d.1)

-- the id of one of the datasets is among theirs
pub own-id : (d : Package) (ds : List Package) → IsIn d ds → list_any (λ (e : Package). bytes_eq d.id e.id) ds ≡ true
own-id d ds within =
    any-among (λ (e : Package). bytes_eq d.id e.id) d ds within ((bytes_eq-Decides d.id d.id).1 refl)

-- Answers on datasets ask the same of the tables that are seen and of what is seen of what they ask.
pub held_there : (ds : List Package) (ts : List ResourceTable)
    → summaries_seen ds (summaries_of ts) ≡ summaries_of (tables_seen ds ts)
held_there ds [] = refl
held_there ds (t ∷ ts) = by (is_table_among ds t) (held_there ds ts)
  where
    by : (b : Bool) → summaries_seen ds (summaries_of ts) ≡ summaries_of (tables_seen ds ts)
        → cond b (summary_of t ∷ summaries_seen ds (summaries_of ts)) (summaries_seen ds (summaries_of ts))
        ≡ summaries_of (cond b (t ∷ tables_seen ds ts) (tables_seen ds ts))
    by true rest = ap (λ l. summary_of t ∷ l) rest
    by false rest = rest

-- ---- changes of tables

-- what a test keeps of tables that are made over, where it looks at nothing that is made over
with-kept : (p : ResourceTable → Bool) (f : ResourceTable → ResourceTable) → ((t : ResourceTable) → p (f t) ≡ p t)
    → (ts : List ResourceTable) → filter p (map f (filter p ts)) ≡ filter p (map f ts)
with-kept p f same [] = refl
with-kept p f same (t ∷ ts) = by (p t) refl (with-kept p f same ts)
  where
    by : (b : Bool) → p t ≡ b → filter p (map f (filter p ts)) ≡ filter p (map f ts)
        → filter p (map f (cond b (t ∷ filter p ts) (filter p ts)))
        ≡ cond (p (f t)) (f t ∷ filter p (map f ts)) (filter p (map f ts))
    by true is rest = ap (λ l. cond (p (f t)) (f t ∷ l) l) rest
    by false is rest =
        rest ∙ sym (ap (λ b. cond b (f t ∷ filter p (map f ts)) (filter p (map f ts))) (same t ∙ is))

-- what is made over keeps its address
pub made-address : (a : Address) (make : ResourceTable → ResourceTable)
    → ((t : ResourceTable) → (make t).address ≡ t.address) → (t : ResourceTable)
    → (if is_at a t then make t else t).address ≡ t.address
made-address a make same t = by (is_at a t)
  where
    by : (b : Bool) → (if b then make t else t).address ≡ t.address
    by true = same t
    by false = refl

-- What is seen of the tables after a change hangs on what is seen of the tables.
pub tables-kept : (change : TableChange) (datasets : List Package) (tables : List ResourceTable)
    → IsAscending table_cmp tables
    → filter (is_table_among datasets) (changed_tables change (filter (is_table_among datasets) tables))
    ≡ filter (is_table_among datasets) (changed_tables change tables)
tables-kept (table.Create t) datasets tables up =
    placed-kept table_cmp table_cmp_total (is_table_among datasets) (is_table_among datasets) t tables up
    (filter_twice (is_table_among datasets) tables)
tables-kept (table.Remove a) datasets tables up =
    dropped-kept (is_table_among datasets) (is_table_among datasets) (at_address a) tables
    (filter_twice (is_table_among datasets) tables)
tables-kept (table.Put a how records) datasets tables up =
    with-kept (is_table_among datasets) (λ t. if is_at a t then put_into how records t else t)
    (λ t. ap (λ (b : Address). list_any (λ (d : Package). bytes_eq b.dataset d.id) datasets)
    (made-address a (put_into how records) (put_into-address how records) t)) tables
tables-kept (table.DeleteRows a ids) datasets tables up =
    with-kept (is_table_among datasets) (λ t. if is_at a t then without_rows ids t else t)
    (λ t. ap (λ (b : Address). list_any (λ (d : Package). bytes_eq b.dataset d.id) datasets)
    (made-address a (without_rows ids) (λ u. refl) t)) tables
