-- An index that is filled from a shelf, number by number.
use Rattle.std.proofs.Common.{◌≡◌, ◌∙◌, ◌<◌, ℕ, zero, suc, ◌+◌, not, cond, List, [], ◌∷◌, Some}
use Rattle.std.proofs.Common.{refl, sym, subst, ap, length, arith, take, get_or, inl, inr}
use Rattle.std.specs.Prelude.{map}
use Rattle.std.specs.declared.cmp.Ordering.{Ordering}
use Rattle.std.specs.declared.cmp.Ordering.TheVariants.{Less}
use Rattle.std.specs.Ordering.{is_eq, is_lt}
use Rattle.std.proofs.lemmas.List.{length-map}
use Rattle.portal_base.specs.Ordered.{IsAscending, dropped, inserted, upserted}
use Rattle.portal_base.proofs.Unique.{IsIn, below_in}
use Rattle.packages.specs.Shelf.{IsValidShelf, ShelfState, number_cmp, package_at}
use Rattle.packages.specs.declared.package.Package.{Package}
use Rattle.packages.proofs.EntryLemmas.{package_at-IsIn}
use Rattle.search_index.specs.Index.{Entry, entry_cmp, entry_of}
use Rattle.search_index.proofs.EntryLemmas.{map_upserted}

-- An item that follows another is upserted after it.
follows : {X : Type 0} (cmp : X → X → Ordering) (x e : X) (xs ys : List X) → cmp x e ≡ Less
    → upserted cmp e xs ≡ ys → upserted cmp e (x ∷ xs) ≡ x ∷ ys
follows {X} cmp x e xs ys below same =
    ap (λ r. inserted cmp e (cond (not (is_eq r)) (x ∷ rest) rest)) below
    ∙ ap (λ r. cond (is_lt r) (x ∷ inserted cmp e rest) (e ∷ x ∷ rest)) below
    ∙ ap (λ z. x ∷ z) same
  where
    rest : List X
    rest = dropped (λ y. cmp y e) xs

-- the entry at the index: its number is the one there, and it is upserted at the end of those before it
abbrev pub IsNext : ℕ → List (ℕ × Package) → ℕ × Package → Type 0
IsNext i es e =
    (get_or (map (λ f. f.0) es) i 0 ≡ e.0) × IsIn e es × (upserted number_cmp e (take i es) ≡ take (suc i) es)

next_entry : (i : ℕ) (es : List (ℕ × Package)) → IsAscending number_cmp es → i < length es
    → (e : ℕ × Package) × IsNext i es e
next_entry i [] up within = absurd (omega (arith, within))
next_entry zero (x ∷ xs) up within = (x, (refl, inl refl, refl))
next_entry (suc i) (x ∷ xs) up within = by (next_entry i xs up.1 (omega (arith, within)))
  where
    by : ((e : ℕ × Package) × IsNext i xs e) → (e : ℕ × Package) × IsNext (suc i) (x ∷ xs) e
    by found = (
      found.0,
      (
        found.1.0,
        inr found.1.1,
        follows number_cmp x found.0 (take i xs) (take (suc i) xs)
            (below_in number_cmp x found.0 xs up.0 found.1.1) found.1.2,
      ),
    )

-- The terms of the dataset at the next number are entered after those of the datasets before it.
pub filled-more : (shelf : ShelfState) → IsValidShelf shelf → (numbers : List ℕ) (i : ℕ) → numbers ≡ map (λ e. e.0) shelf.entries
    → i < length numbers → (before after : List Entry) → before ≡ map entry_of (take i shelf.entries)
    → ((d : Package) → package_at (get_or numbers i 0) shelf ≡ Some d
    → after ≡ upserted entry_cmp (entry_of (get_or numbers i 0, d)) before)
    → after ≡ map entry_of (take (i + 1) shelf.entries)
filled-more shelf valid numbers i all within before after so_far entered =
    by (next_entry i shelf.entries valid.numbers (omega (arith, within, count)))
  where
    more : suc i ≡ i + 1
    more = omega arith

    count : length numbers ≡ length shelf.entries
    count = ap length all ∙ length-map shelf.entries (λ e. e.0)

    by : ((e : ℕ × Package) × IsNext i shelf.entries e) → after ≡ map entry_of (take (i + 1) shelf.entries)
    by found =
        let number : get_or numbers i 0 ≡ found.0.0 = ap (λ (ns : List ℕ). get_or ns i 0) all ∙ found.1.0 in
        let there : package_at found.0.0 shelf ≡ Some found.0.1 =
        package_at-IsIn found.0.0 found.0.1 shelf.entries valid.numbers found.1.1 in
        entered found.0.1 (subst (λ (n : ℕ). package_at n shelf ≡ Some found.0.1) (sym number) there)
        ∙ ap (λ (n : ℕ). upserted entry_cmp (entry_of (n, found.0.1)) before) number
        ∙ ap (upserted entry_cmp (entry_of found.0)) so_far
        ∙ map_upserted found.0.0 found.0.1 (take i shelf.entries)
        ∙ ap (map entry_of) found.1.2
        ∙ ap (λ k. map entry_of (take k shelf.entries)) more
