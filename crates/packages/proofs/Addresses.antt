-- When a text is a prefix followed by a suffix, and which dataset an address names.
use Rattle.std.proofs.Common.{◌≡◌, ◌≢◌, ℕ, zero, suc, ◌<◌, ◌+◌, ◌/◌, ◌%◌, eqb, Bool, true, false, cond, ◌&&◌, ◌||◌}
use Rattle.std.proofs.Common.{List, [], ◌∷◌, ◌++◌, length, take, drop, get_or, Option, Some, None, ◌⊎◌, ⊎_elim, inl}
use Rattle.std.proofs.Common.{inr}
use Rattle.std.proofs.Common.{arith, refl, sym, ap, ◌∙◌, subst}
use Rattle.std.specs.Prelude.{IsTrue, codes, decimal, nat_eq, nat_lt, ◌==◌, is_some, position}
use Rattle.std.specs.Fmt.{digits, digits_onto, digit_glyph}
use Rattle.std.specs.Option.{option_map, option_or}
use Rattle.std.specs.Str.{NoCharPasses, bytes_eq}
use Rattle.std.specs.Str.Pattern.{RFindsChar, SplitsAroundMatch}
use Rattle.std.proofs.Math.Seq.{take-append_seam}
use Rattle.std.proofs.lemmas.List.{take-append-drop}
use Rattle.std.proofs.lemmas.Bool.{eqb-true, or_cases}
use Rattle.std.proofs.lemmas.List.Quantifiers.{position-Some}
use Rattle.std.proofs.lemmas.Slice.Eq.{bytes_eq-Decides}
use Rattle.std.proofs.lemmas.Str.Pattern.{NoCharPasses-char, drop_at_char}
use Rattle.portal_base.proofs.Unique.{IsIn}
use Rattle.packages.specs.Named.{dataset_part, has_address, is_addressed, is_named, resource_address}
use Rattle.packages.specs.declared.package.Package.{Package}

nat_eq-same : (c : ℕ) → nat_eq c c ≡ true
nat_eq-same c = alone (nat_eq c c) ((bytes_eq-Decides (c ∷ []) (c ∷ [])).1 refl)
  where
    alone : (b : Bool) → (b && true) ≡ true → b ≡ true
    alone true is = refl
    alone false is = is

-- Texts with the same prefix are equal exactly if their rests are.
bytes_eq-append : (p xs ys : List ℕ) → bytes_eq (p ++ xs) (p ++ ys) ≡ bytes_eq xs ys
bytes_eq-append [] xs ys = refl
bytes_eq-append (c ∷ cs) xs ys =
    ap (λ b. b && bytes_eq (cs ++ xs) (cs ++ ys)) (nat_eq-same c) ∙ bytes_eq-append cs xs ys

-- A text with this prefix is the prefix followed by `d` exactly if its rest is `d`.
pub begins : (p d s rest : List ℕ) → bytes_eq (take (length p) s) p ≡ true → rest ≡ drop (length p) s
    → bytes_eq d rest ≡ bytes_eq (p ++ d) s
begins p d s rest is suffix =
    let whole : s ≡ p ++ rest =
    sym (take-append-drop (length p) s)
    ∙ ap (λ l. l ++ drop (length p) s) ((bytes_eq-Decides (take (length p) s) p).0 is)
    ∙ ap (λ l. p ++ l) (sym suffix) in
    sym (ap (bytes_eq (p ++ d)) whole ∙ bytes_eq-append p d rest)

-- A text without this prefix isn't the prefix followed by `d`.
pub begins_otherwise : (p d s : List ℕ) → bytes_eq (take (length p) s) p ≡ false → false ≡ bytes_eq (p ++ d) s
begins_otherwise p d s not = by (bytes_eq (p ++ d) s) refl
  where
    by : (b : Bool) → bytes_eq (p ++ d) s ≡ b → false ≡ b
    by false is = refl
    by true is =
        let whole : p ++ d ≡ s = (bytes_eq-Decides (p ++ d) s).0 is in
        let begun : take (length p) s ≡ p = ap (take (length p)) (sym whole) ∙ take-append_seam p d in
        let yes : bytes_eq (take (length p) s) p ≡ true = (bytes_eq-Decides (take (length p) s) p).1 begun in
        absurd (cc)

-- ---- what precedes the last dot

-- no byte is a dot
abbrev IsUndotted : List ℕ → Type 0
IsUndotted text = IsIn 46 text → ⊥

undotted : (text : List ℕ) → ((i : ℕ) → i < length text → get_or text i 0 ≢ 46) → IsUndotted text
undotted [] lacks m = m
undotted (b ∷ bs) lacks (inl same) = lacks 0 (omega arith) (sym same)
undotted (b ∷ bs) lacks (inr m) = undotted bs (λ i lt. lacks (suc i) (omega arith)) m

pub IsIn-middle : (c : ℕ) (xs ys : List ℕ) → IsIn c (xs ++ c ∷ ys)
IsIn-middle c [] ys = inl refl
IsIn-middle c (x ∷ xs) ys = inr (IsIn-middle c xs ys)

head_same : (x y : ℕ) (xs ys : List ℕ) → (x ∷ xs) ≡ (y ∷ ys) → x ≡ y
head_same x y xs ys same = cc

tail_same : (x y : ℕ) (xs ys : List ℕ) → (x ∷ xs) ≡ (y ∷ ys) → xs ≡ ys
tail_same x y xs ys same = cc

-- A text can be split at its last `c` in only one way.
pub before_last : (c : ℕ) (xs ys us vs : List ℕ) → (IsIn c ys → ⊥) → (IsIn c vs → ⊥) → xs ++ c ∷ ys ≡ us ++ c ∷ vs
    → xs ≡ us
before_last c [] ys [] vs none also same = refl
before_last c [] ys (u ∷ us) vs none also same =
    absurd (none (subst (IsIn c) (sym (tail_same c u ys (us ++ c ∷ vs) same)) (IsIn-middle c us vs)))
before_last c (x ∷ xs) ys [] vs none also same =
    absurd (also (subst (IsIn c) (tail_same x c (xs ++ c ∷ ys) vs same) (IsIn-middle c xs ys)))
before_last c (x ∷ xs) ys (u ∷ us) vs none also same =
    let first : x ≡ u = head_same x u (xs ++ c ∷ ys) (us ++ c ∷ vs) same in
    let others : xs ≡ us =
    before_last c xs ys us vs none also (tail_same x u (xs ++ c ∷ ys) (us ++ c ∷ vs) same) in
    ap (λ b. b ∷ xs) first ∙ ap (λ l. u ∷ l) others

-- No digit is a dot.
glyph_above : (low : Bool) (d : ℕ) → 46 < cond low (48 + d) (87 + d)
glyph_above true d = omega arith
glyph_above false d = omega arith

digits_undotted : (k n : ℕ) (suffix : List ℕ) → (IsIn 46 suffix → ⊥) → IsIn 46 (digits_onto k 10 false n suffix) → ⊥
digits_undotted zero n suffix none m = none m
digits_undotted (suc k) n suffix none m =
    by (n / 10 == 0) m (λ one. digits_undotted k (n / 10) (digit_glyph false (n % 10) ∷ suffix) one)
  where
    one : IsIn 46 (digit_glyph false (n % 10) ∷ suffix) → ⊥
    one (inl same) = let above = glyph_above (nat_lt (n % 10) 10) (n % 10) in omega (arith, above, same)
    one (inr among) = none among

    by : (last : Bool)
        → IsIn 46
        (cond last (digit_glyph false (n % 10) ∷ suffix)
        (digits_onto k 10 false (n / 10) (digit_glyph false (n % 10) ∷ suffix)))
        → ((IsIn 46 (digit_glyph false (n % 10) ∷ suffix) → ⊥)
        → IsIn 46 (digits_onto k 10 false (n / 10) (digit_glyph false (n % 10) ∷ suffix)) → ⊥) → ⊥
    by true among further = one among
    by false among further = further one among

pub decimal_undotted : (n : ℕ) → IsIn 46 (decimal n) → ⊥
unfolding digits
decimal_undotted n m = digits_undotted 64 n [] (λ none. none) m

-- If a test has a position, an item passes it.
position-passes : {X : Type 0} (test : X → Bool) (xs : List X) → is_some (position test xs) ≡ true
    → (x : X) × (test x ≡ true)
position-passes test [] some = absurd (cc)
position-passes {X} test (x ∷ xs) some = by (position test (x ∷ xs)) refl some
  where
    by : (o : Option ℕ) → position test (x ∷ xs) ≡ o → is_some o ≡ true → (y : X) × (test y ≡ true)
    by None is none = absurd (cc)
    by (Some i) is one = (get_or (x ∷ xs) i x, (position-Some test (x ∷ xs) i x is).1)

-- The address of a dataset's resource is its id or its name, followed by a dot and a number.
addressed : (address : List ℕ) (d : Package) → has_address address d ≡ true
    → (n : ℕ) × ((d.id ++ 46 ∷ decimal n ≡ address) ⊎ (d.name ++ 46 ∷ decimal n ≡ address))
addressed address d has =
    let w = position-passes (is_addressed address d) d.resources has in
    let by_id = resource_address d.id w.0.number in
    let by_name = resource_address d.name w.0.number in (
      w.0.number,
      ⊎_elim
          (λ is. inl ((bytes_eq-Decides by_id address).0 is))
          (λ is. inr ((bytes_eq-Decides by_name address).0 is))
          (or_cases (bytes_eq by_id address) (bytes_eq by_name address) w.1),
    )

or_true : (a b : Bool) → (a ≡ true) ⊎ (b ≡ true) → (a || b) ≡ true
or_true true b either = refl
or_true false b (inl is) = absurd (cc)
or_true false b (inr is) = is

-- If a dataset has a resource with an address, its id or its name is what precedes the address's last dot.
addressed_named : (address key number : List ℕ) (d : Package) → address ≡ key ++ 46 ∷ number → IsUndotted number
    → has_address address d ≡ true → is_named key d ≡ true
addressed_named address key number d split lacks has =
    let w = addressed address d has in
    let called : (name : List ℕ) → name ++ 46 ∷ decimal w.0 ≡ address → bytes_eq name key ≡ true = λ name is.
    (bytes_eq-Decides name key).1
    (before_last 46 name (decimal w.0) key number (decimal_undotted w.0) lacks (is ∙ split)) in
    ⊎_elim (λ is. or_true (bytes_eq d.id key) (bytes_eq d.name key) (inl (called d.id is)))
    (λ is. or_true (bytes_eq d.id key) (bytes_eq d.name key) (inr (called d.name is))) w.1

-- An address without a dot is that of no resource.
unaddressed : (address : List ℕ) → IsUndotted address → (d : Package) → has_address address d ≡ false
unaddressed address lacks d = by (has_address address d) refl
  where
    dotted : (name : List ℕ) (n : ℕ) → name ++ 46 ∷ decimal n ≡ address → ⊥
    dotted name n is = lacks (subst (IsIn 46) is (IsIn-middle 46 name (decimal n)))

    by : (b : Bool) → has_address address d ≡ b → b ≡ false
    by true has = let w = addressed address d has in absurd (⊎_elim (dotted d.id w.0) (dotted d.name w.0) w.1)
    by false has = refl

-- ---- the result of a split at the last dot

part_of_dotted_name : dataset_part (codes "trees.v2.10") ≡ Some (codes "trees.v2")
part_of_dotted_name = refl

part_without_a_dot : dataset_part (codes "trees") ≡ None
part_without_a_dot = refl

part_of_undotted : (text : List ℕ) → IsUndotted text → dataset_part text ≡ None
part_of_undotted [] none = refl
part_of_undotted (c ∷ cs) none =
    rw (part_of_undotted cs (λ m. none (inr m))) (ap (λ b. cond b (Some []) None) (other (c == 46) refl))
  where
    other : (b : Bool) → (c == 46) ≡ b → b ≡ false
    other true is = absurd (none (inl (sym (eqb-true c 46 is))))
    other false is = refl

part_of_split : (key number : List ℕ) → IsUndotted number → dataset_part (key ++ 46 ∷ number) ≡ Some key
part_of_split [] number none = rw (part_of_undotted number none) refl
part_of_split (c ∷ cs) number none =
    ap (λ o. option_or (option_map (λ part. c ∷ part) o) (cond (c == 46) (Some []) None))
    (part_of_split cs number none)

-- a text with a dot
pub split_at_dot : (address key number : List ℕ) → SplitsAroundMatch (RFindsChar 46) address key number
    → (Some key ≡ dataset_part address)
    × ((d : Package) → IsTrue (has_address address d) → IsTrue (is_named key d))
split_at_dot address key number split =
    let rest = drop split.1 address in
    let lacks : IsUndotted rest =
    undotted rest (λ i lt. NoCharPasses-char 46 rest i split.2.0 (omega arith) lt) in
    let whole : address ≡ key ++ 46 ∷ rest =
    sym (take-append-drop split.0 address)
    ∙ ap (λ l. take split.0 address ++ l) (drop_at_char 46 address split.0 split.1 split.2.1 (omega arith))
    ∙ ap (λ l. l ++ 46 ∷ rest) (sym split.3) in
    let is : dataset_part address ≡ Some key = ap dataset_part whole ∙ part_of_split key rest lacks in
    (sym is, λ d has. addressed_named address key rest d whole lacks has)

-- a text without a dot
pub no_dot : (address : List ℕ) → NoCharPasses (λ c. eqb c 46) address
    → (None ≡ dataset_part address) × ((d : Package) → has_address address d ≡ false)
no_dot address free =
    let lacks : IsUndotted address = undotted address (λ i lt. NoCharPasses-char 46 address i free (omega arith) lt) in
    (sym (part_of_undotted address lacks), unaddressed address lacks)
