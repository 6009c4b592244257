-- The parts of a job's id.
use Rattle.std.proofs.Common.{◌≡◌, ◌≢◌, ℕ, zero, suc, ◌<◌, ◌+◌, ◌/◌, ◌%◌, eqb, Bool, true, false, cond, ◌&&◌, ◌↔◌}
use Rattle.std.proofs.Common.{List, [], ◌∷◌, ◌++◌, length, take, drop, get_or, Option, Some, None, inl, inr}
use Rattle.std.proofs.Common.{arith, refl, sym, ap, ◌∙◌, append_assoc}
use Rattle.std.specs.Prelude.{decimal, nat_eq, nat_lt, ◌==◌, option_map}
use Rattle.std.specs.Fmt.{digits, digits_onto, digit_glyph}
use Rattle.std.specs.Option.{option_or}
use Rattle.std.specs.Cmp.{both_ways}
use Rattle.std.specs.Str.{NoCharPasses, bytes_eq}
use Rattle.std.specs.Str.Pattern.{RFindsChar, SplitsAroundMatch}
use Rattle.std.proofs.Math.Seq.{take-append_seam}
use Rattle.std.proofs.lemmas.List.{take-append-drop}
use Rattle.std.proofs.lemmas.Bool.{eqb-true}
use Rattle.std.proofs.lemmas.Slice.Eq.{bytes_eq-Decides}
use Rattle.std.proofs.lemmas.Str.Pattern.{NoCharPasses-char, drop_at_char}
use Rattle.portal_base.proofs.Unique.{IsIn}
use Rattle.harvest_sources.specs.Jobs.{job_id, split_job_id}

-- ---- a text that begins with a prefix

nat_eq-same : (c : ℕ) → nat_eq c c ≡ true
nat_eq-same c = alone (nat_eq c c) ((bytes_eq-Decides (c ∷ []) (c ∷ [])).1 refl)
  where
    alone : (b : Bool) → (b && true) ≡ true → b ≡ true
    alone true is = refl
    alone false is = is

-- Texts with the same prefix are equal exactly if their rests are.
bytes_eq-append : (p xs ys : List ℕ) → bytes_eq (p ++ xs) (p ++ ys) ≡ bytes_eq xs ys
bytes_eq-append [] xs ys = refl
bytes_eq-append (c ∷ cs) xs ys =
    ap (λ b. b && bytes_eq (cs ++ xs) (cs ++ ys)) (nat_eq-same c) ∙ bytes_eq-append cs xs ys

-- A text with this prefix is the prefix followed by `d` exactly if its rest is `d`.
begins : (p d s rest : List ℕ) → bytes_eq (take (length p) s) p ≡ true → rest ≡ drop (length p) s
    → bytes_eq d rest ≡ bytes_eq (p ++ d) s
begins p d s rest is suffix =
    let whole : s ≡ p ++ rest =
    sym (take-append-drop (length p) s)
    ∙ ap (λ l. l ++ drop (length p) s) ((bytes_eq-Decides (take (length p) s) p).0 is)
    ∙ ap (λ l. p ++ l) (sym suffix) in
    sym (ap (bytes_eq (p ++ d)) whole ∙ bytes_eq-append p d rest)

-- A text without this prefix isn't the prefix followed by `d`.
begins_otherwise : (p d s : List ℕ) → bytes_eq (take (length p) s) p ≡ false → false ≡ bytes_eq (p ++ d) s
begins_otherwise p d s not = by (bytes_eq (p ++ d) s) refl
  where
    by : (b : Bool) → bytes_eq (p ++ d) s ≡ b → false ≡ b
    by false is = refl
    by true is =
        let whole : p ++ d ≡ s = (bytes_eq-Decides (p ++ d) s).0 is in
        let begun : take (length p) s ≡ p = ap (take (length p)) (sym whole) ∙ take-append_seam p d in
        let yes : bytes_eq (take (length p) s) p ≡ true = (bytes_eq-Decides (take (length p) s) p).1 begun in
        absurd (cc)

-- ---- a text's last dot

-- no byte is a dot
abbrev pub IsUndotted : List ℕ → Type 0
IsUndotted text = IsIn 46 text → ⊥

undotted : (text : List ℕ) → ((i : ℕ) → i < length text → get_or text i 0 ≢ 46) → IsUndotted text
undotted [] lacks m = m
undotted (b ∷ bs) lacks (inl same) = lacks 0 (omega arith) (sym same)
undotted (b ∷ bs) lacks (inr m) = undotted bs (λ i lt. lacks (suc i) (omega arith)) m

split_of_undotted : (text : List ℕ) → IsUndotted text → split_job_id text ≡ None
split_of_undotted [] none = refl
split_of_undotted (c ∷ cs) none =
    rw (split_of_undotted cs (λ m. none (inr m))) (ap (λ b. cond b (Some ([], cs)) None) (other (c == 46) refl))
  where
    other : (b : Bool) → (c == 46) ≡ b → b ≡ false
    other true is = absurd (none (inl (sym (eqb-true c 46 is))))
    other false is = refl

abbrev front_of : Option (List ℕ × List ℕ) → List ℕ
front_of None = []
front_of (Some parts) = parts.0

abbrev back_of : Option (List ℕ × List ℕ) → List ℕ
back_of None = []
back_of (Some parts) = parts.1

-- the parts of a text, by its first byte, the bytes after it, the parts of these, and whether the first is a dot
abbrev longer : ℕ → List ℕ → Option (List ℕ × List ℕ) → Bool → Option (List ℕ × List ℕ)
longer c cs found dot =
    option_or (option_map (λ parts. (c ∷ parts.0, parts.1)) found) (cond dot (Some ([], cs)) None)

-- A text is split at a dot with no dot after it.
pub split_of_dotted : (front back : List ℕ) → IsUndotted back → split_job_id (front ++ 46 ∷ back) ≡ Some (front, back)
split_of_dotted [] back none = rw (split_of_undotted back none) refl
split_of_dotted (c ∷ cs) back none =
    ap (λ o. longer c (cs ++ 46 ∷ back) o (c == 46)) (split_of_dotted cs back none)

-- The parts of a text, with a dot between them, are the text.
pub dotted_of_split : (text front back : List ℕ) → split_job_id text ≡ Some (front, back) → text ≡ front ++ 46 ∷ back
dotted_of_split [] front back is = absurd (cc)
dotted_of_split (c ∷ cs) front back is = by (split_job_id cs) refl (c == 46) refl is (λ us vs. dotted_of_split cs us vs)
  where
    by : (found : Option (List ℕ × List ℕ)) → split_job_id cs ≡ found → (dot : Bool) → (c == 46) ≡ dot
        → longer c cs found dot ≡ Some (front, back)
        → ((us vs : List ℕ) → split_job_id cs ≡ Some (us, vs) → cs ≡ us ++ 46 ∷ vs) → c ∷ cs ≡ front ++ 46 ∷ back
    by (Some parts) rest dot is_dot same further =
        let front_is : c ∷ parts.0 ≡ front = ap front_of same in
        let back_is : parts.1 ≡ back = ap back_of same in
        ap (λ l. c ∷ l) (further parts.0 parts.1 rest)
        ∙ ap (λ l. l ++ 46 ∷ parts.1) front_is
        ∙ ap (λ l. front ++ 46 ∷ l) back_is
    by None rest true is_dot same further =
        let front_is : [] ≡ front = ap front_of same in
        let back_is : cs ≡ back = ap back_of same in
        ap (λ x. x ∷ cs) (eqb-true c 46 is_dot)
        ∙ ap (λ l. l ++ 46 ∷ cs) front_is
        ∙ ap (λ l. front ++ 46 ∷ l) back_is
    by None rest false is_dot same further = absurd (cc)

-- ---- the split of an id at its last dot

-- an id with a dot
pub split_at_dot : (id front back : List ℕ) → SplitsAroundMatch (RFindsChar 46) id front back
    → Some (front, back) ≡ split_job_id id
split_at_dot id front back split =
    let rest = drop split.1 id in
    let lacks : IsUndotted rest =
    undotted rest (λ i lt. NoCharPasses-char 46 rest i split.2.0 (omega arith) lt) in
    let whole : id ≡ front ++ 46 ∷ rest =
    sym (take-append-drop split.0 id)
    ∙ ap (λ l. take split.0 id ++ l) (drop_at_char 46 id split.0 split.1 split.2.1 (omega arith))
    ∙ ap (λ l. l ++ 46 ∷ rest) (sym split.3) in
    let is : split_job_id id ≡ Some (front, rest) = ap split_job_id whole ∙ split_of_dotted front rest lacks in
    sym (is ∙ ap (λ l. Some (front, l)) (sym split.4))

-- an id without a dot
pub no_dot : (id : List ℕ) → NoCharPasses (λ c. eqb c 46) id → None ≡ split_job_id id
no_dot id free =
    sym (split_of_undotted id (undotted id (λ i lt. NoCharPasses-char 46 id i free (omega arith) lt)))

-- ---- ids of jobs

-- No digit is a dot.
glyph_above : (low : Bool) (d : ℕ) → 46 < cond low (48 + d) (87 + d)
glyph_above true d = omega arith
glyph_above false d = omega arith

digits_undotted : (k n : ℕ) (suffix : List ℕ) → (IsIn 46 suffix → ⊥) → IsIn 46 (digits_onto k 10 false n suffix) → ⊥
digits_undotted zero n suffix none m = none m
digits_undotted (suc k) n suffix none m =
    by (n / 10 == 0) m (λ one. digits_undotted k (n / 10) (digit_glyph false (n % 10) ∷ suffix) one)
  where
    one : IsIn 46 (digit_glyph false (n % 10) ∷ suffix) → ⊥
    one (inl same) = let above = glyph_above (nat_lt (n % 10) 10) (n % 10) in omega (arith, above, same)
    one (inr among) = none among

    by : (last : Bool)
        → IsIn 46
        (cond last (digit_glyph false (n % 10) ∷ suffix)
        (digits_onto k 10 false (n / 10) (digit_glyph false (n % 10) ∷ suffix)))
        → ((IsIn 46 (digit_glyph false (n % 10) ∷ suffix) → ⊥)
        → IsIn 46 (digits_onto k 10 false (n / 10) (digit_glyph false (n % 10) ∷ suffix)) → ⊥) → ⊥
    by true among further = one among
    by false among further = further one among

pub decimal_undotted : (n : ℕ) → IsUndotted (decimal n)
unfolding digits
decimal_undotted n m = digits_undotted 64 n [] (λ none. none) m

-- a job's id, with its dot
pub job_id-dotted : (source : List ℕ) (number : ℕ) → job_id source number ≡ source ++ 46 ∷ decimal number
job_id-dotted source number = append_assoc source (46 ∷ []) (decimal number)

-- The parts of a job's id are its source's name and its number.
pub split_of_job_id : (source : List ℕ) (number : ℕ)
    → split_job_id (job_id source number) ≡ Some (source, decimal number)
split_of_job_id source number =
    ap split_job_id (job_id-dotted source number)
    ∙ split_of_dotted source (decimal number) (decimal_undotted number)

-- A text is a job's id exactly if its parts are the source's name and the number.
pub job_id-parts : (id source : List ℕ) (number : ℕ)
    → (job_id source number ≡ id) ↔ (split_job_id id ≡ Some (source, decimal number))
job_id-parts id source number = (
  λ same. ap split_job_id (sym same) ∙ split_of_job_id source number,
  λ parts. job_id-dotted source number ∙ sym (dotted_of_split id source (decimal number) parts),
)

-- a text with parts
pub is_id-parts : (id source front back : List ℕ) (number : ℕ) → split_job_id id ≡ Some (front, back)
    → bytes_eq (job_id source number) id ≡ (bytes_eq source front && bytes_eq (decimal number) back)
is_id-parts id source front back number split =
    both_ways _ _
    (λ is.
    let same : split_job_id id ≡ Some (source, decimal number) =
    (job_id-parts id source number).0 ((bytes_eq-Decides (job_id source number) id).0 is) in
    let parts = sym same ∙ split in
    both (bytes_eq source front) (bytes_eq (decimal number) back)
    ((bytes_eq-Decides source front).1 (ap front_of parts))
    ((bytes_eq-Decides (decimal number) back).1 (ap back_of parts)))
    (λ is.
    let each = each_of (bytes_eq source front) (bytes_eq (decimal number) back) is in
    let source_is : source ≡ front = (bytes_eq-Decides source front).0 each.0 in
    let number_is : decimal number ≡ back = (bytes_eq-Decides (decimal number) back).0 each.1 in
    (bytes_eq-Decides (job_id source number) id).1
    (job_id-dotted source number
    ∙ ap (λ l. l ++ 46 ∷ decimal number) source_is
    ∙ ap (λ l. front ++ 46 ∷ l) number_is
    ∙ sym (dotted_of_split id front back split)))
  where
    both : (a b : Bool) → a ≡ true → b ≡ true → (a && b) ≡ true
    both true b is also = also
    both false b is also = is

    each_of : (a b : Bool) → (a && b) ≡ true → (a ≡ true) × (b ≡ true)
    each_of true b is = (refl, is)
    each_of false b is = absurd (cc)

-- a text without parts
pub is_id-none : (id source : List ℕ) (number : ℕ) → split_job_id id ≡ None
    → bytes_eq (job_id source number) id ≡ false
is_id-none id source number none = by (bytes_eq (job_id source number) id) refl
  where
    by : (b : Bool) → bytes_eq (job_id source number) id ≡ b → b ≡ false
    by false is = refl
    by true is =
        let some = (job_id-parts id source number).0 ((bytes_eq-Decides (job_id source number) id).0 is) in
        absurd (cc)

-- Whether a text is a job's id, by what follows the source's name and the dot.
pub is_id : (id source digits name_rest rest : List ℕ) → bytes_eq (take (length source) id) source ≡ true
    → name_rest ≡ drop (length source) id → bytes_eq (take 1 name_rest) (46 ∷ []) ≡ true → rest ≡ drop 1 name_rest
    → bytes_eq digits rest ≡ bytes_eq ((source ++ 46 ∷ []) ++ digits) id
is_id id source digits name_rest rest named is_rest dotted is_digits =
    begins (46 ∷ []) digits name_rest rest dotted is_digits
    ∙ begins source (46 ∷ digits) id name_rest named is_rest
    ∙ ap (λ l. bytes_eq l id) (sym (append_assoc source (46 ∷ []) digits))

pub is_no_id_undotted : (id source digits name_rest : List ℕ) → bytes_eq (take (length source) id) source ≡ true
    → name_rest ≡ drop (length source) id → bytes_eq (take 1 name_rest) (46 ∷ []) ≡ false
    → false ≡ bytes_eq ((source ++ 46 ∷ []) ++ digits) id
is_no_id_undotted id source digits name_rest named is_rest dotted =
    begins_otherwise (46 ∷ []) digits name_rest dotted
    ∙ begins source (46 ∷ digits) id name_rest named is_rest
    ∙ ap (λ l. bytes_eq l id) (sym (append_assoc source (46 ∷ []) digits))

pub is_no_id : (id source digits : List ℕ) → bytes_eq (take (length source) id) source ≡ false
    → false ≡ bytes_eq ((source ++ 46 ∷ []) ++ digits) id
is_no_id id source digits named =
    begins_otherwise source (46 ∷ digits) id named
    ∙ ap (λ l. bytes_eq l id) (sym (append_assoc source (46 ∷ []) digits))
