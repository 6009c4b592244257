-- Texts with a direction at their end, and orders in a direction.
use Rattle.std.proofs.Common.{◌≡◌, ◌∙◌, ◌↔◌, ℕ, ◌+◌, ◌-◌, ◌<◌, ◌≤◌, Bool, true, false, ◌&&◌, cond, List, ◌++◌, length}
use Rattle.std.proofs.Common.{take, drop, get_or, refl, sym, ap, ap₂, subst, arith, append_assoc, Option, Some, None}
use Rattle.std.specs.Prelude.{codes, nat_le, nat_lt}
use Rattle.std.specs.Cmp.{IsTotalOrder}
use Rattle.std.specs.Ordering.{ordering_reverse}
use Rattle.std.specs.Str.{bytes_eq, trim_end}
use Rattle.std.specs.declared.cmp.Ordering.{Ordering}
use Rattle.std.specs.declared.cmp.Ordering.TheVariants.{Equal}
use Rattle.std.proofs.Math.Seq.{drop-append_seam}
use Rattle.std.proofs.lemmas.Bool.Decides.{nat_tests}
use Rattle.std.proofs.lemmas.List.{length-append, take-append-drop, take_at}
use Rattle.std.proofs.lemmas.Slice.Eq.{bytes_eq-Decides}
use Rattle.sorted_pages.specs.declared.direction.Direction.{Direction}
use Rattle.sorted_pages.specs.declared.direction.Direction.TheVariants.{Ascending, Descending}
use Rattle.sorted_pages.specs.Direction.{DirectedName, IsBeforeWord, IsDirected, before_space, directed, or_ascending}
use Rattle.sorted_pages.specs.Direction.{or_descending, turned, without_word}
use Rattle.sorted_pages.specs.Direction.IsDirected.{ascending, descending, undirected}

-- ---- a word at the end

ltb-of : (a b : ℕ) → a < b → nat_lt a b ≡ true
ltb-of a b h = grind (arith, nat_tests)

ltb-not : (a b : ℕ) → b ≤ a → nat_lt a b ≡ false
ltb-not a b h = grind (arith, nat_tests)

both : (a b : Bool) → (a && b) ≡ true → (a ≡ true) × (b ≡ true)
both true b h = (refl, h)
both false b h = absurd (cc)

pub without_word-none : (word text : List ℕ) → ((front : List ℕ) → text ≡ front ++ word → ⊥)
    → without_word word text ≡ None
without_word-none word text none =
    let n : ℕ = length text - length word in
    let P : Bool → Type 0 =
    λ b. (nat_le (length word) (length text) && bytes_eq (drop n text) word) ≡ b
    → cond {A = Option (List ℕ)} b (before_space (take n text)) None ≡ None in
    (elim (nat_le (length word) (length text) && bytes_eq (drop n text) word) as P [
      | true ↦ λ e.
          let parts = both (nat_le (length word) (length text)) (bytes_eq (drop n text) word) e in
          let same : drop n text ≡ word = (bytes_eq-Decides (drop n text) word).0 parts.1 in
          absurd (none (take n text) (sym (take-append-drop n text) ∙ ap (λ bs. take n text ++ bs) same))
      | false ↦ λ e. refl
    ]) refl

pub without_word-some : (word text front : List ℕ) (k : ℕ) → k ≡ length word
    → text ≡ take (length text - k) text ++ word → front ≡ take (length text - k) text → length front + k ≡ length text
    → without_word word text ≡ before_space front
without_word-some word text front k is whole split long =
    let n : ℕ = length text - length word in
    let at : n ≡ length front = omega arith in
    let joined : text ≡ front ++ word = whole ∙ ap (λ bs. bs ++ word) (sym split) in
    let after : drop n text ≡ word =
    ap (λ i. drop i text) at ∙ ap (drop (length front)) joined ∙ drop-append_seam front word in
    let here : take n text ≡ front = ap (λ i. take (length text - i) text) (sym is) ∙ sym split in
    let fits : nat_le (length word) (length text) ≡ true = grind (arith, nat_tests) in
    let same : bytes_eq (drop n text) word ≡ true = (bytes_eq-Decides (drop n text) word).1 after in
    ap (λ b. cond {A = Option (List ℕ)} (b && bytes_eq (drop n text) word) (before_space (take n text)) None) fits
    ∙ ap (λ b. cond {A = Option (List ℕ)} b (before_space (take n text)) None) same
    ∙ ap before_space here

pub before_space-some : (name front : List ℕ) → name ≡ trim_end front → length name < length front
    → Some name ≡ before_space front
before_space-some name front e lt =
    let shorter : nat_lt (length (trim_end front)) (length front) ≡ true =
    ap (λ n. nat_lt (length n) (length front)) (sym e) ∙ ltb-of (length name) (length front) lt in
    ap Some e ∙ ap (λ b. cond b (Some (trim_end front)) None) (sym shorter)

pub before_space-none : (name front : List ℕ) → name ≡ trim_end front → length front ≤ length name
    → None ≡ before_space front
before_space-none name front e le =
    let shorter : nat_lt (length (trim_end front)) (length front) ≡ false =
    ap (λ n. nat_lt (length n) (length front)) (sym e) ∙ ltb-not (length name) (length front) le in
    ap (λ b. cond b (Some (trim_end front)) None) (sym shorter)

-- ---- the grammar

ltb-is : (a b : ℕ) → nat_lt a b ≡ true → a < b
ltb-is a b h = grind (arith, nat_tests)

tail_of : (word text front : List ℕ) → text ≡ front ++ word
    → (drop (length text - length word) text ≡ word) × (take (length text - length word) text ≡ front)
tail_of word text front e =
    let long : length text ≡ length front + length word = ap length e ∙ length-append front word in
    let n : length text - length word ≡ length front = omega arith in (
      ap₂ (λ k (xs : List ℕ). drop k xs) n e ∙ drop-append_seam front word,
      ap₂ (λ k (xs : List ℕ). take k xs) n e ∙ take_at front word _ refl,
    )

word_if : (word text name : List ℕ) (n : ℕ) (front : List ℕ) → front ≡ take n text
    → (b : Bool) → (nat_le (length word) (length text) && bytes_eq (drop n text) word) ≡ b
    → (d : Bool) → nat_lt (length (trim_end front)) (length front) ≡ d
    → cond {A = Option (List ℕ)} b (cond d (Some (trim_end front)) None) None ≡ Some name → IsBeforeWord word text name
word_if word text name n front is true e true shorter made = record {
  front = front;
  whole =
      sym (take-append-drop n text)
      ∙ ap₂ (λ (xs : List ℕ) (ys : List ℕ). xs ++ ys) (sym is)
      ((bytes_eq-Decides (drop n text) word).0 (both (nat_le (length word) (length text)) _ e).1);
  trimmed = cc;
  white =
      let is_name : name ≡ trim_end front = cc in
      let lt : length (trim_end front) < length front = ltb-is (length (trim_end front)) (length front) shorter in
      subst (λ (xs : List ℕ). length xs < length front) (sym is_name) lt;
}
word_if word text name n front is true e false shorter made = absurd (cc)
word_if word text name n front is false e d shorter made = absurd (cc)

word_to : (word text name : List ℕ) → without_word word text ≡ Some name → IsBeforeWord word text name
word_to word text name e =
    word_if word text name (length text - length word) (take (length text - length word) text) refl _ refl _ refl e

word_from : (word text name : List ℕ) → IsBeforeWord word text name → without_word word text ≡ Some name
word_from word text name is =
    let parts = tail_of word text is.front is.whole in
    let long : length text ≡ length is.front + length word = ap length is.whole ∙ length-append is.front word in
    let n : ℕ = length text - length word in
    let fits : nat_le (length word) (length text) ≡ true = grind (arith, nat_tests, long) in
    let same : bytes_eq (drop n text) word ≡ true = (bytes_eq-Decides (drop n text) word).1 parts.0 in
    ap (λ b. cond {A = Option (List ℕ)} (b && bytes_eq (drop n text) word) (before_space (take n text)) None) fits
    ∙ ap (λ b. cond {A = Option (List ℕ)} b (before_space (take n text)) None) same
    ∙ ap before_space parts.1
    ∙ sym (before_space-some name is.front is.trimmed is.white)

-- A text ends with one of the two words at most.
one_word : (text one two : List ℕ) → IsBeforeWord (codes "desc") text one → IsBeforeWord (codes "asc") text two → ⊥
one_word text one two d a =
    let whole : text ≡ (d.front ++ codes "d") ++ codes "esc" =
    d.whole ∙ sym (append_assoc d.front (codes "d") (codes "esc")) in
    let ends = (tail_of (codes "esc") text (d.front ++ codes "d") whole).0 in
    let ends_too = (tail_of (codes "asc") text a.front a.whole).0 in
    apart 101 97 refl refl (ap (λ (xs : List ℕ). get_or xs 0 0) (sym ends ∙ ends_too))
  where
    apart : (a b : ℕ) → a ≡ 101 → b ≡ 97 → a ≡ b → ⊥
    apart a b p q r = omega arith

abbrev of_words : List ℕ → Option (List ℕ) → Option (List ℕ) → DirectedName
of_words text None upwards = or_ascending text upwards
of_words text (Some name) upwards = record { name = name; direction = Descending }

by_words : (text : List ℕ) → directed text ≡ of_words text (without_word (codes "desc") text) (without_word (codes "asc") text)
by_words text = of (without_word (codes "desc") text)
  where
    of : (o : Option (List ℕ)) → or_descending text o ≡ of_words text o (without_word (codes "asc") text)
    of None = refl
    of (Some name) = refl

pub directed_to : (text : List ℕ) → IsDirected text (directed text).name (directed text).direction
directed_to text =
    subst (λ (on : DirectedName). IsDirected text on.name on.direction) (sym (by_words text))
    (by (without_word (codes "desc") text) refl (without_word (codes "asc") text) refl)
  where
    none : (word : List ℕ) → without_word word text ≡ None → (name : List ℕ) → IsBeforeWord word text name → ⊥
    none word e name is = let found = word_from word text name is in absurd (cc)

    by : (o : Option (List ℕ)) → without_word (codes "desc") text ≡ o
        → (p : Option (List ℕ)) → without_word (codes "asc") text ≡ p
        → IsDirected text (of_words text o p).name (of_words text o p).direction
    by (Some name) e p f = descending name (word_to (codes "desc") text name e)
    by None e (Some name) f = ascending name (word_to (codes "asc") text name f)
    by None e None f = undirected (none (codes "desc") e) (none (codes "asc") f)

pub directed_from : (text name : List ℕ) (direction : Direction) → IsDirected text name direction
    → directed text ≡ record { name = name; direction = direction }
directed_from text _ _ (descending name is) = ap (or_descending text) (word_from (codes "desc") text name is)
directed_from text _ _ (ascending name is) =
    none (without_word (codes "desc") text) refl
    ∙ ap (or_ascending text) (word_from (codes "asc") text name is)
  where
    none : (o : Option (List ℕ)) → without_word (codes "desc") text ≡ o
        → or_descending text o ≡ or_ascending text (without_word (codes "asc") text)
    none None e = refl
    none (Some other) e = absurd (one_word text other name (word_to (codes "desc") text other e) is)
directed_from text _ _ (undirected no_desc no_asc) =
    by_words text ∙ none (without_word (codes "desc") text) refl (without_word (codes "asc") text) refl
  where
    none : (o : Option (List ℕ)) → without_word (codes "desc") text ≡ o → (p : Option (List ℕ))
        → without_word (codes "asc") text ≡ p → of_words text o p ≡ record { name = text; direction = Ascending }
    none None e None f = refl
    none (Some name) e p f = absurd (no_desc name (word_to (codes "desc") text name e))
    none None e (Some name) f = absurd (no_asc name (word_to (codes "asc") text name f))

pub directions_by_grammar : (text name : List ℕ) (direction : Direction)
    → (directed text ≡ record { name = name; direction = direction }) ↔ IsDirected text name direction
directions_by_grammar text name direction = (to, directed_from text name direction)
  where
    to : directed text ≡ record { name = name; direction = direction } → IsDirected text name direction
    to e = subst (λ (on : DirectedName). IsDirected text on.name on.direction) e (directed_to text)

-- ---- ties

-- An order ties what it ties in the other direction.
pub untied : {X : Type 0} (direction : Direction) (cmp : X → X → Ordering) → IsTotalOrder cmp → (a b : X)
    → turned direction cmp a b ≡ Equal → cmp a b ≡ Equal
untied Ascending cmp o a b e = e
untied Descending cmp o a b e = o.antisymm a b ∙ ap ordering_reverse e

pub tied : {X : Type 0} (direction : Direction) (cmp : X → X → Ordering) → IsTotalOrder cmp → (a b : X)
    → cmp a b ≡ Equal → turned direction cmp a b ≡ Equal
tied Ascending cmp o a b e = e
tied Descending cmp o a b e = o.antisymm b a ∙ ap ordering_reverse e
