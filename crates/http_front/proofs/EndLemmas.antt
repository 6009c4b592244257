-- Where a text ends that may become a head: with one of two short ends it is one already, or no field of it has begun.
use Rattle.std.proofs.Common.{◌≡◌, ℕ, ◌⊎◌, List, [], ◌∷◌, ◌++◌, ◌∙◌, refl, sym, ap, subst, append_assoc}
use Rattle.std.proofs.Common.{arith, inl, inr, append-nil, flat_map, All, true, IsTrue}
use Rattle.std.specs.Prelude.{codes}
use Rattle.std.proofs.lemmas.List.Elements.{All-cons, All-nil, All-head, All-tail}
use Rattle.httparse.specs.Grammar.{LineEnd, crlf, lf, print_end, Field, print_field, IsField}
use Rattle.httparse.specs.Grammar.{is_token_byte, is_value_byte, AllPass}

-- What completes a head when it is appended to a text that ends inside a field line, or where a field line may begin:
-- the end of a name, of that line and of the head; or the two line ends without a name's. No field line begins so.
abbrev pub IsEnding : List ℕ → Type 0
IsEnding ending = (ending ≡ codes ":\n\n") ⊎ (ending ≡ codes "\n\n")

-- the first of two lists ends within the first of the two others, or beyond it
abbrev pub Within : List ℕ → List ℕ → List ℕ → List ℕ → Type 0
Within a b x y = (z : List ℕ) × (x ≡ a ++ z) × (b ≡ z ++ y)

abbrev pub Beyond : List ℕ → List ℕ → List ℕ → List ℕ → Type 0
Beyond a b x y = (c : ℕ) × (z : List ℕ) × (a ≡ x ++ c ∷ z) × (y ≡ c ∷ (z ++ b))

pub parted : (a b x y : List ℕ) → a ++ b ≡ x ++ y → Within a b x y ⊎ Beyond a b x y
parted [] b x y e = inl (x, refl, e)
parted (c ∷ a) b [] y e = inr (c, a, refl, sym e)
parted (c ∷ a) b (d ∷ x) y e =
    let first : c ≡ d = cc in
    let rest : a ++ b ≡ x ++ y = cc in
    elim (parted a b x y rest) [
      | inl s ↦ inl (s.0, cc (first, s.1), s.2)
      | inr l ↦ inr (l.0, l.1, cc (first, l.2), l.3)
    ]

pub all_front : {X : Type 0} (P : X → Type 0) (a b : List X) → All P (a ++ b) → All P a
all_front P [] b h = All-nil P
all_front P (x ∷ a) b h = All-cons P x a (All-head P x (a ++ b) h) (all_front P a b (All-tail P x (a ++ b) h))

pub all_back : {X : Type 0} (P : X → Type 0) (a b : List X) → All P (a ++ b) → All P b
all_back P [] b h = h
all_back P (x ∷ a) b h = all_back P a b (All-tail P x (a ++ b) h)

-- with one of the endings the text is some field lines, a line end, and what follows
pub record Closes (text : List ℕ) : Type 0 where
  pub ending : List ℕ
  pub is_ending : IsEnding ending
  pub fields : List Field
  pub valid : All IsField fields
  pub last : LineEnd
  pub rest : List ℕ
  pub reads : text ++ ending ≡ (flat_map print_field fields ++ print_end last) ++ rest

closed : (text rest : List ℕ) (last : LineEnd) → text ++ 10 ∷ 10 ∷ [] ≡ print_end last ++ rest → Closes text
closed text rest last e = record {
  ending = 10 ∷ 10 ∷ [];
  is_ending = inr refl;
  fields = [];
  valid = All-nil IsField;
  last = last;
  rest = rest;
  reads = e;
}

-- a line end that has begun is closed by one line feed
end_closed : (c : ℕ) (y z : List ℕ) (end : LineEnd) → print_end end ≡ (c ∷ y) ++ z
    → (last : LineEnd) × (rest : List ℕ) × ((c ∷ y) ++ 10 ∷ 10 ∷ [] ≡ print_end last ++ 10 ∷ rest)
end_closed c [] z lf e = let first : c ≡ 10 = cc in (lf, 10 ∷ [], ap (λ v. v ∷ 10 ∷ 10 ∷ []) first)
end_closed c (d ∷ y) z lf e = absurd (cc)
end_closed c [] z crlf e = let first : c ≡ 13 = cc in (crlf, [], ap (λ v. v ∷ 10 ∷ 10 ∷ []) first)
end_closed c (d ∷ []) z crlf e =
    let first : c ≡ 13 = cc in
    let second : d ≡ 10 = cc in
    (crlf, 10 ∷ [], cc (first, second))
end_closed c (d ∷ x ∷ y) z crlf e = absurd (cc)

close_end : (y more : List ℕ) (last : LineEnd) → y ++ more ≡ print_end last → Closes y
close_end [] more last e = closed [] (10 ∷ []) lf refl
close_end (c ∷ y) more last e =
    let end = end_closed c y more last (sym e) in closed (c ∷ y) (10 ∷ end.1) end.0 end.2

pub field_parts : (f : Field) → print_field f ≡ f.name ++ 58 ∷ (f.raw ++ print_end f.end)
field_parts f = simp append_assoc

one_line : (y w rest : List ℕ) (f : Field) (last : LineEnd) → IsEnding w → IsField f
    → y ++ w ≡ print_field f ++ (print_end last ++ rest) → Closes y
one_line y w rest f last is valid e = record {
  ending = w;
  is_ending = is;
  fields = f ∷ [];
  valid = All-cons IsField f [] valid (All-nil IsField);
  last = last;
  rest = rest;
  reads = e ∙ regroup (print_field f) (print_end last) rest;
}
  where
    regroup : (a b c : List ℕ) → a ++ (b ++ c) ≡ ((a ++ []) ++ b) ++ c
    regroup a b c = simp (append_assoc, append-nil)

-- a name that has begun
close_name : (c : ℕ) (y z name : List ℕ) → AllPass is_token_byte name → name ≡ (c ∷ y) ++ z → Closes (c ∷ y)
close_name c y z name all e =
    let f : Field = record { name = c ∷ y; raw = []; end = lf } in
    let token = all_front (λ v. is_token_byte v ≡ true) (c ∷ y) z (subst (All (λ v. is_token_byte v ≡ true)) e all) in
    one_line (c ∷ y) (58 ∷ 10 ∷ 10 ∷ []) [] f lf (inl refl)
    (record { name = (omega arith, token); raw = All-nil (λ v. IsTrue (is_value_byte v)) }) (regroup (c ∷ y))
  where
    regroup : (a : List ℕ) → a ++ (58 ∷ 10 ∷ 10 ∷ []) ≡ ((a ++ 58 ∷ []) ++ 10 ∷ []) ++ 10 ∷ []
    regroup a = simp append_assoc

abbrev IsValue : ℕ → Type 0
IsValue v = IsTrue (is_value_byte v)

-- a value that has begun
close_value : (f : Field) (y z : List ℕ) → IsField f → f.raw ≡ y ++ z → Closes (f.name ++ 58 ∷ y)
close_value f y z valid e =
    let g : Field = record { name = f.name; raw = y; end = lf } in
    one_line (f.name ++ 58 ∷ y) (10 ∷ 10 ∷ []) [] g lf (inr refl)
    (record { name = valid.name; raw = all_front IsValue y z (subst (All IsValue) e valid.raw) })
    (regroup (f.name ++ 58 ∷ y))
  where
    regroup : (a : List ℕ) → a ++ (10 ∷ 10 ∷ []) ≡ (a ++ 10 ∷ []) ++ 10 ∷ []
    regroup a = simp append_assoc

-- the end of a field line that has begun
close_field_end : (f : Field) (c : ℕ) (y z : List ℕ) → IsField f → print_end f.end ≡ (c ∷ y) ++ z
    → Closes (f.name ++ 58 ∷ (f.raw ++ c ∷ y))
close_field_end f c y z valid e =
    let end = end_closed c y z f.end e in
    let g : Field = record { name = f.name; raw = f.raw; end = end.0 } in
    one_line (f.name ++ 58 ∷ (f.raw ++ c ∷ y)) (10 ∷ 10 ∷ []) end.1 g lf (inr refl)
    (record { name = valid.name; raw = valid.raw })
    (lines f.name f.raw (c ∷ y) (print_end end.0) end.1 end.2)
  where
    lines : (name raw y end rest : List ℕ) → y ++ 10 ∷ 10 ∷ [] ≡ end ++ 10 ∷ rest
        → (name ++ 58 ∷ (raw ++ y)) ++ 10 ∷ 10 ∷ [] ≡ ((name ++ 58 ∷ raw) ++ end) ++ (10 ∷ rest)
    lines name raw y end rest e = one name raw y (10 ∷ 10 ∷ [])
        ∙ ap (λ v. name ++ 58 ∷ (raw ++ v)) e ∙ sym (other name raw end (10 ∷ rest))
      where
        one : (a b c d : List ℕ) → (a ++ 58 ∷ (b ++ c)) ++ d ≡ a ++ 58 ∷ (b ++ (c ++ d))
        one a b c d = simp append_assoc

        other : (a b c d : List ℕ) → ((a ++ 58 ∷ b) ++ c) ++ d ≡ a ++ 58 ∷ (b ++ (c ++ d))
        other a b c d = simp append_assoc

-- what follows a name that has come whole
close_after_name : (f : Field) (y z : List ℕ) → IsField f → y ++ z ≡ f.raw ++ print_end f.end
    → Closes (f.name ++ 58 ∷ y)
close_after_name f y z valid e =
    elim (parted y z f.raw (print_end f.end) e) [
      | inl s ↦ close_value f y s.0 valid s.1
      | inr l ↦ subst (λ v. Closes (f.name ++ 58 ∷ v)) (sym l.2)
          (close_field_end f l.0 l.1 z valid l.3)
    ]

close_line : (f : Field) (y z : List ℕ) → IsField f → print_field f ≡ y ++ z → Closes y
close_line f [] z valid e = closed [] (10 ∷ []) lf refl
close_line f (c ∷ y) z valid e =
    elim (parted (c ∷ y) z f.name (58 ∷ (f.raw ++ print_end f.end)) (sym e ∙ field_parts f)) [
      | inl s ↦ close_name c y s.0 f.name valid.name.1 s.1
      | inr l ↦
          let colon : 58 ≡ l.0 = cc (l.3) in
          let after : l.1 ++ z ≡ f.raw ++ print_end f.end = cc (l.3) in
          subst Closes (sym l.2) (subst (λ v. Closes (f.name ++ v ∷ l.1)) colon (close_after_name f l.1 z valid after))
    ]

add_line : (f : Field) (text y : List ℕ) → IsField f → text ≡ print_field f ++ y → Closes y → Closes text
add_line f text y valid e cl = record {
  ending = cl.ending;
  is_ending = cl.is_ending;
  fields = f ∷ cl.fields;
  valid = All-cons IsField f cl.fields valid cl.valid;
  last = cl.last;
  rest = cl.rest;
  reads = ap (λ v. v ++ cl.ending) e ∙ append_assoc (print_field f) y cl.ending
      ∙ ap (λ v. print_field f ++ v) cl.reads
      ∙ regroup (print_field f) (flat_map print_field cl.fields) (print_end cl.last) cl.rest;
}
  where
    regroup : (a b c d : List ℕ) → a ++ ((b ++ c) ++ d) ≡ ((a ++ b) ++ c) ++ d
    regroup a b c d = simp append_assoc

-- field lines that have begun
pub close_lines : (fields : List Field) (last : LineEnd) (y more : List ℕ) → All IsField fields
    → y ++ more ≡ flat_map print_field fields ++ print_end last → Closes y
close_lines [] last y more valid e = close_end y more last e
close_lines (f ∷ fields) last y more valid e =
    elim (parted y more (print_field f) (flat_map print_field fields ++ print_end last)
    (e ∙ append_assoc (print_field f) (flat_map print_field fields) (print_end last))) [
      | inl s ↦ close_line f y s.0 (All-head IsField f fields valid) s.1
      | inr l ↦ add_line f y (l.0 ∷ l.1) (All-head IsField f fields valid) l.2
          (close_lines fields last (l.0 ∷ l.1) more (All-tail IsField f fields valid) (sym l.3))
    ]
