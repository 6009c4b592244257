-- Labels: what is read is of the form, and what is of the form is read, up to what may follow a term.
use Rattle.std.proofs.Common.{◌≡◌, ℕ, ◌<◌, ◌≤◌, Bool, true, false, cond, ◌||◌, nat_eq, List, [], ◌∷◌}
use Rattle.std.proofs.Common.{◌++◌, length, Some, inl, inr, refl, sym, ap, ◌∙◌, subst, arith}
use Rattle.std.proofs.lemmas.Bool.{and_parts, and_from, or_cases, or_left, eqb-true, both_ways}
use Rattle.std.proofs.lemmas.List.{append-nil, length-append}
use Rattle.std.proofs.lemmas.Option.{same_Some, cond_some}
use Rattle.std.proofs.lemmas.Str.{length-le-encodes}
use Rattle.std.specs.List.{list_all}
use lib.Utf8.{encode, encodes}
use Rattle.ntriples.specs.Characters.{is_digit, is_pn_chars_base, is_pn_chars_u, is_pn_chars}
use Rattle.ntriples.specs.Reading.{onto, character, following}
use Rattle.ntriples.specs.Parsing.{dotted, label_rest, blank_node_label}
use Rattle.ntriples.specs.Grammar.{is_inside_label, IsLabelRest, IsLabel}
use Rattle.ntriples.proofs.NameLemmas.{dot_label, dotted_onto, following_ends}
use Rattle.ntriples.proofs.NameLemmas.{onto_onto, onto_nil}
use Rattle.ntriples.proofs.Pieces.{Takes, bind_some, character_some}

-- what may follow a term on a line: a space, a tab, `<`, or a `.` followed by a space, a tab, `#` or nothing
pub data Stops : List ℕ → Type 0 where
  space : {cs : List ℕ} → Stops (32 ∷ cs)
  tab : {cs : List ℕ} → Stops (9 ∷ cs)
  bracket : {cs : List ℕ} → Stops (60 ∷ cs)
  end : Stops (46 ∷ [])
  end_space : {cs : List ℕ} → Stops (46 ∷ 32 ∷ cs)
  end_tab : {cs : List ℕ} → Stops (46 ∷ 9 ∷ cs)
  end_comment : {cs : List ℕ} → Stops (46 ∷ 35 ∷ cs)

-- ---- labels

dot : encode 46 ≡ 46 ∷ []
unfolding encode
dot = refl

label_cons : (c : ℕ) (cs : List ℕ) → is_pn_chars c ≡ true → label_rest (c ∷ cs) ≡ onto (encode c) (label_rest cs)
unfolding label_rest
label_cons c cs e = rw e refl

record LabelAt (cs : List ℕ) (x : List ℕ × List ℕ) : Type 0 where
  pub prefix : List ℕ
  pub parts : cs ≡ prefix ++ x.1
  pub form : IsLabelRest prefix
  pub named : x.0 ≡ encodes prefix

longer : (c : ℕ) (prefix : List ℕ) → is_pn_chars c ≡ true → IsLabelRest prefix → IsLabelRest (c ∷ prefix)
longer c prefix h i = elim i [
  | inl e ↦ inr ([], c, ap (λ (t : List ℕ). c ∷ t) e, refl, h)
  | inr p ↦ inr (
    c ∷ p.0,
    p.1,
    ap (λ (t : List ℕ). c ∷ t) p.2,
    and_from (is_inside_label c) (list_all is_inside_label p.0) (or_left (is_pn_chars c) (nat_eq c 46) h) p.3,
    p.4,
  )
]

is_dot_inside : is_inside_label 46 ≡ true
unfolding is_pn_chars is_pn_chars_u is_pn_chars_base
is_dot_inside = refl

dotted_form : (prefix : List ℕ) (b : ℕ) (bs : List ℕ) → b ∷ bs ≡ encodes prefix → IsLabelRest prefix
    → IsLabelRest (46 ∷ prefix)
dotted_form prefix b bs e i = elim i [
  | inl none ↦ absurd (let no : b ∷ bs ≡ [] = e ∙ ap encodes none in cc)
  | inr p ↦ inr (
    46 ∷ p.0,
    p.1,
    ap (λ (t : List ℕ). 46 ∷ t) p.2,
    and_from (is_inside_label 46) (list_all is_inside_label p.0) is_dot_inside p.3,
    p.4,
  )
]

dotted_at : (cs : List ℕ) (x : List ℕ × List ℕ) → LabelAt cs x → LabelAt (46 ∷ cs) (dotted cs x)
dotted_at cs ([], rest) h = record { prefix = []; parts = refl; form = inl refl; named = refl }
dotted_at cs (b ∷ bs, rest) h =
    record {
      prefix = 46 ∷ h.prefix;
      parts = ap (λ (t : List ℕ). 46 ∷ t) h.parts;
      form = dotted_form h.prefix b bs h.named h.form;
      named = ap (λ (t : List ℕ). 46 ∷ t) h.named ∙ ap (λ (t : List ℕ). t ++ encodes h.prefix) (sym dot);
    }

label_by : (pn is_dot : Bool) (c : ℕ) (cs : List ℕ) → is_pn_chars c ≡ pn → nat_eq c 46 ≡ is_dot
    → LabelAt cs (label_rest cs)
    → LabelAt (c ∷ cs)
    (cond pn (onto (encode c) (label_rest cs)) (cond is_dot (dotted cs (label_rest cs)) ([], c ∷ cs)))
label_by true is_dot c cs e f h =
    record {
      prefix = c ∷ h.prefix;
      parts = ap (λ (t : List ℕ). c ∷ t) h.parts;
      form = longer c h.prefix e h.form;
      named = ap (λ (t : List ℕ). encode c ++ t) h.named;
    }
label_by false true c cs e f h =
    subst (λ (k : ℕ). LabelAt (k ∷ cs) (dotted cs (label_rest cs))) (sym (eqb-true c 46 f))
    (dotted_at cs (label_rest cs) h)
label_by false false c cs e f h = record { prefix = []; parts = refl; form = inl refl; named = refl }

label_at : (cs : List ℕ) → LabelAt cs (label_rest cs)
unfolding label_rest
label_at [] = record { prefix = []; parts = refl; form = inl refl; named = refl }
label_at (c ∷ cs) = label_by (is_pn_chars c) (nat_eq c 46) c cs refl refl (label_at cs)

pub label_some : (cs : List ℕ) (x : List ℕ × List ℕ) → blank_node_label cs ≡ Some x → Takes IsLabel cs x.0 x.1
unfolding blank_node_label
label_some cs x e =
    let p = bind_some (following 95 cs) _ x e in
    let q = bind_some (following 58 p.0) _ x p.2 in
    let r = bind_some (character q.0) _ x q.2 in
    let s = cond_some {A = List ℕ × List ℕ} (is_pn_chars_u r.0.0 || is_digit r.0.0)
    (onto (encode r.0.0) (label_rest r.0.1)) x r.2 in
    let l = label_at r.0.1 in
    record {
      prefix = 95 ∷ 58 ∷ r.0.0 ∷ l.prefix;
      parts = (following_ends 95 cs p.0 p.1).1 ∙ ap (λ (t : List ℕ). 95 ∷ t) ((following_ends 58 p.0 q.0 q.1).1
          ∙ ap (λ (t : List ℕ). 58 ∷ t) (character_some q.0 r.0 r.1 ∙ ap (λ (t : List ℕ). r.0.0 ∷ t) (l.parts
          ∙ ap (λ (y : List ℕ × List ℕ). l.prefix ++ y.1) s.1)));
      form =
          record {
            first = r.0.0;
            rest = l.prefix;
            form = refl;
            begins = s.0;
            goes_on = l.form;
            named = sym (ap (λ (y : List ℕ × List ℕ). y.0) s.1) ∙ ap (λ (t : List ℕ). encode r.0.0 ++ t) l.named;
          };
    }

inside_label : (b : Bool) (c : ℕ) (cs prefix : List ℕ) (read : List ℕ × List ℕ) → is_pn_chars c ≡ b
    → is_inside_label c ≡ true → 0 < length prefix → label_rest cs ≡ onto prefix read
    → label_rest (c ∷ cs) ≡ onto (encode c ++ prefix) read
inside_label true c cs prefix read e h some later =
    label_cons c cs e ∙ ap (onto (encode c)) later ∙ onto_onto (encode c) prefix read
inside_label false c cs prefix read e h some later = elim (or_cases (is_pn_chars c) (nat_eq c 46) h) [
  | inl pn ↦ absurd (both_ways (is_pn_chars c) e pn)
  | inr is ↦ subst (λ (k : ℕ). label_rest (k ∷ cs) ≡ onto (encode k ++ prefix) read) (sym (eqb-true c 46 is))
      (dot_label cs ∙ ap (dotted cs) later ∙ dotted_onto cs prefix read some
      ∙ ap (λ (t : List ℕ). onto (t ++ prefix) read) (sym dot))
]

ending : (inside : List ℕ) (last : ℕ) → 0 < length (encodes (inside ++ last ∷ []))
ending inside last =
    omega (arith, length-le-encodes (inside ++ last ∷ []), length-append inside (last ∷ []))

up_to_last : (inside : List ℕ) (last : ℕ) (rest : List ℕ) → list_all is_inside_label inside ≡ true
    → is_pn_chars last ≡ true
    → label_rest ((inside ++ last ∷ []) ++ rest) ≡ onto (encodes (inside ++ last ∷ [])) (label_rest rest)
up_to_last [] last rest h i =
    label_cons last rest i ∙ ap (λ (t : List ℕ). onto t (label_rest rest)) (sym (append-nil (encode last)))
up_to_last (c ∷ inside) last rest h i =
    let p = and_parts (is_inside_label c) (list_all is_inside_label inside) h in
    inside_label (is_pn_chars c) c ((inside ++ last ∷ []) ++ rest) (encodes (inside ++ last ∷ [])) (label_rest rest)
    refl p.0 (ending inside last) (up_to_last inside last rest p.1 i)

label_rest_of : (prefix rest : List ℕ) → IsLabelRest prefix
    → label_rest (prefix ++ rest) ≡ onto (encodes prefix) (label_rest rest)
label_rest_of prefix rest i = elim i [
  | inl e ↦ ap (λ (t : List ℕ). label_rest (t ++ rest)) e
      ∙ ap (λ (t : List ℕ). onto (encodes t) (label_rest rest)) (sym e)
  | inr p ↦ ap (λ (t : List ℕ). label_rest (t ++ rest)) p.2 ∙ up_to_last p.0 p.1 rest p.3 p.4
      ∙ ap (λ (t : List ℕ). onto (encodes t) (label_rest rest)) (sym p.2)
]

begun : (first : ℕ) (prefix rest : List ℕ) → (is_pn_chars_u first || is_digit first) ≡ true → IsLabelRest prefix
    → blank_node_label (95 ∷ 58 ∷ first ∷ prefix ++ rest) ≡ Some (onto (encodes (first ∷ prefix)) (label_rest rest))
unfolding blank_node_label
begun first prefix rest h i =
    rw (h, label_rest_of prefix rest i) (ap Some (onto_onto (encode first) (encodes prefix) (label_rest rest)))

-- a label, and what of a label still follows it
pub label_more : (text label rest : List ℕ) → IsLabel text label
    → blank_node_label (text ++ rest) ≡ Some (onto label (label_rest rest))
label_more text label rest l =
    ap (λ (t : List ℕ). blank_node_label (t ++ rest)) l.form ∙ begun l.first l.rest rest l.begins l.goes_on
    ∙ ap (λ (t : List ℕ). Some (onto t (label_rest rest))) (sym l.named)

label_stops : (rest : List ℕ) → Stops rest → label_rest rest ≡ ([], rest)
unfolding label_rest is_pn_chars is_pn_chars_u is_pn_chars_base
label_stops _ space = refl
label_stops _ tab = refl
label_stops _ bracket = refl
label_stops _ end = refl
label_stops _ end_space = refl
label_stops _ end_tab = refl
label_stops _ end_comment = refl

pub label_of : (text label rest : List ℕ) → IsLabel text label → Stops rest
    → blank_node_label (text ++ rest) ≡ Some (label, rest)
label_of text label rest l s =
    label_more text label rest l
    ∙ ap Some (ap (onto label) (label_stops rest s) ∙ onto_nil label rest)

pub label_longest : (text label rest : List ℕ) (x : List ℕ × List ℕ) → IsLabel text label
    → blank_node_label (text ++ rest) ≡ Some x → length x.1 ≤ length rest
label_longest text label rest x l e =
    let left = label_at rest in
    let same = same_Some {A = List ℕ × List ℕ} (onto label (label_rest rest)) x
    (sym (label_more text label rest l) ∙ e) in
    let ends : length (label_rest rest).1 ≡ length x.1 = ap (λ (y : List ℕ × List ℕ). length y.1) same in
    omega (arith, length-append left.prefix (label_rest rest).1, ap length left.parts, ends)
