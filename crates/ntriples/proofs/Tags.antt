-- Language tags: what is read is of the form, and what is of the form is read, up to what may follow a term.
use Rattle.std.proofs.Common.{◌≡◌, ℕ, zero, suc, ◌<◌, ◌≤◌, Bool, true, false, cond, List, [], ◌∷◌, ◌++◌, length}
use Rattle.std.proofs.Common.{Option, Some, None, refl, sym, ap, ◌∙◌, subst, arith, append_assoc}
use Rattle.std.proofs.lemmas.Bool.{and_parts, and_from}
use Rattle.std.proofs.lemmas.List.{length-append}
use Rattle.std.proofs.lemmas.Option.{none-some, same_Some}
use Rattle.std.proofs.lemmas.Str.{encodes-append}
use Rattle.std.specs.List.{list_all}
use lib.Utf8.{encode, encodes}
use Rattle.ntriples.specs.declared.names.Class.{Class}
use Rattle.ntriples.specs.declared.names.Class.TheVariants.{Letters, Alphanumerics}
use Rattle.ntriples.specs.Reading.{onto, prepended, following}
use Rattle.ntriples.specs.Parsing.{is_in, begins_in, run, some_of, tag_part, subtags_from, langtag}
use Rattle.ntriples.specs.Grammar.{is_alphanumeric, are_some, hyphened, IsLanguage}
use Rattle.ntriples.proofs.NameLemmas.{run_cons, run_none, following_ends, subtags_cons, subtags_end, subtags_none}
use Rattle.ntriples.proofs.NameLemmas.{tag_part_some, hyphen, onto_onto, onto_nil}
use Rattle.ntriples.proofs.Pieces.{Takes, bind_some}
use Rattle.ntriples.proofs.Labels.{Stops}
use Rattle.ntriples.proofs.Labels.Stops.{space, tab, bracket, end, end_space, end_tab, end_comment}

-- ---- parts

record RunAt (class : Class) (cs : List ℕ) (x : List ℕ × List ℕ) : Type 0 where
  pub prefix : List ℕ
  pub parts : cs ≡ prefix ++ x.1
  pub all : list_all (is_in class) prefix ≡ true
  pub named : x.0 ≡ encodes prefix

run_by : (b : Bool) (class : Class) (c : ℕ) (cs : List ℕ) → is_in class c ≡ b → RunAt class cs (run class cs)
    → RunAt class (c ∷ cs) (cond b (onto (encode c) (run class cs)) ([], c ∷ cs))
run_by true class c cs e h =
    record {
      prefix = c ∷ h.prefix;
      parts = ap (λ (t : List ℕ). c ∷ t) h.parts;
      all = and_from (is_in class c) (list_all (is_in class) h.prefix) e h.all;
      named = ap (λ (t : List ℕ). encode c ++ t) h.named;
    }
run_by false class c cs e h = record { prefix = []; parts = refl; all = refl; named = refl }

run_at : (class : Class) (cs : List ℕ) → RunAt class cs (run class cs)
unfolding run
run_at class [] = record { prefix = []; parts = refl; all = refl; named = refl }
run_at class (c ∷ cs) = run_by (is_in class c) class c cs refl (run_at class cs)

record PartAt (class : Class) (cs : List ℕ) (x : List ℕ × List ℕ) : Type 0 where
  pub prefix : List ℕ
  pub parts : cs ≡ prefix ++ x.1
  pub some : are_some (is_in class) prefix ≡ true
  pub named : x.0 ≡ encodes prefix

some_prefix : (class : Class) (prefix : List ℕ) (b : ℕ) (bs : List ℕ) → b ∷ bs ≡ encodes prefix
    → list_all (is_in class) prefix ≡ true → are_some (is_in class) prefix ≡ true
some_prefix class [] b bs e h = absurd cc
some_prefix class (c ∷ prefix) b bs e h = h

part_by : (class : Class) (cs : List ℕ) (r x : List ℕ × List ℕ) → RunAt class cs r → some_of r ≡ Some x
    → PartAt class cs x
part_by class cs ([], rest) x h e = absurd (none-some x e)
part_by class cs (b ∷ bs, rest) x h e =
    subst (PartAt class cs) (same_Some {A = List ℕ × List ℕ} (b ∷ bs, rest) x e)
    (record {
      prefix = h.prefix;
      parts = h.parts;
      some = some_prefix class h.prefix b bs h.named h.all;
      named = h.named;
    })

part_some : (class : Class) (cs : List ℕ) (x : List ℕ × List ℕ) → tag_part class cs ≡ Some x → PartAt class cs x
unfolding tag_part
part_some class cs x e = part_by class cs (run class cs) x (run_at class cs) e

run_of : (class : Class) (prefix rest : List ℕ) → list_all (is_in class) prefix ≡ true
    → run class (prefix ++ rest) ≡ onto (encodes prefix) (run class rest)
run_of class [] rest h = refl
run_of class (c ∷ prefix) rest h =
    let p = and_parts (is_in class c) (list_all (is_in class) prefix) h in
    run_cons class c (prefix ++ rest) p.0 ∙ ap (onto (encode c)) (run_of class prefix rest p.1)
    ∙ onto_onto (encode c) (encodes prefix) (run class rest)

-- a part, and what of it still follows
part_more : (class : Class) (prefix rest : List ℕ) → are_some (is_in class) prefix ≡ true
    → tag_part class (prefix ++ rest) ≡ Some (onto (encodes prefix) (run class rest))
part_more class [] rest h = absurd cc
part_more class (c ∷ prefix) rest h =
    tag_part_some class (c ∷ prefix ++ rest) (and_parts (is_in class c) (list_all (is_in class) prefix) h).0
    ∙ ap Some (run_of class (c ∷ prefix) rest h)

part_of : (class : Class) (prefix rest : List ℕ) → are_some (is_in class) prefix ≡ true → begins_in class rest ≡ false
    → tag_part class (prefix ++ rest) ≡ Some (encodes prefix, rest)
part_of class prefix rest h e =
    part_more class prefix rest h
    ∙ ap Some (ap (onto (encodes prefix)) (run_none class rest e) ∙ onto_nil (encodes prefix) rest)

-- ---- subtags

record SubtagsAt (cs : List ℕ) (x : List ℕ × List ℕ) : Type 0 where
  pub subtags : List (List ℕ)
  pub parts : cs ≡ hyphened subtags ++ x.1
  pub good : list_all (are_some is_alphanumeric) subtags ≡ true
  pub named : x.0 ≡ encodes (hyphened subtags)

hyphened_part : (prefix more : List ℕ) → 45 ∷ encodes prefix ++ encodes more ≡ encodes ((45 ∷ prefix) ++ more)
hyphened_part prefix more =
    ap (λ (t : List ℕ). 45 ∷ t) (sym (encodes-append prefix more))
    ∙ ap (λ (t : List ℕ). t ++ encodes (prefix ++ more)) (sym hyphen)

one_more : (cs : List ℕ) (y z : List ℕ × List ℕ) → PartAt Alphanumerics cs y → SubtagsAt y.1 z
    → SubtagsAt (45 ∷ cs) (onto (45 ∷ y.0) z)
one_more cs y z p s =
    record {
      subtags = p.prefix ∷ s.subtags;
      parts = ap (λ (t : List ℕ). 45 ∷ t) (p.parts ∙ ap (λ (t : List ℕ). p.prefix ++ t) s.parts
          ∙ sym (append_assoc p.prefix (hyphened s.subtags) z.1));
      good = and_from (are_some is_alphanumeric p.prefix) (list_all (are_some is_alphanumeric) s.subtags) p.some s.good;
      named = ap (λ (t : List ℕ). 45 ∷ t ++ z.0) p.named ∙ ap (λ (t : List ℕ). 45 ∷ encodes p.prefix ++ t) s.named
          ∙ hyphened_part p.prefix (hyphened s.subtags);
    }

abbrev Smaller : List ℕ → Type 0
Smaller cs = (r : List ℕ) (x : List ℕ × List ℕ) → length r < length cs → subtags_from 0 r ≡ Some x → SubtagsAt r x

part_shorter : (cs : List ℕ) (y : List ℕ × List ℕ) → PartAt Alphanumerics cs y → length y.1 < length (45 ∷ cs)
part_shorter cs y p = omega (arith, length-append p.prefix y.1, ap length p.parts)

subtag_by : (cs : List ℕ) (o : Option (List ℕ × List ℕ)) (x : List ℕ × List ℕ) → tag_part Alphanumerics cs ≡ o
    → Smaller (45 ∷ cs) → subtags_from 0 (45 ∷ cs) ≡ Some x → SubtagsAt (45 ∷ cs) x
subtag_by cs None x is later e = absurd (none-some x (sym (subtags_none cs is) ∙ e))
subtag_by cs (Some y) x is later e =
    let p = part_some Alphanumerics cs y is in
    let q = bind_some (subtags_from 0 y.1)
    (λ (z : List ℕ × List ℕ). let o : Option (List ℕ × List ℕ) = Some (onto (45 ∷ y.0) z) in o) x
    (sym (subtags_cons cs y is) ∙ e) in
    subst (SubtagsAt (45 ∷ cs)) (same_Some {A = List ℕ × List ℕ} (onto (45 ∷ y.0) q.0) x q.2)
    (one_more cs y q.0 p (later y.1 q.0 (part_shorter cs y p) q.1))

subtags_by : (cs : List ℕ) (o : Option (List ℕ)) (x : List ℕ × List ℕ) → following 45 cs ≡ o → Smaller cs
    → subtags_from 0 cs ≡ Some x → SubtagsAt cs x
subtags_by cs None x is later e =
    subst (SubtagsAt cs) (same_Some {A = List ℕ × List ℕ} ([], cs) x (sym (subtags_end cs is) ∙ e))
    (record { subtags = []; parts = refl; good = refl; named = refl })
subtags_by cs (Some r) x is later e =
    let at = (following_ends 45 cs r is).1 in
    subst (λ (l : List ℕ). SubtagsAt l x) (sym at)
    (subtag_by r (tag_part Alphanumerics r) x refl (subst Smaller at later)
    (subst (λ (l : List ℕ). subtags_from 0 l ≡ Some x) at e))

subtags_within : (n : ℕ) (cs : List ℕ) (x : List ℕ × List ℕ) → length cs < n → subtags_from 0 cs ≡ Some x
    → SubtagsAt cs x
subtags_within zero cs x h e = absurd (omega arith)
subtags_within (suc n) cs x h e =
    subtags_by cs (following 45 cs) x refl (λ r y below k. subtags_within n r y (omega arith) k) e

subtags_some : (cs : List ℕ) (x : List ℕ × List ℕ) → subtags_from 0 cs ≡ Some x → SubtagsAt cs x
subtags_some cs x e = subtags_within (suc (length cs)) cs x (omega arith) e

-- what may follow a term, and a hyphen, begin no part
stops_part : (rest : List ℕ) → Stops rest
    → (begins_in Letters rest ≡ false) × (begins_in Alphanumerics rest ≡ false) × (following 45 rest ≡ None)
stops_part _ space = (refl, refl, refl)
stops_part _ tab = (refl, refl, refl)
stops_part _ bracket = (refl, refl, refl)
stops_part _ end = (refl, refl, refl)
stops_part _ end_space = (refl, refl, refl)
stops_part _ end_tab = (refl, refl, refl)
stops_part _ end_comment = (refl, refl, refl)

after_letters : (subtags : List (List ℕ)) (rest : List ℕ) → Stops rest
    → begins_in Letters (hyphened subtags ++ rest) ≡ false
after_letters [] rest s = (stops_part rest s).0
after_letters (t ∷ ts) rest s = refl

after_alphanumerics : (subtags : List (List ℕ)) (rest : List ℕ) → Stops rest
    → begins_in Alphanumerics (hyphened subtags ++ rest) ≡ false
after_alphanumerics [] rest s = (stops_part rest s).1
after_alphanumerics (t ∷ ts) rest s = refl

subtags_of : (subtags : List (List ℕ)) (rest : List ℕ) → list_all (are_some is_alphanumeric) subtags ≡ true
    → Stops rest → subtags_from 0 (hyphened subtags ++ rest) ≡ Some (encodes (hyphened subtags), rest)
subtags_of [] rest h s = subtags_end rest (stops_part rest s).2
subtags_of (t ∷ ts) rest h s =
    let p = and_parts (are_some is_alphanumeric t) (list_all (are_some is_alphanumeric) ts) h in
    let more : List ℕ = hyphened ts ++ rest in
    ap (λ (l : List ℕ). subtags_from 0 (45 ∷ l)) (append_assoc t (hyphened ts) rest)
    ∙ subtags_cons (t ++ more) (encodes t, more) (part_of Alphanumerics t more p.0 (after_alphanumerics ts rest s))
    ∙ ap (prepended (45 ∷ encodes t)) (subtags_of ts rest p.1 s)
    ∙ ap (λ (l : List ℕ). Some (l, rest)) (hyphened_part t (hyphened ts))

-- ---- tags

-- a tag, after its `@`
abbrev pub AfterSign : List ℕ → List ℕ → Type 0
AfterSign prefix tag = IsLanguage (64 ∷ prefix) tag

pub langtag_some : (cs : List ℕ) (x : List ℕ × List ℕ) → langtag cs ≡ Some x → Takes AfterSign cs x.0 x.1
unfolding langtag
langtag_some cs x e =
    let p = bind_some (tag_part Letters cs) _ x e in
    let q = bind_some (subtags_from 0 p.0.1)
    (λ (z : List ℕ × List ℕ). let o : Option (List ℕ × List ℕ) = Some (onto p.0.0 z) in o) x p.2 in
    let a = part_some Letters cs p.0 p.1 in
    let b = subtags_some p.0.1 q.0 q.1 in
    subst (λ (y : List ℕ × List ℕ). Takes AfterSign cs y.0 y.1)
    (same_Some {A = List ℕ × List ℕ} (onto p.0.0 q.0) x q.2)
    (record {
      prefix = a.prefix ++ hyphened b.subtags;
      parts = a.parts ∙ ap (λ (t : List ℕ). a.prefix ++ t) b.parts
          ∙ sym (append_assoc a.prefix (hyphened b.subtags) q.0.1);
      form =
          record {
            primary = a.prefix;
            subtags = b.subtags;
            form = refl;
            letters = a.some;
            alphanumerics = b.good;
            named = ap (λ (t : List ℕ). t ++ q.0.0) a.named ∙ ap (λ (t : List ℕ). encodes a.prefix ++ t) b.named
                ∙ sym (encodes-append a.prefix (hyphened b.subtags));
          };
    })

module _ (text tag rest : List ℕ) (l : IsLanguage text tag) where
  pub langtag_of : Stops rest → langtag ((l.primary ++ hyphened l.subtags) ++ rest) ≡ Some (tag, rest)
  unfolding langtag
  langtag_of s =
      let more : List ℕ = hyphened l.subtags ++ rest in
      ap langtag (append_assoc l.primary (hyphened l.subtags) rest)
      ∙ rw (
        part_of Letters l.primary more l.letters (after_letters l.subtags rest s),
        subtags_of l.subtags rest l.alphanumerics s,
      )
      (ap (λ (t : List ℕ). Some (t, rest)) (sym (encodes-append l.primary (hyphened l.subtags)) ∙ sym l.named))

-- ---- a longer text is read no less far

run_shorter : (class : Class) (cs : List ℕ) → length (run class cs).1 ≤ length cs
run_shorter class cs =
    let h = run_at class cs in
    omega (arith, length-append h.prefix (run class cs).1, ap length h.parts)

subtags_shorter : (cs : List ℕ) (x : List ℕ × List ℕ) → subtags_from 0 cs ≡ Some x → length x.1 ≤ length cs
subtags_shorter cs x e =
    let h = subtags_some cs x e in
    omega (arith, length-append (hyphened h.subtags) x.1, ap length h.parts)

abbrev Shorter : List (List ℕ) → List ℕ → Type 0
Shorter subtags rest = (x : List ℕ × List ℕ) → subtags_from 0 (hyphened subtags ++ rest) ≡ Some x
    → length x.1 ≤ length rest

after_part : (class : Class) (subtags : List (List ℕ)) (rest : List ℕ) (x : List ℕ × List ℕ)
    → is_in class 45 ≡ false → Shorter subtags rest
    → subtags_from 0 (run class (hyphened subtags ++ rest)).1 ≡ Some x → length x.1 ≤ length rest
after_part class [] rest x h later e = omega (arith, subtags_shorter (run class rest).1 x e, run_shorter class rest)
after_part class (t ∷ ts) rest x h later e =
    later x (subst (λ (r : List ℕ × List ℕ). subtags_from 0 r.1 ≡ Some x)
    (run_none class (hyphened (t ∷ ts) ++ rest) h) e)

shorter : (subtags : List (List ℕ)) (rest : List ℕ) → list_all (are_some is_alphanumeric) subtags ≡ true
    → Shorter subtags rest
shorter [] rest h x e = subtags_shorter rest x e
shorter (t ∷ ts) rest h x e =
    let p = and_parts (are_some is_alphanumeric t) (list_all (are_some is_alphanumeric) ts) h in
    let more : List ℕ = hyphened ts ++ rest in
    let part : List ℕ × List ℕ = onto (encodes t) (run Alphanumerics more) in
    let q = bind_some (subtags_from 0 part.1)
    (λ (z : List ℕ × List ℕ). let o : Option (List ℕ × List ℕ) = Some (onto (45 ∷ part.0) z) in o) x
    (sym (subtags_cons (t ++ more) part (part_more Alphanumerics t more p.0))
    ∙ ap (λ (l : List ℕ). subtags_from 0 (45 ∷ l)) (sym (append_assoc t (hyphened ts) rest)) ∙ e) in
    let same = same_Some {A = List ℕ × List ℕ} (onto (45 ∷ part.0) q.0) x q.2 in
    let below = after_part Alphanumerics ts rest q.0 refl (shorter ts rest p.1) q.1 in
    omega (arith, ap (λ (y : List ℕ × List ℕ). length y.1) same, below)

pub langtag_longest : (text tag prefix rest : List ℕ) (x : List ℕ × List ℕ) → (l : IsLanguage text tag)
    → text ≡ 64 ∷ prefix → langtag (prefix ++ rest) ≡ Some x → length x.1 ≤ length rest
unfolding langtag
langtag_longest text tag prefix rest x l at e =
    let more : List ℕ = hyphened l.subtags ++ rest in
    let is : prefix ≡ l.primary ++ hyphened l.subtags = cc (at, l.form) in
    let whole : prefix ++ rest ≡ l.primary ++ more =
    ap (λ (t : List ℕ). t ++ rest) is ∙ append_assoc l.primary (hyphened l.subtags) rest in
    let part : List ℕ × List ℕ = onto (encodes l.primary) (run Letters more) in
    let p = bind_some (tag_part Letters (l.primary ++ more)) _ x (ap langtag (sym whole) ∙ e) in
    let is_part = same_Some {A = List ℕ × List ℕ} p.0 part (sym p.1 ∙ part_more Letters l.primary more l.letters) in
    let q = bind_some (subtags_from 0 p.0.1)
    (λ (z : List ℕ × List ℕ). let o : Option (List ℕ × List ℕ) = Some (onto p.0.0 z) in o) x p.2 in
    let same = same_Some {A = List ℕ × List ℕ} (onto p.0.0 q.0) x q.2 in
    let below = after_part Letters l.subtags rest q.0 refl (shorter l.subtags rest l.alphanumerics)
    (subst (λ (r : List ℕ × List ℕ). subtags_from 0 r.1 ≡ Some q.0) is_part q.1) in
    omega (arith, ap (λ (y : List ℕ × List ℕ). length y.1) same, below)
