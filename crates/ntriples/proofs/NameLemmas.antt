-- Reading labels and language tags, as loops do.
use Rattle.std.proofs.Common.{◌≡◌, ℕ, zero, suc, ◌-◌, ◌<◌, ◌≤◌, Bool, true, false, cond, List, [], ◌∷◌, ◌++◌, length}
use Rattle.std.proofs.Common.{drop, Option, Some, None, refl, sym, ap, subst, ◌∙◌, append_assoc, arith}
use Rattle.std.proofs.lemmas.List.{append-nil, length-append}
use Rattle.std.proofs.lemmas.Bool.{eqb-true}
use Rattle.std.proofs.lemmas.Option.{some_pair_parts, cond_some}
use Rattle.std.proofs.lemmas.Str.{length-encode, len_utf8_bounds}
use Rattle.std.specs.Prelude.{nat_eq}
use Rattle.std.specs.Char.{encode_utf8}
use Rattle.ntriples.specs.declared.fault.Refusal.{Refusal}
use Rattle.ntriples.specs.declared.fault.Refusal.TheVariants.{Malformed, OutOfMemory}
use Rattle.ntriples.specs.declared.names.Class.{Class}
use Rattle.ntriples.specs.declared.names.Class.TheVariants.{Alphanumerics, Label, Dots}
use Rattle.ntriples.specs.Characters.{is_pn_chars_base, is_pn_chars_u, is_pn_chars}
use Rattle.ntriples.specs.Reading.{Fails, onto, prepended, following}
use Rattle.ntriples.specs.Parsing.{is_in, begins_in, run, some_of, tag_part, subtags_from, dotted, label_rest}
use Rattle.ntriples.proofs.Suffixes.{EndsWith, Ends, ends_same, ends_more, ends_at, ends_drop, ends_shorter}

pub run_cons : (class : Class) (c : ℕ) (cs : List ℕ) → is_in class c ≡ true
    → run class (c ∷ cs) ≡ onto (encode_utf8 c) (run class cs)
unfolding run
run_cons class c cs e = rw e refl

pub run_none : (class : Class) (cs : List ℕ) → begins_in class cs ≡ false → run class cs ≡ ([], cs)
unfolding run
run_none class [] e = refl
run_none class (c ∷ cs) e = rw e refl

pub onto_onto : (prefix more : List ℕ) (read : List ℕ × List ℕ) → onto prefix (onto more read) ≡ onto (prefix ++ more) read
onto_onto prefix more read =
    ap (λ (v : List ℕ). let r : List ℕ × List ℕ = (v, read.1) in r) (sym (append_assoc prefix more read.0))

pub onto_nil : (prefix rest : List ℕ) → onto prefix ([], rest) ≡ (prefix, rest)
onto_nil prefix rest = ap (λ (v : List ℕ). let r : List ℕ × List ℕ = (v, rest) in r) (append-nil prefix)

-- a loop over the characters of a class
pub run_more : (class : Class) (prefix now : List ℕ) (c : ℕ) (rest : List ℕ) (total : List ℕ × List ℕ)
    → is_in class c ≡ true → now ≡ c ∷ rest → onto prefix (run class now) ≡ total
    → onto (prefix ++ encode_utf8 c) (run class rest) ≡ total
run_more class prefix now c rest total e parts so_far =
    sym (onto_onto prefix (encode_utf8 c) (run class rest))
    ∙ ap (onto prefix) (sym (ap (run class) parts ∙ run_cons class c rest e)) ∙ so_far

pub run_done : (class : Class) (prefix now : List ℕ) (total : List ℕ × List ℕ) → begins_in class now ≡ false
    → onto prefix (run class now) ≡ total → (prefix, now) ≡ total
run_done class prefix now total e so_far = sym (onto_nil prefix now) ∙ ap (onto prefix) (sym (run_none class now e))
    ∙ so_far

pub skip_more : (class : Class) (now : List ℕ) (c : ℕ) (rest : List ℕ) → is_in class c ≡ true → now ≡ c ∷ rest
    → (run class rest).1 ≡ (run class now).1
skip_more class now c rest e parts =
    sym (ap (λ (r : List ℕ × List ℕ). r.1) (ap (run class) parts ∙ run_cons class c rest e))

run_ends_by : (b : Bool) (class : Class) (c : ℕ) (cs : List ℕ) (r : List ℕ × List ℕ)
    → cond b (onto (encode_utf8 c) (run class cs)) ([], c ∷ cs) ≡ r → EndsWith cs (run class cs).1
    → EndsWith (c ∷ cs) r.1
run_ends_by true class c cs r e h =
    subst (λ (r : List ℕ × List ℕ). EndsWith (c ∷ cs) r.1) e (ends_more c cs (run class cs).1 h)
run_ends_by false class c cs r e h = subst (λ (r : List ℕ × List ℕ). EndsWith (c ∷ cs) r.1) e (ends_same (c ∷ cs))

run_ends : (class : Class) (cs : List ℕ) → EndsWith cs (run class cs).1
unfolding run
run_ends class [] = ends_same []
run_ends class (c ∷ cs) = run_ends_by (is_in class c) class c cs _ refl (run_ends class cs)

-- ---- parts of a tag

encode_some : (c : ℕ) → 0 < length (encode_utf8 c)
encode_some c = omega (arith, length-encode c, len_utf8_bounds c)

some_of_onto : (prefix : List ℕ) (read : List ℕ × List ℕ) → 0 < length prefix
    → some_of (onto prefix read) ≡ Some (onto prefix read)
some_of_onto [] read h = absurd (omega arith)
some_of_onto (b ∷ bs) read h = refl

pub tag_part_none : (part : Class) (cs : List ℕ) → begins_in part cs ≡ false → tag_part part cs ≡ None
unfolding tag_part
tag_part_none part cs e = rw (run_none part cs e) refl

pub tag_part_some : (part : Class) (cs : List ℕ) → begins_in part cs ≡ true → tag_part part cs ≡ Some (run part cs)
unfolding tag_part
tag_part_some part [] e = absurd cc
tag_part_some part (c ∷ cs) e = rw (run_cons part c cs e) (some_of_onto (encode_utf8 c) (run part cs) (encode_some c))

some_of_ends : (cs : List ℕ) (read : List ℕ × List ℕ) → EndsWith cs read.1 → Ends cs (some_of read)
some_of_ends cs ([], rest) h = tt
some_of_ends cs (b ∷ bs, rest) h = h

tag_part_ends : (part : Class) (cs : List ℕ) → Ends cs (tag_part part cs)
unfolding tag_part
tag_part_ends part cs = some_of_ends cs (run part cs) (run_ends part cs)

pub following_ends : (expected : ℕ) (cs rest : List ℕ) → following expected cs ≡ Some rest
    → (nat_eq expected expected ≡ nat_eq expected expected) × (cs ≡ expected ∷ rest)
following_ends expected [] rest e = absurd cc
following_ends expected (c ∷ cs) rest e =
    let p = cond_some (nat_eq c expected) cs rest e in
    let same : c ≡ expected = eqb-true c expected p.0 in
    (refl, ap (λ (x : ℕ). x ∷ cs) same ∙ ap (λ (t : List ℕ). expected ∷ t) p.1)

subtags_skip : (skip : ℕ) (cs : List ℕ) → subtags_from skip cs ≡ subtags_from 0 (drop skip cs)
unfolding subtags_from
subtags_skip zero cs = refl
subtags_skip (suc skip) [] = refl
subtags_skip (suc skip) (c ∷ cs) = subtags_skip skip cs

pub subtags_cons : (cs : List ℕ) (x : List ℕ × List ℕ) → tag_part Alphanumerics cs ≡ Some x
    → subtags_from 0 (45 ∷ cs) ≡ prepended (45 ∷ x.0) (subtags_from 0 x.1)
unfolding subtags_from
subtags_cons cs x e =
    rw e (ap (prepended (45 ∷ x.0))
    (subtags_skip (length cs - length x.1) cs
    ∙ ap (subtags_from 0)
    (ends_drop cs x.1 (ends_at cs (tag_part Alphanumerics cs) x (tag_part_ends Alphanumerics cs) e))))

pub subtags_none : (cs : List ℕ) → tag_part Alphanumerics cs ≡ None → subtags_from 0 (45 ∷ cs) ≡ None
unfolding subtags_from
subtags_none cs e = rw e refl

cond_none : (b : Bool) (cs : List ℕ) → cond b (Some cs) None ≡ None → b ≡ false
cond_none true cs e = absurd cc
cond_none false cs e = refl

pub subtags_end : (cs : List ℕ) → following 45 cs ≡ None → subtags_from 0 cs ≡ Some ([], cs)
unfolding subtags_from
subtags_end [] e = refl
subtags_end (c ∷ cs) e = rw (cond_none (nat_eq c 45) cs e) refl

regroup : (prefix more : List ℕ) (read : Option (List ℕ × List ℕ))
    → prepended prefix (prepended more read) ≡ prepended (prefix ++ more) read
regroup prefix more None = refl
regroup prefix more (Some x) = ap Some (onto_onto prefix more x)

-- a loop over subtags
subtags_more_at : (prefix cs new rest : List ℕ) (total part : Option (List ℕ × List ℕ))
    → tag_part Alphanumerics cs ≡ part → prepended (prefix ++ 45 ∷ []) part ≡ Some (new, rest)
    → prepended prefix (subtags_from 0 (45 ∷ cs)) ≡ total → prepended new (subtags_from 0 rest) ≡ total
subtags_more_at prefix cs new rest total None e given so_far = absurd cc
subtags_more_at prefix cs new rest total (Some x) e given so_far =
    let p = some_pair_parts ((prefix ++ 45 ∷ []) ++ x.0) new x.1 rest given in
    let text : prefix ++ 45 ∷ x.0 ≡ new = sym (append_assoc prefix (45 ∷ []) x.0) ∙ p.0 in
    ap (λ (v : List ℕ). prepended v (subtags_from 0 rest)) (sym text)
    ∙ ap (λ (v : List ℕ). prepended (prefix ++ 45 ∷ x.0) (subtags_from 0 v)) (sym p.1)
    ∙ sym (regroup prefix (45 ∷ x.0) (subtags_from 0 x.1))
    ∙ ap (prepended prefix) (sym (subtags_cons cs x e)) ∙ so_far

subtags_more : (prefix now cs new rest : List ℕ) (total : Option (List ℕ × List ℕ)) → following 45 now ≡ Some cs
    → prepended (prefix ++ 45 ∷ []) (tag_part Alphanumerics cs) ≡ Some (new, rest)
    → prepended prefix (subtags_from 0 now) ≡ total → prepended new (subtags_from 0 rest) ≡ total
subtags_more prefix now cs new rest total e given so_far =
    subtags_more_at prefix cs new rest total (tag_part Alphanumerics cs) refl given
    (ap (λ (v : List ℕ). prepended prefix (subtags_from 0 v)) (sym (following_ends 45 now cs e).1) ∙ so_far)

subtags_fails_at : (r : Refusal) (prefix cs : List ℕ) (total part : Option (List ℕ × List ℕ))
    → tag_part Alphanumerics cs ≡ part → Fails r (prepended (prefix ++ 45 ∷ []) part)
    → prepended prefix (subtags_from 0 (45 ∷ cs)) ≡ total → Fails r total
subtags_fails_at OutOfMemory prefix cs total part e given so_far = tt
subtags_fails_at Malformed prefix cs total (Some x) e given so_far = absurd cc
subtags_fails_at Malformed prefix cs total None e given so_far = sym so_far ∙ ap (prepended prefix) (subtags_none cs e)

subtags_fails : (r : Refusal) (prefix now cs : List ℕ) (total : Option (List ℕ × List ℕ)) → following 45 now ≡ Some cs
    → Fails r (prepended (prefix ++ 45 ∷ []) (tag_part Alphanumerics cs))
    → prepended prefix (subtags_from 0 now) ≡ total → Fails r total
subtags_fails r prefix now cs total e given so_far =
    subtags_fails_at r prefix cs total (tag_part Alphanumerics cs) refl given
    (ap (λ (v : List ℕ). prepended prefix (subtags_from 0 v)) (sym (following_ends 45 now cs e).1) ∙ so_far)

pub subtags_done : (prefix now : List ℕ) (total : Option (List ℕ × List ℕ)) → following 45 now ≡ None
    → prepended prefix (subtags_from 0 now) ≡ total → total ≡ Some (prefix, now)
subtags_done prefix now total e so_far = sym so_far ∙ ap (prepended prefix) (subtags_end now e)
    ∙ ap Some (onto_nil prefix now)

subtags_shorter_at : (prefix cs new rest : List ℕ) (part : Option (List ℕ × List ℕ)) → Ends cs part
    → prepended (prefix ++ 45 ∷ []) part ≡ Some (new, rest) → length rest ≤ length cs
subtags_shorter_at prefix cs new rest None h given = absurd cc
subtags_shorter_at prefix cs new rest (Some x) h given =
    let p = some_pair_parts ((prefix ++ 45 ∷ []) ++ x.0) new x.1 rest given in
    omega (arith, ends_shorter cs x.1 h, ap length p.1)

subtags_shorter : (prefix now cs new rest : List ℕ) → following 45 now ≡ Some cs
    → prepended (prefix ++ 45 ∷ []) (tag_part Alphanumerics cs) ≡ Some (new, rest) → length rest < length now
subtags_shorter prefix now cs new rest e given =
    omega (
      arith,
      subtags_shorter_at prefix cs new rest (tag_part Alphanumerics cs) (tag_part_ends Alphanumerics cs)
          given,
      ap length (following_ends 45 now cs e).1,
    )

-- ---- labels

pub dot_label : (cs : List ℕ) → label_rest (46 ∷ cs) ≡ dotted cs (label_rest cs)
unfolding label_rest is_pn_chars is_pn_chars_u is_pn_chars_base
dot_label cs = refl

dot_run : (cs : List ℕ) → run Dots (46 ∷ cs) ≡ onto (46 ∷ []) (run Dots cs)
unfolding run encode_utf8
dot_run cs = refl

pub other_label : (c : ℕ) (cs : List ℕ) → nat_eq c 46 ≡ false
    → label_rest (c ∷ cs) ≡ cond (is_pn_chars c) (onto (encode_utf8 c) (label_rest cs)) ([], c ∷ cs)
unfolding label_rest
other_label c cs e = rw e refl

pub dotted_onto : (cs prefix : List ℕ) (read : List ℕ × List ℕ) → 0 < length prefix
    → dotted cs (onto prefix read) ≡ onto (46 ∷ prefix) read
dotted_onto cs [] read h = absurd (omega arith)
dotted_onto cs (b ∷ bs) read h = refl

label_none_by : (b : Bool) (c : ℕ) (cs : List ℕ) → nat_eq c 46 ≡ b
    → (begins_in Label (run Dots cs).1 ≡ false → label_rest cs ≡ ([], cs))
    → begins_in Label (run Dots (c ∷ cs)).1 ≡ false → label_rest (c ∷ cs) ≡ ([], c ∷ cs)
label_none_by true c cs e before h =
    let same : c ≡ 46 = eqb-true c 46 e in
    let h1 : begins_in Label (run Dots (46 ∷ cs)).1 ≡ false =
    subst (λ (x : ℕ). begins_in Label (run Dots (x ∷ cs)).1 ≡ false) same h in
    let h2 : begins_in Label (run Dots cs).1 ≡ false =
    subst (λ (r : List ℕ × List ℕ). begins_in Label r.1 ≡ false) (dot_run cs) h1 in
    rw same (dot_label cs ∙ ap (dotted cs) (before h2))
label_none_by false c cs e before h =
    let other : is_pn_chars c ≡ false =
    subst (λ (r : List ℕ × List ℕ). begins_in Label r.1 ≡ false) (run_none Dots (c ∷ cs) e) h in
    other_label c cs e ∙ rw other refl

pub label_nil : label_rest [] ≡ ([], [])
unfolding label_rest
label_nil = refl

label_none : (cs : List ℕ) → begins_in Label (run Dots cs).1 ≡ false → label_rest cs ≡ ([], cs)
label_none [] h = label_nil
label_none (c ∷ cs) h = label_none_by (nat_eq c 46) c cs refl (label_none cs) h

IsStep : List ℕ → ℕ → List ℕ → Type 0
IsStep cs d rest = label_rest cs ≡ onto ((run Dots cs).0 ++ encode_utf8 d) (label_rest rest)

label_step_by : (b : Bool) (c : ℕ) (cs : List ℕ) (d : ℕ) (rest : List ℕ) → nat_eq c 46 ≡ b
    → ((run Dots cs).1 ≡ d ∷ rest → IsStep cs d rest) → (run Dots (c ∷ cs)).1 ≡ d ∷ rest → is_pn_chars d ≡ true
    → IsStep (c ∷ cs) d rest
unfolding IsStep
label_step_by true c cs d rest e before h pn =
    let same : c ≡ 46 = eqb-true c 46 e in
    let h1 : (run Dots (46 ∷ cs)).1 ≡ d ∷ rest = subst (λ (x : ℕ). (run Dots (x ∷ cs)).1 ≡ d ∷ rest) same h in
    let h2 : (run Dots cs).1 ≡ d ∷ rest = subst (λ (r : List ℕ × List ℕ). r.1 ≡ d ∷ rest) (dot_run cs) h1 in
    let prefix = (run Dots cs).0 ++ encode_utf8 d in
    rw same (dot_label cs ∙ ap (dotted cs) (before h2)
    ∙ dotted_onto cs prefix (label_rest rest)
    (omega (arith, length-append (run Dots cs).0 (encode_utf8 d), encode_some d))
    ∙ ap (λ (r : List ℕ × List ℕ). onto (r.0 ++ encode_utf8 d) (label_rest rest)) (sym (dot_run cs)))
label_step_by false c cs d rest e before h pn =
    let at = run_none Dots (c ∷ cs) e in
    let parts : c ∷ cs ≡ d ∷ rest = subst (λ (r : List ℕ × List ℕ). r.1 ≡ d ∷ rest) at h in
    let head : c ≡ d = cc in
    let tail : cs ≡ rest = cc in
    let pn2 : is_pn_chars c ≡ true = ap is_pn_chars head ∙ pn in
    other_label c cs e ∙ ap (λ (b : Bool). cond b (onto (encode_utf8 c) (label_rest cs)) ([], c ∷ cs)) pn2
    ∙ ap (λ (x : ℕ). onto (encode_utf8 x) (label_rest cs)) head
    ∙ ap (λ (t : List ℕ). onto (encode_utf8 d) (label_rest t)) tail
    ∙ ap (λ (r : List ℕ × List ℕ). onto (r.0 ++ encode_utf8 d) (label_rest rest)) (sym at)

run_nil : (class : Class) → run class [] ≡ ([], [])
unfolding run
run_nil class = refl

label_step : (cs : List ℕ) (d : ℕ) (rest : List ℕ) → (run Dots cs).1 ≡ d ∷ rest → is_pn_chars d ≡ true
    → IsStep cs d rest
label_step [] d rest h pn =
    absurd (let e : [] ≡ d ∷ rest = subst (λ (r : List ℕ × List ℕ). r.1 ≡ d ∷ rest) (run_nil Dots) h in cc)
label_step (c ∷ cs) d rest h pn = label_step_by (nat_eq c 46) c cs d rest refl (λ k. label_step cs d rest k pn) h pn

-- a loop over the characters of a label
pub label_more : (prefix now mid end : List ℕ) (d : ℕ) (rest : List ℕ) (total : List ℕ × List ℕ)
    → (run Dots now).1 ≡ d ∷ rest → is_pn_chars d ≡ true
    → ◌≡◌ {A = List ℕ × List ℕ} (mid, end) (onto prefix (run Dots now)) → onto prefix (label_rest now) ≡ total
    → onto (mid ++ encode_utf8 d) (label_rest rest) ≡ total
unfolding IsStep
label_more prefix now mid end d rest total parts pn pushed so_far =
    let text : mid ≡ prefix ++ (run Dots now).0 = ap (λ (r : List ℕ × List ℕ). r.0) pushed in
    ap (λ (v : List ℕ). onto (v ++ encode_utf8 d) (label_rest rest)) text
    ∙ ap (λ (v : List ℕ). onto v (label_rest rest)) (append_assoc prefix (run Dots now).0 (encode_utf8 d))
    ∙ sym (onto_onto prefix ((run Dots now).0 ++ encode_utf8 d) (label_rest rest))
    ∙ ap (onto prefix) (sym (label_step now d rest parts pn)) ∙ so_far

pub label_done : (prefix now : List ℕ) (total : List ℕ × List ℕ) → begins_in Label (run Dots now).1 ≡ false
    → onto prefix (label_rest now) ≡ total → ◌≡◌ {A = List ℕ × List ℕ} (prefix, now) total
label_done prefix now total e so_far = sym (onto_nil prefix now) ∙ ap (onto prefix) (sym (label_none now e)) ∙ so_far

pub label_shorter : (now : List ℕ) (d : ℕ) (rest : List ℕ) → (run Dots now).1 ≡ d ∷ rest → length rest < length now
label_shorter now d rest parts = omega (arith, ends_shorter now (run Dots now).1 (run_ends Dots now), ap length parts)

-- ---- after a hyphen that was pushed

pub hyphen : encode_utf8 45 ≡ 45 ∷ []
unfolding encode_utf8
hyphen = refl

hyphened : (prefix mid : List ℕ) → mid ≡ prefix ++ encode_utf8 45 → mid ≡ prefix ++ 45 ∷ []
hyphened prefix mid e = e ∙ ap (λ (v : List ℕ). prefix ++ v) hyphen

module _ (prefix mid now cs : List ℕ) (at : following 45 now ≡ Some cs) (pushed : mid ≡ prefix ++ encode_utf8 45) where
  pub loop_more : (new rest : List ℕ) (total : Option (List ℕ × List ℕ))
      → prepended mid (tag_part Alphanumerics cs) ≡ Some (new, rest) → prepended prefix (subtags_from 0 now) ≡ total
      → prepended new (subtags_from 0 rest) ≡ total
  loop_more new rest total given so_far =
      subtags_more prefix now cs new rest total
      at (subst (λ (v : List ℕ). prepended v (tag_part Alphanumerics cs) ≡ Some (new, rest))
      (hyphened prefix mid pushed) given) so_far

  pub loop_shorter : (new rest : List ℕ) → prepended mid (tag_part Alphanumerics cs) ≡ Some (new, rest)
      → length rest < length now
  loop_shorter new rest given =
      subtags_shorter prefix now cs new rest
      at (subst (λ (v : List ℕ). prepended v (tag_part Alphanumerics cs) ≡ Some (new, rest))
      (hyphened prefix mid pushed) given)

  pub loop_fails : (r : Refusal) (total : Option (List ℕ × List ℕ))
      → Fails r (prepended mid (tag_part Alphanumerics cs)) → prepended prefix (subtags_from 0 now) ≡ total
      → Fails r total
  loop_fails r total given so_far =
      subtags_fails r prefix now cs total
      at (subst (λ (v : List ℕ). Fails r (prepended v (tag_part Alphanumerics cs))) (hyphened prefix mid pushed)
      given) so_far
