-- The labels and language tags that are read are read again from what they are.
use Rattle.std.proofs.Common.{◌≡◌, ℕ, zero, suc, ◌-◌, Bool, true, false, cond, ◌||◌, not, nat_eq, List, [], ◌∷◌, ◌++◌}
use Rattle.std.proofs.Common.{length, Option, Some, None, refl, sym, ap, ap₂, ◌∙◌, subst, arith, append_assoc}
use Rattle.std.proofs.lemmas.Bool.{and_parts, and_from, or_parts, eqb-true}
use Rattle.std.proofs.lemmas.Str.{encode_ascii, encodes-append}
use Rattle.std.specs.Char.{IsScalar}
use lib.Utf8.{scalar, scalars, encode, encodes}
use Rattle.ntriples.specs.declared.names.Class.{Class}
use Rattle.ntriples.specs.declared.names.Class.TheVariants.{Letters, Alphanumerics, Label, Dots}
use Rattle.ntriples.specs.Characters.{is_digit, is_letter, is_pn_chars_base, is_pn_chars_u, is_pn_chars}
use Rattle.ntriples.specs.Document.{is_line_end}
use Rattle.ntriples.specs.Reading.{◌>>=◌, onto, prepended, character, following}
use Rattle.ntriples.specs.Parsing.{is_in, begins_in, run, dotted, label_rest, blank_node_label, some_of, tag_part}
use Rattle.ntriples.specs.Parsing.{subtags_from, langtag}
use Rattle.ntriples.proofs.NameLemmas.{run_cons, run_none, dot_label, other_label, subtags_cons}
use Rattle.ntriples.proofs.Encoded.{no_ends, no_ends-append, scalars-append}
use Rattle.ntriples.proofs.Readings.{Makes, makes_bind, makes_cond, makes_following, character_makes}
use Rattle.ntriples.proofs.Again.{Again, no_end}

-- ---- labels

-- what follows a label's first character, and reads again up to a space
record Rest (text : List ℕ) : Type 0 where
  pub characters : List ℕ
  pub are : scalars characters ≡ true
  pub whole : no_ends characters ≡ true
  pub spell : encodes characters ≡ text
  pub again : (more : List ℕ) → label_rest (characters ++ 32 ∷ more) ≡ (text, 32 ∷ more)

abbrev IsRest : List ℕ × List ℕ → Type 0
IsRest read = Rest read.0 × (scalars read.1 ≡ true)

label_space : (more : List ℕ) → label_rest (32 ∷ more) ≡ ([], 32 ∷ more)
unfolding label_rest is_pn_chars is_pn_chars_u is_pn_chars_base
label_space more = refl

no_rest : Rest []
no_rest = record { characters = []; are = refl; whole = refl; spell = refl; again = label_space }

feed_no_label : is_pn_chars 10 ≡ false
unfolding is_pn_chars is_pn_chars_u is_pn_chars_base
feed_no_label = refl

return_no_label : is_pn_chars 13 ≡ false
unfolding is_pn_chars is_pn_chars_u is_pn_chars_base
return_no_label = refl

label_cons : (c : ℕ) (cs : List ℕ) → is_pn_chars c ≡ true → label_rest (c ∷ cs) ≡ onto (encode c) (label_rest cs)
unfolding label_rest
label_cons c cs e = rw e refl

one_more : (c : ℕ) (read : List ℕ × List ℕ) → IsScalar c → is_pn_chars c ≡ true → IsRest read
    → IsRest (onto (encode c) read)
one_more c read s e h = (
  record {
    characters = c ∷ h.0.characters;
    are = and_from (scalar c) (scalars h.0.characters) s h.0.are;
    whole = and_from (not (is_line_end c)) (no_ends h.0.characters)
        (no_end is_pn_chars c feed_no_label return_no_label e) h.0.whole;
    spell = ap (λ (t : List ℕ). encode c ++ t) h.0.spell;
    again = λ more. label_cons c (h.0.characters ++ 32 ∷ more) e ∙ ap (onto (encode c)) (h.0.again more);
  },
  h.1,
)

dotted_rest : (cs : List ℕ) (read : List ℕ × List ℕ) → scalars (46 ∷ cs) ≡ true → IsRest read → IsRest (dotted cs read)
dotted_rest cs ([], rest) s h = (no_rest, s)
dotted_rest cs (b ∷ bs, rest) s h = (
  record {
    characters = 46 ∷ h.0.characters;
    are = h.0.are;
    whole = h.0.whole;
    spell = ap (λ (t : List ℕ). t ++ encodes h.0.characters) (encode_ascii 46 (omega arith))
        ∙ ap (λ (t : List ℕ). 46 ∷ t) h.0.spell;
    again = λ more. dot_label (h.0.characters ++ 32 ∷ more) ∙ ap (dotted (h.0.characters ++ 32 ∷ more))
        (h.0.again more);
  },
  h.1,
)

rest_other : (b : Bool) (c : ℕ) (cs : List ℕ) → nat_eq c 46 ≡ b → is_pn_chars c ≡ false → scalars (c ∷ cs) ≡ true
    → IsRest (label_rest cs) → IsRest (label_rest (c ∷ cs))
rest_other true c cs e f s h =
    let same : c ≡ 46 = eqb-true c 46 e in
    let dot : scalars (46 ∷ cs) ≡ true = ap (λ (x : ℕ). scalars (x ∷ cs)) (sym same) ∙ s in
    subst (λ (x : ℕ). IsRest (label_rest (x ∷ cs))) (sym same)
    (subst IsRest (sym (dot_label cs)) (dotted_rest cs (label_rest cs) dot h))
rest_other false c cs e f s h =
    let none : label_rest (c ∷ cs) ≡ ([], c ∷ cs) =
    other_label c cs e ∙ ap (λ (b : Bool). cond b (onto (encode c) (label_rest cs)) ([], c ∷ cs)) f in
    subst IsRest (sym none) (no_rest, s)

rest_by : (b : Bool) (c : ℕ) (cs : List ℕ) → is_pn_chars c ≡ b → scalars (c ∷ cs) ≡ true → IsRest (label_rest cs)
    → IsRest (label_rest (c ∷ cs))
rest_by true c cs e s h =
    subst IsRest (sym (label_cons c cs e)) (one_more c (label_rest cs) (and_parts (scalar c) (scalars cs) s).0 e h)
rest_by false c cs e s h = rest_other (nat_eq c 46) c cs refl e s h

label_none_left : label_rest [] ≡ ([], [])
unfolding label_rest
label_none_left = refl

rest_is : (cs : List ℕ) → scalars cs ≡ true → IsRest (label_rest cs)
rest_is [] s = subst IsRest (sym label_none_left) (no_rest, refl)
rest_is (c ∷ cs) s = rest_by (is_pn_chars c) c cs refl s (rest_is cs (and_parts (scalar c) (scalars cs) s).1)

-- a label, with what begins it
pub record LabelAgain (label : List ℕ) : Type 0 where
  pub whole : Again (List ℕ) blank_node_label label (95 ∷ 58 ∷ label)
  pub tail : List ℕ
  pub starts : whole.characters ≡ 95 ∷ tail

is_first : ℕ → Bool
is_first c = is_pn_chars_u c || is_digit c

feed_not_first : is_first 10 ≡ false
unfolding is_first is_pn_chars_u is_pn_chars_base
feed_not_first = refl

return_not_first : is_first 13 ≡ false
unfolding is_first is_pn_chars_u is_pn_chars_base
return_not_first = refl

label_reads : (c : ℕ) (cs : List ℕ) (text rest : List ℕ) → is_first c ≡ true → label_rest cs ≡ (text, rest)
    → blank_node_label (95 ∷ 58 ∷ c ∷ cs) ≡ Some (encode c ++ text, rest)
unfolding blank_node_label is_first
label_reads c cs text rest e h = rw (e, h) refl

label_spells : (c : ℕ) (cs : List ℕ) → encodes (95 ∷ 58 ∷ c ∷ cs) ≡ 95 ∷ 58 ∷ encodes (c ∷ cs)
unfolding encode
label_spells c cs = refl

label_again : (c : ℕ) (read : List ℕ × List ℕ) → IsScalar c → is_first c ≡ true → IsRest read
    → Makes LabelAgain (Some (onto (encode c) read))
label_again c read s e h = (
  record {
    whole = record {
      characters = 95 ∷ 58 ∷ c ∷ h.0.characters;
      are = and_from (scalar c) (scalars h.0.characters) s h.0.are;
      whole = and_from (not (is_line_end c)) (no_ends h.0.characters)
          (no_end is_first c feed_not_first return_not_first e) h.0.whole;
      spell = label_spells c h.0.characters ∙ ap (λ (t : List ℕ). 95 ∷ 58 ∷ (encode c ++ t)) h.0.spell;
      again = λ more. label_reads c (h.0.characters ++ 32 ∷ more) read.0 (32 ∷ more) e (h.0.again more);
    };
    tail = 58 ∷ c ∷ h.0.characters;
    starts = refl;
  },
  h.1,
)

pub blank_makes : (cs : List ℕ) → scalars cs ≡ true → Makes LabelAgain (blank_node_label cs)
unfolding blank_node_label is_first
blank_makes cs h =
    makes_following LabelAgain 95 cs _ h (λ underscore k.
    makes_following LabelAgain 58 underscore _ k (λ colon m.
    makes_bind IsScalar LabelAgain (character colon) _ (character_makes colon m) (λ c s n.
    makes_cond LabelAgain (is_pn_chars_u c.0 || is_digit c.0) (Some (onto (encode c.0) (label_rest c.1))) None
    (λ e. label_again c.0 (label_rest c.1) s e (rest_is c.1 n)) (λ e. tt))))

-- ---- language tags

-- characters of a class, which read again up to what isn't of it
record RunAgain (class : Class) (text : List ℕ) : Type 0 where
  pub characters : List ℕ
  pub are : scalars characters ≡ true
  pub whole : no_ends characters ≡ true
  pub spell : encodes characters ≡ text
  pub again : (next : List ℕ) → begins_in class next ≡ false → run class (characters ++ next) ≡ (text, next)

abbrev IsRun : Class → List ℕ × List ℕ → Type 0
IsRun class read = RunAgain class read.0 × (scalars read.1 ≡ true)

line_ends_out : (class : Class) → (is_in class 10 ≡ false) × (is_in class 13 ≡ false)
line_ends_out Letters = (refl, refl)
line_ends_out Alphanumerics = (refl, refl)
line_ends_out Label = (feed_no_label, return_no_label)
line_ends_out Dots = (refl, refl)

no_run : (class : Class) → RunAgain class []
no_run class =
    record { characters = []; are = refl; whole = refl; spell = refl; again = λ next e. run_none class next e }

run_more : (class : Class) (c : ℕ) (read : List ℕ × List ℕ) → IsScalar c → is_in class c ≡ true → IsRun class read
    → IsRun class (onto (encode c) read)
run_more class c read s e h = (
  record {
    characters = c ∷ h.0.characters;
    are = and_from (scalar c) (scalars h.0.characters) s h.0.are;
    whole = and_from (not (is_line_end c)) (no_ends h.0.characters)
        (no_end (is_in class) c (line_ends_out class).0 (line_ends_out class).1 e) h.0.whole;
    spell = ap (λ (t : List ℕ). encode c ++ t) h.0.spell;
    again = λ next f. run_cons class c (h.0.characters ++ next) e ∙ ap (onto (encode c)) (h.0.again next f);
  },
  h.1,
)

run_by : (b : Bool) (class : Class) (c : ℕ) (cs : List ℕ) → is_in class c ≡ b → scalars (c ∷ cs) ≡ true
    → IsRun class (run class cs) → IsRun class (run class (c ∷ cs))
run_by true class c cs e s h =
    subst (IsRun class) (sym (run_cons class c cs e))
    (run_more class c (run class cs) (and_parts (scalar c) (scalars cs) s).0 e h)
run_by false class c cs e s h = subst (IsRun class) (sym (run_none class (c ∷ cs) e)) (no_run class, s)

run_is : (class : Class) (cs : List ℕ) → scalars cs ≡ true → IsRun class (run class cs)
run_is class [] s = subst (IsRun class) (sym (run_none class [] refl)) (no_run class, refl)
run_is class (c ∷ cs) s =
    run_by (is_in class c) class c cs refl s (run_is class cs (and_parts (scalar c) (scalars cs) s).1)

-- a part of a tag, which reads again up to what isn't of its class
record PartAgain (part : Class) (text : List ℕ) : Type 0 where
  pub characters : List ℕ
  pub are : scalars characters ≡ true
  pub whole : no_ends characters ≡ true
  pub spell : encodes characters ≡ text
  pub again : (next : List ℕ) → begins_in part next ≡ false → tag_part part (characters ++ next) ≡ Some (text, next)

some_part : (part : Class) (cs : List ℕ) (b : ℕ) (bs next : List ℕ) → run part cs ≡ (b ∷ bs, next)
    → tag_part part cs ≡ Some (b ∷ bs, next)
unfolding tag_part
some_part part cs b bs next e = ap some_of e

part_by : (part : Class) (read : List ℕ × List ℕ) → IsRun part read → Makes (PartAgain part) (some_of read)
part_by part ([], rest) h = tt
part_by part (b ∷ bs, rest) h = (
  record {
    characters = h.0.characters;
    are = h.0.are;
    whole = h.0.whole;
    spell = h.0.spell;
    again = λ next e. some_part part (h.0.characters ++ next) b bs next (h.0.again next e);
  },
  h.1,
)

part_makes : (part : Class) (cs : List ℕ) → scalars cs ≡ true → Makes (PartAgain part) (tag_part part cs)
unfolding tag_part
part_makes part cs h = part_by part (run part cs) (run_is part cs h)

-- subtags, with which no letter or digit begins
record SubtagsAgain (text : List ℕ) : Type 0 where
  pub characters : List ℕ
  pub are : scalars characters ≡ true
  pub whole : no_ends characters ≡ true
  pub spell : encodes characters ≡ text
  pub again : (more : List ℕ) → subtags_from 0 (characters ++ 32 ∷ more) ≡ Some (text, 32 ∷ more)
  pub stops : (more : List ℕ) → begins_in Alphanumerics (characters ++ 32 ∷ more) ≡ false

subtags_space : (more : List ℕ) → subtags_from 0 (32 ∷ more) ≡ Some ([], 32 ∷ more)
unfolding subtags_from
subtags_space more = refl

no_subtags : SubtagsAgain []
no_subtags =
    record { characters = []; are = refl; whole = refl; spell = refl; again = subtags_space; stops = λ more. refl }

two_spell : (prefix later text following : List ℕ) → encodes prefix ≡ text → encodes later ≡ following
    → encodes (prefix ++ later) ≡ text ++ following
two_spell prefix later text following e f = encodes-append prefix later ∙ ap₂ (λ (x y : List ℕ). x ++ y) e f

hyphen_spell : (cs text : List ℕ) → encodes cs ≡ text → encodes (45 ∷ cs) ≡ 45 ∷ text
hyphen_spell cs text e = ap (λ (t : List ℕ). t ++ encodes cs) (encode_ascii 45 (omega arith))
    ∙ ap (λ (t : List ℕ). 45 ∷ t) e

subtag_then : (text : List ℕ) (read : Option (List ℕ × List ℕ)) → PartAgain Alphanumerics text
    → Makes SubtagsAgain read → Makes SubtagsAgain (prepended (45 ∷ text) read)
subtag_then text None p h = tt
subtag_then text (Some x) p h = (
  record {
    characters = 45 ∷ (p.characters ++ h.0.characters);
    are = scalars-append p.characters h.0.characters p.are h.0.are;
    whole = no_ends-append p.characters h.0.characters p.whole h.0.whole;
    spell = hyphen_spell (p.characters ++ h.0.characters) (text ++ x.0)
        (two_spell p.characters h.0.characters text x.0 p.spell h.0.spell);
    again = λ more.
        ap (λ (t : List ℕ). subtags_from 0 (45 ∷ t)) (append_assoc p.characters h.0.characters (32 ∷ more))
        ∙ subtags_cons (p.characters ++ (h.0.characters ++ 32 ∷ more)) (text, h.0.characters ++ 32 ∷ more)
        (p.again (h.0.characters ++ 32 ∷ more) (h.0.stops more))
        ∙ ap (prepended (45 ∷ text)) (h.0.again more);
    stops = λ more. refl;
  },
  h.1,
)

subtags_make : (skip : ℕ) (cs : List ℕ) → scalars cs ≡ true → Makes SubtagsAgain (subtags_from skip cs)
unfolding subtags_from
subtags_make skip [] h = (no_subtags, refl)
subtags_make (suc skip) (c ∷ cs) h = subtags_make skip cs (and_parts (scalar c) (scalars cs) h).1
subtags_make zero (c ∷ cs) h =
    let tail : scalars cs ≡ true = (and_parts (scalar c) (scalars cs) h).1 in
    makes_cond SubtagsAgain (nat_eq c 45)
    (tag_part Alphanumerics cs >>= λ part. prepended (45 ∷ part.0) (subtags_from (length cs - length part.1) cs))
    (Some ([], c ∷ cs))
    (λ e. makes_bind (PartAgain Alphanumerics) SubtagsAgain (tag_part Alphanumerics cs) _
    (part_makes Alphanumerics cs tail) (λ part p k.
    subtag_then part.0 (subtags_from (length cs - length part.1) cs) p
    (subtags_make (length cs - length part.1) cs tail)))
    (λ e. (no_subtags, h))

abbrev pub TagAgain : List ℕ → Type 0
TagAgain tag = Again (List ℕ) langtag tag tag

no_letter : (cs : List ℕ) → begins_in Alphanumerics cs ≡ false → begins_in Letters cs ≡ false
no_letter [] h = refl
no_letter (c ∷ cs) h = (or_parts (is_letter c) (is_digit c) h).0

tag_reads : (cs primary middle text rest : List ℕ) → tag_part Letters cs ≡ Some (primary, middle)
    → subtags_from 0 middle ≡ Some (text, rest) → langtag cs ≡ Some (primary ++ text, rest)
unfolding langtag
tag_reads cs primary middle text rest e f = rw (e, f) refl

tag_again : (primary : List ℕ) (read : Option (List ℕ × List ℕ)) → PartAgain Letters primary → Makes SubtagsAgain read
    → Makes TagAgain (prepended primary read)
tag_again primary None p h = tt
tag_again primary (Some x) p h = (
  record {
    characters = p.characters ++ h.0.characters;
    are = scalars-append p.characters h.0.characters p.are h.0.are;
    whole = no_ends-append p.characters h.0.characters p.whole h.0.whole;
    spell = two_spell p.characters h.0.characters primary x.0 p.spell h.0.spell;
    again = λ more.
        ap langtag (append_assoc p.characters h.0.characters (32 ∷ more))
        ∙ tag_reads (p.characters ++ (h.0.characters ++ 32 ∷ more)) primary (h.0.characters ++ 32 ∷ more) x.0
        (32 ∷ more)
        (p.again (h.0.characters ++ 32 ∷ more) (no_letter (h.0.characters ++ 32 ∷ more) (h.0.stops more)))
        (h.0.again more);
  },
  h.1,
)

pub langtag_makes : (cs : List ℕ) → scalars cs ≡ true → Makes TagAgain (langtag cs)
unfolding langtag
langtag_makes cs h =
    makes_bind (PartAgain Letters) TagAgain (tag_part Letters cs) _ (part_makes Letters cs h) (λ primary p k.
    tag_again primary.0 (subtags_from 0 primary.1) p (subtags_make 0 primary.1 k))
