-- The row of a source is read back as that source.
use Rattle.std.proofs.Common.{◌≡◌, ℕ, List, Option, Some, None, option_map, option_and_then, refl, sym, ap, ◌∙◌}
use Rattle.std.proofs.Common.{subst, arith}
use Rattle.std.specs.Prelude.{codes}
use Rattle.std.proofs.lemmas.Option.{same_Some}
use Rattle.portal_base.specs.Json.{json_of, json_text}
use Rattle.portal_base.specs.declared.json_value.Json.{Json}
use Rattle.portal_keeper.specs.declared.row.KeptRow.{KeptRow}
use Rattle.dataset_rows.specs.Reading.{json_read}
use Rattle.dataset_rows.proofs.ReadBack.{map_back, read-json_text, text_back, whole_back}
use Rattle.harvest_sources.specs.declared.source.HarvestSource.{HarvestSource}
use Rattle.harvest_rows.specs.Readings.{source_in, source_read}
use Rattle.harvest_rows.specs.Rows.{IsKeptSource, IsSourceBody, IsSourceRow, source_members, source_value}
use Rattle.harvest_rows.proofs.MemberLemmas.{number_of-found, number_of-small, text_of-found}

source_with : (s : HarvestSource) (title url owner_org : List ℕ) (next_job : ℕ)
    → title ≡ s.title → url ≡ s.url → owner_org ≡ s.owner_org → next_job ≡ s.next_job
    → record {
      name = s.name;
      title = title;
      url = url;
      owner_org = owner_org;
      next_job = next_job;
    } ≡ s
source_with s title url owner_org next_job t u o n = rw (t, u, o, n) refl

source_in-source_value : (s : HarvestSource) → IsKeptSource s → source_in s.name (source_value s) ≡ s
unfolding source_in
source_in-source_value s fits =
    let es = source_members s in
    source_with s _ _ _ _
    (text_of-found (codes "title") es s.title refl)
    (text_of-found (codes "url") es s.url refl)
    (text_of-found (codes "owner_org") es s.owner_org refl)
    (number_of-found (codes "next_job") es s.next_job refl fits)

source_in-kept : (name : List ℕ) (value : Json)
    → IsKeptSource (source_in name value) × ((source_in name value).name ≡ name)
unfolding source_in
source_in-kept name value = (number_of-small (codes "next_job") value, refl)

json_read-source_value : (s : HarvestSource) → IsKeptSource s
    → json_read (json_text (source_value s)) ≡ Some (source_value s)
unfolding json_read
json_read-source_value s fits =
    let back = map_back 0 (source_members s) refl
    (whole_back 0 s.next_job fits, (text_back 0 s.owner_org, (text_back 0 s.title, (text_back 0 s.url, tt)))) in
    ap (option_and_then json_of) (read-json_text 1 (source_value s) (omega arith) back) ∙ back.same

-- ---- rows

pub source_read-back : (s : HarvestSource) (name body : List ℕ) → IsSourceBody s name body
    → source_read name body ≡ Some s
source_read-back s name body is =
    ap (λ n. source_read n body) (sym is.1) ∙ ap (source_read s.name) is.2
    ∙ ap (option_map (source_in s.name)) (json_read-source_value s is.0) ∙ ap Some (source_in-source_value s is.0)

of_value : (name : List ℕ) (found : Option Json) (s : HarvestSource) → option_map (source_in name) found ≡ Some s
    → IsKeptSource s × (s.name ≡ name)
of_value name None s is = absurd (cc)
of_value name (Some value) s is =
    subst (λ (x : HarvestSource). IsKeptSource x × (x.name ≡ name)) (same_Some (source_in name value) s is)
    (source_in-kept name value)

-- The source that is read has the row, if the body is its text.
pub source_read-body : (name body : List ℕ) (s : HarvestSource) → source_read name body ≡ Some s
    → body ≡ json_text (source_value s) → IsSourceBody s name body
source_read-body name body s is written =
    let of = of_value name (json_read body) s is in
    (of.0, of.1, written)

-- Any source with the row is the one that is read.
pub source_read-only : (name body : List ℕ) (read s : HarvestSource) → source_read name body ≡ Some read
    → IsSourceBody s name body → (s ≡ read) × (body ≡ json_text (source_value read))
source_read-only name body read s is body_is =
    let same : s ≡ read = same_Some s read (sym (source_read-back s name body body_is) ∙ is) in
    (same, body_is.2 ∙ ap (λ (x : HarvestSource). json_text (source_value x)) same)

-- The body of a row is that of its source.
body_of : (s : HarvestSource) (row : KeptRow) → IsSourceRow s row → IsSourceBody s row.key row.body
body_of s row is = (is.0, ap (λ (r : KeptRow). r.key) (sym is.1), ap (λ (r : KeptRow). r.body) is.1)

pub one_source : (row : KeptRow) (one other : HarvestSource) → IsSourceRow one row → IsSourceRow other row → one ≡ other
one_source row one other is also =
    same_Some one other (sym (source_read-back one row.key row.body (body_of one row is))
    ∙ source_read-back other row.key row.body (body_of other row also))
