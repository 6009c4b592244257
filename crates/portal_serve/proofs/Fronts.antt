-- Fronts of the bytes of a script: their lines, and whether they end where a line ends.
use Rattle.std.proofs.Common.{◌≡◌, ◌⊎◌, ℕ, List, [], ◌∷◌, ◌++◌, Option, Some, refl, sym, ap, subst, ◌∙◌, append_assoc}
use Rattle.std.proofs.Common.{append-nil, filter, inl, inr}
use Rattle.std.proofs.lemmas.List.Elements.{filter-append}
use Rattle.std.specs.Str.Lines.{lines}
use Rattle.portal_base.specs.Outside.{Gives, IsAtEnd}
use Rattle.portal_lines.specs.Lines.{EndsLine}
use Rattle.portal_serve.proofs.Fetching.{nothing_first, nothing_second}
use Rattle.portal_serve.specs.Played.{EndsAll}
use Rattle.portal_serve.specs.Script.{script_lines, is_nonempty}

-- ---- lines

-- a line that is taken ends where a line ends, or nothing comes after it
pub line_ends : (front line held : List ℕ) (left : Option (List ℕ)) → lines front ≡ line ∷ []
    → EndsLine front line ⊎ ((held ≡ []) × IsAtEnd left)
    → EndsAll front ⊎ ((held ≡ []) × IsAtEnd left)
line_ends front line held left only (inl ends) = inl (λ more. ends more ∙ sym (ap (λ ls. ls ++ lines more) only))
line_ends front line held left only (inr over) = inr over

-- the lines of a front that ends where a line ends come before those of what comes after
pub ended_lines : (front taken after : List ℕ) → EndsAll front ⊎ (taken ++ after ≡ [])
    → lines (front ++ taken) ≡ lines front ++ lines taken
ended_lines front taken after (inl all) = all taken
ended_lines front taken after (inr none) =
    subst (λ h. lines (front ++ h) ≡ lines front ++ lines h) (sym (nothing_first taken after none))
    (ap lines (append-nil front) ∙ sym (append-nil (lines front)))

-- two pieces that end so
ended_both : (front taken after : List ℕ) → EndsAll front ⊎ (taken ++ after ≡ []) → EndsAll taken ⊎ (after ≡ [])
    → EndsAll (front ++ taken) ⊎ (after ≡ [])
ended_both front taken after (inr none) second = inr (nothing_second taken after none)
ended_both front taken after (inl all) (inr none) = inr none
ended_both front taken after (inl all) (inl ends) = inl (λ more.
    ap lines (append_assoc front taken more) ∙ all (taken ++ more) ∙ ap (λ ls. lines front ++ ls) (ends more)
    ∙ sym (append_assoc (lines front) (lines taken) (lines more)) ∙ sym (ap (λ ls. ls ++ lines more) (all taken)))

-- where no more bytes come, what ends at the end has nothing after it
ended_told : (taken after more : List ℕ) (left : Option (List ℕ)) → left ≡ Some more
    → EndsAll taken ⊎ ((after ≡ []) × IsAtEnd left)
    → EndsAll taken ⊎ (after ++ more ≡ [])
ended_told taken after more left observed (inl ends) = inl ends
ended_told taken after more left observed (inr p) = let over : more ≡ [] = subst IsAtEnd observed p.1 in
    inr (ap (λ a. a ++ more) p.0 ∙ over)

-- bytes in the buffer, some more that came, and those that were taken off the front
regroup : (held bytes taken after more : List ℕ) → held ++ bytes ≡ taken ++ after
    → held ++ (bytes ++ more) ≡ taken ++ (after ++ more)
regroup held bytes taken after more e = sym (append_assoc held bytes more) ∙ ap (λ x. x ++ more) e
    ∙ append_assoc taken after more

-- what an observable source gave in a call
pub record Gave (rest : List ℕ) (bytes : List ℕ) (left : Option (List ℕ)) : Type 0 where
  pub more : List ℕ
  pub observed : left ≡ Some more
  pub splits : rest ≡ bytes ++ more

pub gave : (rest bytes : List ℕ) (observed left : Option (List ℕ)) → observed ≡ Some rest → Gives observed bytes left
    → Gave rest bytes left
gave rest bytes observed left is gives =
    let g = subst (λ o. Gives o bytes left) is gives in
    record { more = g.0; observed = g.1; splits = g.2 }

-- What is taken after a front, in one turn: the lines of both, and whether they end where a line ends.
pub record Advances (whole front taken after : List ℕ) : Type 0 where
  pub splits : whole ≡ (front ++ taken) ++ after
  pub both : script_lines (front ++ taken) ≡ script_lines front ++ script_lines taken
  pub ended : EndsAll (front ++ taken) ⊎ (after ≡ [])

pub advances : (whole front held rest bytes more taken after : List ℕ) (left : Option (List ℕ))
    → whole ≡ front ++ (held ++ rest)
    → EndsAll front ⊎ (held ++ rest ≡ []) → rest ≡ bytes ++ more → held ++ bytes ≡ taken ++ after → left ≡ Some more
    → EndsAll taken ⊎ ((after ≡ []) × IsAtEnd left) → Advances whole front taken (after ++ more)
advances whole front held rest bytes more taken after left all before came splits observed ended =
    let in_hand : held ++ rest ≡ taken ++ (after ++ more) = ap (λ x. held ++ x) came
    ∙ regroup held bytes taken after more splits in
    let first : EndsAll front ⊎ (taken ++ (after ++ more) ≡ []) =
    subst (λ x. EndsAll front ⊎ (x ≡ [])) in_hand before in
    record {
      splits = all ∙ ap (λ x. front ++ x) in_hand ∙ sym (append_assoc front taken (after ++ more));
      both = ap (filter is_nonempty) (ended_lines front taken (after ++ more) first)
          ∙ filter-append is_nonempty (lines front) (lines taken);
      ended = ended_both front taken (after ++ more) first (ended_told taken after more left observed ended);
    }
