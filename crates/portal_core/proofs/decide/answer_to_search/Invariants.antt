use Rattle.portal_core.proofs.decide.answer_to_search.Given as goal

-- The steps are counted over the blank that is passed.
abbrev pub ghosts-search_over : goal.ghosts-search_over
ghosts-search_over a = record { name = a.blank.name; parts = a.blank.parts }
