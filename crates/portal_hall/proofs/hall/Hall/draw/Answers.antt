use Rattle.std.proofs.Common.{rules}
use Rattle.portal_hall.proofs.Keeps.{draws}
use Rattle.portal_hall.proofs.hall.Hall.draw.Goals as goal

pub fetch_add-requires : goal.fetch_add-requires
fetch_add-requires g c = (search rules, search rules, draws _ _ _ _ _ _ _ _ c.requires.stage c.requires.some_room)
