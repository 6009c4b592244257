-- The keeper that was adopted has the connection that was opened.
use Rattle.std.proofs.Common.{sym, subst}
use Rattle.sqlite.specs.Files.{file_state, IsOpened}
use Rattle.sqlite.specs.Start.{FindsIn}
use Rattle.sqlite.specs.State.{HasCleanDisk}
use Rattle.sqlite_wal.specs.Files.{image_at}
use Rattle.portal_store.proofs.opening.open_file.Goals as goal

pub returns-in-Ok-clause-opened : goal.returns-in-Ok-clause-opened
returns-in-Ok-clause-opened g c =
    subst (λ keeper. HasCleanDisk (file_state keeper.connection) → IsOpened keeper.connection) (sym c.adopt.ensures)
    c.in-Ok.ensures.opened

pub returns-in-Ok-clause-found : goal.returns-in-Ok-clause-found
returns-in-Ok-clause-found g c =
    subst (λ keeper. HasCleanDisk (file_state keeper.connection)
    → FindsIn (image_at g.S.Start) (file_state keeper.connection)) (sym c.adopt.ensures)
    c.in-Ok.ensures.found

pub returns-in-Ok-clause-guarded : goal.returns-in-Ok-clause-guarded
returns-in-Ok-clause-guarded g c =
    subst (λ keeper. HasCleanDisk (file_state keeper.connection) → (file_state keeper.connection).IsShielded)
    (sym c.adopt.ensures) c.in-Ok.ensures.guarded
