use Rattle.std.proofs.Common.{◌≡◌, ◌++◌, map, drop}
use Rattle.xs_model.specs.Messages.{message_bytes}
use Rattle.watch_table.specs.Tables.{watches_in, at_each}
use Rattle.watch_events.specs.Told.{told}
use Rattle.watch_events.proofs.sending.listed.Given as goal

-- so far, and what is left
abbrev pub invariant-loop-place : goal.invariant-loop-place
invariant-loop-place l =
    l.messages ++ map message_bytes (map (told l.domid l.path) (watches_in (at_each (drop l.place-index l.places) l.watches)))
    ≡ map message_bytes (map (told l.domid l.path) (watches_in (at_each l.places l.watches)))
