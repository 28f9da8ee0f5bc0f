use Rattle.std.proofs.Common.{◌≡◌, ◌<◌, All, filter, length, take}
use Rattle.watch_table.specs.Tables.{is_reached, at_each}
use Rattle.watch_table.proofs.table.Watches.reached.Given as goal

-- of the watches before the place, those that are reached are at the places so far
abbrev pub invariant-loop-place : goal.invariant-loop-place
invariant-loop-place l =
    record {
      each : at_each l.places.items l.self ≡ filter (is_reached (record { path = l.path; exact = l.exact })) (take l.place l.self);
      within : All (λ place. place < length l.self) l.places.items;
    }
