use Rattle.std.specs.Str.{bytes_eq}
use Rattle.std.proofs.Common.{◌≡◌, ◌<◌, All, filter, length, take}
use Rattle.watch_table.specs.Tables.{at_each}
use Rattle.watch_table.proofs.table.Watches.specials.Given as goal

-- of the watches before the place, those on the special path are at the places so far
abbrev pub invariant-loop-place : goal.invariant-loop-place
invariant-loop-place l =
    record {
      each : at_each l.places.items l.self ≡ filter (λ m. bytes_eq m.watch.wpath l.special) (take l.place l.self);
      within : All (λ place. place < length l.self) l.places.items;
    }
