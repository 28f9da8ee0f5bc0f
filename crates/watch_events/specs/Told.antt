-- What single watches are told. This project's own.
use Rattle.std.specs.Prelude.{◌≤◌, ℕ, List, length, Option, slice_get, option_map}
use Rattle.std.specs.Borrow.{Bor}
use Rattle.std.specs.Option.{option_to_list}
use Rattle.xs_model.specs.Paths.{Path}
use Rattle.xs_model.specs.Messages.{Message}
use Rattle.xs_model.specs.Watches.{Watch, named_path, event_message, first_event}
use Rattle.watch_table.specs.Tables.{Made}

-- what a watch of a domain is told of an event at a path
abbrev pub told : ℕ → Path → Watch → Message
told domid p w = event_message (named_path domid w p) w.token

-- the watch at a place
abbrev pub watch_at : List Made → ℕ → Option Watch
watch_at made place = option_map (λ m. m.watch) (slice_get made place)

-- what the watch at a place is told, if there is one
abbrev pub told_at : ℕ → Path → List Made → ℕ → List Message
told_at domid p made place = option_to_list (option_map (told domid p) (watch_at made place))

abbrev pub first_at : List Made → ℕ → List Message
first_at made place = option_to_list (option_map first_event (watch_at made place))

-- a path and a token that fit in a message
pub record Fit (parts : Bor (List ℕ) × Bor (List ℕ)) : Type 0 where
  pub wpath : length parts.0.now ≤ 3072
  pub token : length parts.1.now ≤ 1022
