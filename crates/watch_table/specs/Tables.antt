-- The watches of one connection, in the order in which they were made (xenstore.txt, "Watches"). The words are this
-- project's own.
use Rattle.std.specs.Prelude.{◌≡◌, ℕ, ◌≤◌, Bool, true, List, Option, map, filter_map, slice_get}
use Rattle.std.specs.List.{AllByRecursion, IsDistinct}
use Rattle.xs_model.specs.Paths.{Path}
use Rattle.xs_model.specs.Requests.{is_watch_path, is_token}
use Rattle.xs_model.specs.Watches.{Watch, Event, same_watch, watched_path, matches}

-- a watch, with the domain under which a relative path of it stands
pub record Made : Type 0 where
  pub watch : Watch
  pub domid : ℕ

abbrev pub watch_of : List ℕ → List ℕ → Watch
watch_of wpath token = record { wpath = wpath; token = token }

abbrev pub watches_in : List Made → List Watch
watches_in made = map (λ m. m.watch) made

-- the node that a watch is on; a watch on a special path is on none
abbrev pub watched_node : Made → Option Path
watched_node m = watched_path m.domid m.watch

abbrev pub is_reached : Event → Made → Bool
is_reached event m = matches m.domid event m.watch

-- whether a watch is on the node of this path
abbrev pub is_on : Path → Made → Bool
is_on p m = is_reached (record { path = p; exact = true }) m

-- the watches at these places
abbrev pub at_each : List ℕ → List Made → List Made
at_each places made = filter_map (λ place. slice_get made place) places

-- a watch that a domain may ask for
pub record IsAskable (m : Made) : Type 0 where
  pub domid : m.domid ≤ 32751
  pub wpath : is_watch_path m.watch.wpath m.domid ≡ true
  pub token : is_token m.watch.token ≡ true

-- what the watches of a connection always are: each may be asked for, and no two have the same path and token
pub record AreMade (made : List Made) : Type 0 where
  pub each : AllByRecursion IsAskable made
  pub distinct : IsDistinct same_watch (watches_in made)
