-- A watch as one string of bytes, by which it is found. This project's own.
use Rattle.std.specs.Prelude.{◌≡◌, ℕ, ◌≤◌, List, ◌++◌, length, take, drop}
use Rattle.std.specs.Int.{w16, to_be_bytes, from_be_bytes}
use Rattle.xs_model.specs.Watches.{Watch}
use Rattle.watch_table.specs.Tables.{watch_of}

-- the length of the path in two bytes, the path and the token
abbrev pub joined : Watch → List ℕ
joined w = to_be_bytes w16 (length w.wpath) ++ (w.wpath ++ w.token)

-- the path and the token in such a string
abbrev pub path_length : List ℕ → ℕ
path_length key = from_be_bytes w16 (take 2 key)

abbrev pub path_in : List ℕ → List ℕ
path_in key = take (path_length key) (drop 2 key)

abbrev pub token_in : List ℕ → List ℕ
token_in key = drop (path_length key) (drop 2 key)

abbrev pub watch_in : List ℕ → Watch
watch_in key = watch_of (path_in key) (token_in key)

-- the string of a watch that is no longer than a domain may ask for
pub record IsKey (key : List ℕ) : Type 0 where
  pub parts : key ≡ joined (watch_in key)
  pub fits : length key ≤ 4096
