-- How watches are kept. This project's own.
use Rattle.std.specs.Prelude.{◌≡◌, ℕ, List, map}
use Rattle.std.specs.Global.{Vec}
use Rattle.watch_table.specs.declared.entries.Kept.{Kept}
use Rattle.watch_table.specs.Tables.{Made, watched_node, IsAskable}
use Rattle.watch_table.specs.Keys.{IsKey, watch_in}

-- a watch's key, and what is kept with it
abbrev pub Entry : Type 0
Entry = Vec ℕ × Kept

abbrev pub made_of : Entry → Made
made_of e = record { watch = watch_in e.0.items; domid = e.1.domid }

abbrev pub made_in : List Entry → List Made
made_in entries = map made_of entries

pub record IsKept (e : Entry) : Type 0 where
  pub key : IsKey e.0.items
  pub askable : IsAskable (made_of e)
  pub watched : e.1.watched ≡ watched_node (made_of e)
