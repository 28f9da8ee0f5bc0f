-- What single events owe to single connections, in bytes. This project's own.
use Rattle.std.specs.Prelude.{ℕ, ◌==◌, List, [], Option, Some, None, if◌then◌else◌, flat_map}
use Rattle.std.specs.Ordering.{nat_cmp}
use Rattle.std.specs.FinMap.{find}
use Rattle.xs_model.specs.declared.perm.Perm.{Perm}
use Rattle.xs_model.specs.Perms.{Caller}
use Rattle.xs_model.specs.Messages.{message_bytes}
use Rattle.xs_model.specs.Watches.{Event, owed, special_owed}
use Rattle.machine_model.specs.declared.ConnSpec.{ConnSpec}
use Rattle.machine_model.specs.Connections.{caller_of}
use Rattle.conn_table.specs.Tables.{Specs}
use Rattle.watchers.specs.Watched.{Watched, watches_of}

-- what is owed to a connection that was found, if it is there
abbrev pub if_found : Option ConnSpec → (Caller → List ℕ) → List ℕ
if_found None bytes = []
if_found (Some spec) bytes = bytes (caller_of spec)

-- the messages that an event at a node with these entries owes to a connection
abbrev pub event_bytes : Specs → Watched → Event → List Perm → ℕ → List ℕ
event_bytes specs watched event perms c =
    if_found (find nat_cmp c specs) (λ caller. flat_map message_bytes (owed caller (watches_of c watched) event perms))

-- those that a special event owes to it
abbrev pub special_bytes : Specs → Watched → List ℕ → ℕ → List ℕ
special_bytes specs watched special c =
    if_found (find nat_cmp c specs) (λ caller. flat_map message_bytes (special_owed caller (watches_of c watched) special))

-- bytes for one connection alone
abbrev pub only_for : ℕ → List ℕ → ℕ → List ℕ
only_for id bytes c = if c == id then bytes else []
