-- What the parts of a step say of what a world keeps.
use Rattle.std.specs.Prelude.{◌≡◌, ℕ, ◌<◌, ◌≤◌, false, List, length, min, Option, Some, None}
use Rattle.std.specs.Ordering.{nat_cmp}
use Rattle.std.specs.FinMap.{find}
use Rattle.world_model.specs.declared.Said.{Said}
use Rattle.world_model.specs.Rings.{free, is_bad}
use Rattle.world_model.specs.Fronts.{Whole, front}
use Rattle.world_model.specs.Worlds.{World, Guest, Served, served, sent_some}
use Rattle.world_core.specs.Stands.{Kept, StandsFor, Follows}

-- the domain's connection is served, in each world that is stood for
pub record Serves (kept : Kept) (d c : ℕ) (w : World) : Type 0 where
  pub at : Served
  pub served : served w d ≡ Some at
  pub conn : at.conn ≡ c

abbrev pub IsServed : Kept → ℕ → Option ℕ → Type 0
IsServed kept d None = (w : World) → StandsFor kept w → served w d ≡ None
IsServed kept d (Some c) = (w : World) → StandsFor kept w → Serves kept d c w

-- a message of so many bytes is whole in front of the inbox
abbrev pub IsInFront : List (ℕ × List ℕ) → ℕ → ℕ → Type 0
IsInFront inboxes c n = (bytes : List ℕ) → find nat_cmp c inboxes ≡ Some bytes → front bytes ≡ Whole n

-- the reply ring has room for so many bytes
pub record HasRoomFor (n : ℕ) (guest : Guest) : Type 0 where
  pub good : is_bad guest.page.reply ≡ false
  pub room : n ≤ free guest.page.reply

abbrev pub HasRoom : List (ℕ × Guest) → ℕ → ℕ → Type 0
HasRoom guests d n = (guest : Guest) → find nat_cmp d guests ≡ Some guest → HasRoomFor n guest

-- at most so many unsent bytes go to the reply ring of who is served, who has some
abbrev pub SendsSome : Kept → ℕ → ℕ → ℕ → Kept → Said → Type 0
SendsSome old d c most new said =
    (w : World) (at : Served) → StandsFor old w → served w d ≡ Some at → at.conn ≡ c → 0 < length at.channel.unsent
    → Follows new said (sent_some d (min most (length at.channel.unsent)) w at)
