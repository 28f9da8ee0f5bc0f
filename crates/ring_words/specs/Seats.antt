-- A seat at a ring, and a step from it.
use Rattle.std.specs.Prelude.{◌≡◌}
use Rattle.atomic_table.specs.Seated.{TableId}
use Rattle.atomic_table.specs.declared.shared.Seat.{Seat}
use Rattle.ring_words.specs.declared.view.View.{View}
use Rattle.ring_words.specs.declared.view.Role.{Role}

-- the seat has this role at this table, which has 1027 words and no slots
pub record IsSeatOf (role : Role) (table : TableId) (seat : Seat Unit View) : Type 0 where
  pub words : table.words ≡ 1027
  pub slots : table.slots ≡ 0
  pub of_it : seat.table_id ≡ table
  pub has_role : seat.me.0.role ≡ role

-- the seat has this view after a step, and is else as it was
abbrev pub Becomes : Seat Unit View → Seat Unit View → View → Type 0
Becomes old new view = (new.table_id ≡ old.table_id) × (new.me ≡ (view, old.me.1))
