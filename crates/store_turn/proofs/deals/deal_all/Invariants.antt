use Rattle.std.proofs.Common.{◌≡◌, ◌-◌, ◌≤◌, []}
use Rattle.std.specs.Prelude.{vec_len, vec_capacity}
use Rattle.store_turn.specs.declared.views.Stage.TheVariants.{Idle}
use Rattle.store_turn.specs.Rule.{view, fresh}
use Rattle.store_turn.specs.Sides.{newcomers}
use Rattle.store_turn.specs.Seats.{turn_id}
use Rattle.store_turn.proofs.deals.deal_all.Given as goal

abbrev pub invariant-loop-number : goal.invariant-loop-number
invariant-loop-number g l =
    (l.root.table_id ≡ l.initial.root.table_id)
    × (l.root.me ≡ (view Idle l.initial.root.me.0.start l.fn.callers (fresh l.number (l.fn.callers - l.number)), []))
    × (l.there.items ≡ newcomers (turn_id l.initial.root.table_id l.initial.root.me.0) 0 l.number)
    × (vec_len l.there ≡ l.number)
    × (l.fn.callers ≤ vec_capacity l.there)
