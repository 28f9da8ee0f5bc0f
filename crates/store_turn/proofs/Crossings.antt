-- A turn may be shared, and what lies at its table may be sent, for every object.
use denote.RattleType.{RattleType}
use denote.Param.Send.{IsSend, IsSync, view_sync}
use denote.Param.SendFields.{declared_send, declared_sync, as_row_send}
use denote.Struct.Field.{row_field}
use Rattle.std.proofs.Crossing.{crosses, Vec-send, send, sync, frees}
use Rattle.std.proofs.option.Option.TheSendSync as option
use Rattle.std.specs.contracts.snapshot.Snapshot as snapshot
use Rattle.std.specs.contracts.alloc.Global as heap
use Rattle.std.specs.contracts.impls.GlobalAllocator.TheImpl.{ghosts}
use Rattle.atomic_table.proofs.owned.Table.TheSendSync as table
use Rattle.store_turn.specs.declared.object.Object.{Ghosts}
use Rattle.store_turn.specs.contracts.history.Entry as entry
use Rattle.store_turn.proofs.history.Entry.TheSendSync as entries
use Rattle.store_turn.specs.contracts.desk.Desk as desk
use Rattle.store_turn.specs.contracts.turn.Turn as turn
use Rattle.store_turn.specs.contracts.turn.Turn.TheInside as inside
use Rattle.store_turn.specs.contracts.views.Terms as terms
use Rattle.store_turn.specs.contracts.views.Tickets as tickets
use Rattle.store_turn.specs.contracts.views.View as view
use Rattle.store_turn.specs.contracts.views.TicketsTableRuleDeskViewTerms.TheImpl as rule_of

snapshot_send : (T : RattleType) → IsSend (snapshot.the_row T)
snapshot_send T = search crosses

module _ (O Op Answer : RattleType) (g : Ghosts O.Denot Op.Denot Answer.Denot) where
  desk_send : IsSend O → IsSend Op → IsSend (desk.the_row O Op Answer g)
  desk_send object op = declared_send (desk.the_type O Op Answer g) (
    as_row_send (row_field O) object,
    (
      Vec-send (entry.the_row O Op Answer) (entries.the_send O Op Answer op),
      (option.the_send (snapshot.the_row Op) (snapshot_send Op), (snapshot_send O, tt)),
    ),
  )

  pub turn_sync : IsSend O → IsSend Op → IsSync (turn.the_row O Op Answer g)
  turn_sync object op = view_sync (inside.the_row O Op Answer g) _ _ _ _ (declared_sync (inside.the_type O Op Answer g) (
    table.the_sync
        (desk.the_row O Op Answer g)
        (view.the_row O Op Answer)
        (terms.the_row O Op Answer)
        (tickets.the_row O Op Answer)
        heap.the_row
        (rule_of.ghosts O Op Answer g rule_of.no_dict rule_of.no_dict rule_of.no_dict)
        ghosts
        (desk_send object op)
        send
        sync
        frees,
    tt,
  ))
