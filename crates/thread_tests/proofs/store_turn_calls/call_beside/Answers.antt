use Rattle.std.proofs.Common.{[], ◌∷◌}
use mir.Syntax.{Sym, Ty, Lifetime}
use base.Fml.{Lft}
use denote.RattleType.{RattleType}
use denote.Exit.{no}
use denote.Ref.{ShrRef}
use denote.Struct.Field.{row_field, u32-field, u64-field}
use denote.Struct.Tuple.{TupleAt, type_at}
use denote.Param.{param, arg}
use denote.Param.Send.{IsSend, IsSync, param_send, arg_send, shr_send, sendable}
use denote.Param.SendFields.{declared_send, as_row_send}
use Rattle.store_turn.proofs.Crossings.{turn_sync}
use Rattle.store_turn.specs.contracts.turn.Turn as turn
use Rattle.store_turn.specs.contracts.callers.Caller as caller
use Rattle.thread_tests.specs.contracts.store_turn_calls.Numbers as numbers
use Rattle.thread_tests.specs.contracts.store_turn_calls.NumbersObject.TheImpl as object
use Rattle.store_turn.proofs.callers.Caller.TheSendSync as callers
use Rattle.thread_tests.proofs.store_turn_calls.Numbers.TheSendSync as sends
use Rattle.thread_tests.proofs.store_turn_calls.call_beside.Goals as goal

shared : IsSync (turn.the_row numbers.the_row (u32-field).row (u64-field).row object.ghosts)
shared = turn_sync numbers.the_row (u32-field).row (u64-field).row object.ghosts sends.the_send (search sendable)

sent : IsSend (caller.the_row numbers.the_row (u32-field).row (u64-field).row object.ghosts)
sent = callers.the_send numbers.the_row (u32-field).row (u64-field).row object.ghosts

-- what the first thread captures: its handle, the turn and its caller
captured :
    (δ : Ty) (ν : Sym) (ℓ ℓ' : Lifetime) (κ κ' : Lft) (R T C : RattleType) →
    IsSync R → IsSync T → IsSend C → IsSend (param 1 (arg δ no (TupleAt ν (ShrRef ℓ κ R ∷ ShrRef ℓ' κ' T ∷ C ∷ []))))
captured δ ν ℓ ℓ' κ κ' R T C r t c =
    let Ts = ShrRef ℓ κ R ∷ ShrRef ℓ' κ' T ∷ C ∷ [] in
    param_send 1 (arg δ no (TupleAt ν Ts)) (arg_send δ no (TupleAt ν Ts) (declared_send (type_at ν Ts) (
      as_row_send (row_field (ShrRef ℓ κ R)) (shr_send ℓ κ R r),
      (as_row_send (row_field (ShrRef ℓ' κ' T)) (shr_send ℓ' κ' T t), (as_row_send (row_field C) c, tt)),
    )))

pub join-requires-send-F : goal.join-requires-send-F
join-requires-send-F g c κs within = captured
    _
    _
    _
    _
    _
    _
    (param 0 g.row.R)
    (turn.the_row numbers.the_row (u32-field).row (u64-field).row object.ghosts)
    (caller.the_row numbers.the_row (u32-field).row (u64-field).row object.ghosts)
    c.type_bounds.sync-R
    shared
    sent
