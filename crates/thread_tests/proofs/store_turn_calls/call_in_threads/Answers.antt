use Rattle.std.proofs.Common.{[], ◌∷◌}
use mir.Syntax.{Sym, Ty, Lifetime}
use base.Fml.{Lft}
use denote.RattleType.{RattleType}
use denote.Exit.{no}
use denote.Ref.{ShrRef}
use denote.Struct.Field.{row_field, u32-field, u64-field}
use denote.Struct.Tuple.{TupleAt, type_at}
use denote.Param.{param, arg}
use denote.Param.Send.{IsSync, param_sync, arg_sync, shr_sync, sendable}
use denote.Param.SendFields.{declared_sync, as_row_sync}
use Rattle.store_turn.proofs.Crossings.{turn_sync}
use Rattle.store_turn.specs.contracts.turn.Turn as turn
use Rattle.thread_tests.specs.contracts.store_turn_calls.Numbers as numbers
use Rattle.thread_tests.specs.contracts.store_turn_calls.NumbersObject.TheImpl as object
use Rattle.thread_tests.proofs.store_turn_calls.Numbers.TheSendSync as sends
use Rattle.thread_tests.proofs.store_turn_calls.call_in_threads.Goals as goal

shared : IsSync (turn.the_row numbers.the_row (u32-field).row (u64-field).row object.ghosts)
shared = turn_sync numbers.the_row (u32-field).row (u64-field).row object.ghosts sends.the_send (search sendable)

-- what each thread is lent: its handle and the turn
captured :
    (δ : Ty) (ν : Sym) (ℓ ℓ' : Lifetime) (κ κ' : Lft) (R T : RattleType) →
    IsSync R → IsSync T → IsSync (param 4 (arg δ no (TupleAt ν (ShrRef ℓ κ R ∷ ShrRef ℓ' κ' T ∷ []))))
captured δ ν ℓ ℓ' κ κ' R T r t =
    let Ts = ShrRef ℓ κ R ∷ ShrRef ℓ' κ' T ∷ [] in
    param_sync 4 (arg δ no (TupleAt ν Ts)) (arg_sync δ no (TupleAt ν Ts) (declared_sync (type_at ν Ts) (
      as_row_sync (row_field (ShrRef ℓ κ R)) (shr_sync ℓ κ R r),
      (as_row_sync (row_field (ShrRef ℓ' κ' T)) (shr_sync ℓ' κ' T t), tt),
    )))

pub map_vec-requires-sync-F : goal.map_vec-requires-sync-F
map_vec-requires-sync-F g c κs within = captured
    _
    _
    _
    _
    _
    _
    (param 0 g.row.R)
    (turn.the_row numbers.the_row (u32-field).row (u64-field).row object.ghosts)
    c.type_bounds.sync-R
    shared
