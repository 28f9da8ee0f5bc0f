use denote.Param.Send.{param_sync, arg_sync}
use Rattle.store_turn.proofs.Crossings.{turn_sync}
use Rattle.store_turn.proofs.laws.turn_crosses.Goals as goal

pub is_shared-requires-sync-T : goal.is_shared-requires-sync-T
is_shared-requires-sync-T g c κs within = search (param_sync, arg_sync, turn_sync, c.type_bounds.send-O, c.type_bounds.send-O-Op)
