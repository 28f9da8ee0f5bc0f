-- Runs keep what a store has at its start.
use Rattle.std.specs.Prelude.{◌≡◌, ℕ, List, [], ◌∷◌, ◌++◌}
use Rattle.std.specs.Ordering.{nat_cmp}
use Rattle.std.proofs.Common.{refl, arith, le_refl}
use Rattle.xs_model.proofs.Maps.{all_put}
use Rattle.machine_model.specs.declared.ConnSpec.{ConnSpec}
use Rattle.machine_model.specs.Connections.{fresh}
use Rattle.machine_model.specs.Machine.{Machine, new_machine, Item, step_with}
use Rattle.machine_model.specs.Sizes.{IsSizedConn}
use Rattle.machine_model.proofs.KeepLemmas.{step_keeps, with_conn_keeps, new_machine_follows}
use Rattle.machine_model.proofs.SizeLemmas.{step_sized, fresh_sized, new_machine_sized}
use Rattle.machine_model.proofs.IdLemmas.{step_ids, put_ids}
use Rattle.store_laws.specs.Lawful.{Move, Happened, Added, moved, moved_by, MayAdd, MayMove, MayMoveBy, IsKept}
use Rattle.store_laws.proofs.ChangeLemmas.{step_change}
use Rattle.store_laws.proofs.NumberLemmas.{numbers_after}

kept_step : (m : Machine) → IsKept m → (served : List ℕ) (item : Item) → IsKept (step_with served m item).0
kept_step m k served item =
    let followed = step_keeps m k.followed served item in
    record {
      followed = followed;
      sized = step_sized m k.sized served item;
      ids = step_ids m k.ids served item;
      numbers = numbers_after m (step_with served m item).0 k.followed.tree followed.tree k.numbers (step_change m k.followed served item);
    }

kept_added : (served : List ℕ) (m : Machine) → IsKept m → (id : ℕ) (spec : ConnSpec) → MayAdd m.conns id spec → IsKept (moved served m (Added id spec))
kept_added served m k id spec may = record {
  followed = with_conn_keeps m k.followed id (fresh spec) tt;
  sized = record { tree = k.sized.tree; conns = all_put nat_cmp IsSizedConn id (fresh spec) m.conns (fresh_sized spec) k.sized.conns };
  ids = put_ids m k.ids id (fresh spec) may.positive;
  numbers = record { keys = k.numbers.keys; bounded = k.numbers.bounded };
}

pub kept_move : (served : List ℕ) (m : Machine) → IsKept m → (move : Move) → MayMove m move → IsKept (moved served m move)
kept_move served m k (Happened item) may = kept_step m k served item
kept_move served m k (Added id spec) may = kept_added served m k id spec may

pub kept_moves : (served : List ℕ) (m : Machine) (moves : List Move) → IsKept m → MayMoveBy served m moves → IsKept (moved_by served m moves)
kept_moves served m [] k may = k
kept_moves served m (move ∷ moves) k may = kept_moves served (moved served m move) moves (kept_move served m k move may.0) may.1

pub new_kept : IsKept new_machine
new_kept = record {
  followed = new_machine_follows;
  sized = new_machine_sized;
  ids = record { rising = refl; positive = (le_refl 1, tt) };
  numbers = record { keys = refl; bounded = (omega arith, tt) };
}
