-- What a row tells of its connection, or that it is not there.
use Rattle.std.proofs.Common.{◌≡◌, ℕ, zero, suc, ◌≤◌, true, List, [], ◌∷◌, length, map, Option, Some, None, sym, refl, ap, ◌∙◌, arith}
use Rattle.std.specs.Option.{option_map}
use Rattle.std.specs.Ordering.{nat_cmp}
use Rattle.std.specs.FinMap.{find}
use Rattle.xs_model.specs.Wholes.{whole_behind}
use Rattle.xs_model.proofs.Maps.{found_map, not_both}
use Rattle.machine_model.specs.History.{bytes_or_none}
use Rattle.machine_model.specs.declared.bounds.TheConstants.{CROWD_LIMIT}
use Rattle.out_queues.specs.Queues.{Queue}
use Rattle.conn_rows.specs.Rows.{Row}
use Rattle.conn_rows.specs.Queued.{unsent_of, rests_of}
use Rattle.store_parts.specs.States.{or_zero, rest_of}

-- what is made of its queue
through : {X : Type 0} (f : Queue → X) (row : Option Row) → option_map (λ (r : Row). f r.queue) row ≡ option_map f (option_map (λ (r : Row). r.queue) row)
through f None = refl
through f (Some r) = refl

module _ (c : ℕ) (queues : List (ℕ × Queue)) (row : Option Row) (is : option_map (λ (r : Row). r.queue) row ≡ find nat_cmp c queues) where
  told : {X : Type 0} (f : Queue → X) → option_map (λ (r : Row). f r.queue) row ≡ find nat_cmp c (map (λ (e : ℕ × Queue). (e.0, f e.1)) queues)
  told f = through f row ∙ ap (option_map f) is ∙ sym (found_map nat_cmp f c queues)

  pub unsent_told : bytes_or_none (option_map (λ (r : Row). r.queue.bytes) row) ≡ bytes_or_none (find nat_cmp c (unsent_of queues))
  unsent_told = ap bytes_or_none (told (λ (q : Queue). q.bytes))

  pub rest_told : or_zero (option_map (λ (r : Row). r.queue.rest) row) ≡ rest_of c (rests_of queues)
  rest_told = ap or_zero (told (λ (q : Queue). q.rest))

pub crowd : CROWD_LIMIT ≤ 16777216
crowd = omega arith

-- a rest is no longer than the bytes
pub rest_within : (n : ℕ) (bytes : List ℕ) → whole_behind n bytes ≡ true → n ≤ length bytes
rest_within zero bytes h = omega arith
rest_within (suc n) [] h = not_both h refl
rest_within (suc n) (b ∷ bs) h = omega (arith, rest_within n bs h)
