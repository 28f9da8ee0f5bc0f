use Rattle.std.proofs.Common.{◌≡◌, ℕ, List, [], ◌∷◌, ◌+◌, ◌≤◌, sym, subst, ◌∙◌, arith}
use Rattle.std.specs.List.{AllByRecursion}
use Rattle.machine_model.specs.History.{Unsent}
use Rattle.out_queues.specs.Queues.{Queue}
use Rattle.conn_rows.specs.Queued.{unsent_of}
use Rattle.conn_rows.proofs.UnsentBytes.{all_unsent}
use Rattle.store_tests.proofs.conn_rows_calls.send.Goals as goal

one_or_more : (n : ℕ) → 1 ≤ n + 1
one_or_more n = omega arith

-- the three ids are positive
positive : (queues : List (ℕ × Queue)) → unsent_of queues ≡ (1, []) ∷ (2, []) ∷ (5, []) ∷ [] → AllByRecursion (λ e. 1 ≤ e.0) queues
positive queues three =
    all_unsent (λ e. 1 ≤ e.0) queues (subst (λ (u : Unsent). AllByRecursion (λ e. 1 ≤ e.0) u) (sym three) (one_or_more 0, (one_or_more 1, (one_or_more 4, tt))))

pub reserve_all-requires : goal.reserve_all-requires
reserve_all-requires c = record { positive = positive c.args.rows.now.queues c.requires.three }

pub send-requires-clause-positive : goal.send-requires-clause-positive
send-requires-clause-positive c = positive c.reserve_all.new.self.queues (c.reserve_all.ensures.bytes ∙ c.requires.three)
