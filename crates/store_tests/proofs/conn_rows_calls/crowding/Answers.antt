use Rattle.std.proofs.Common.{ℕ, ◌+◌, ◌≤◌, length, sym, subst, arith}
use Rattle.std.specs.List.{AllByRecursion}
use Rattle.machine_model.specs.declared.bounds.TheConstants.{CROWD_LIMIT}
use Rattle.machine_model.specs.History.{Unsent}
use Rattle.conn_rows.proofs.UnsentBytes.{all_unsent}
use Rattle.conn_rows.proofs.WalkLemmas.{all_at}
use Rattle.store_tests.proofs.conn_rows_calls.crowding.Goals as goal

one_or_more : (n : ℕ) → 1 ≤ n + 1
one_or_more n = omega arith

none_more : (n : ℕ) → 0 ≤ n
none_more n = omega arith

none_besides : (n limit : ℕ) → n ≤ limit → 0 + n ≤ limit
none_besides n limit le = omega arith

pub crowding-requires-clause-positive : goal.crowding-requires-clause-positive
crowding-requires-clause-positive c =
    all_unsent (λ e. 1 ≤ e.0) c.args.rows.now.queues (subst (λ (u : Unsent). AllByRecursion (λ e. 1 ≤ e.0) u) (sym c.requires.three) (one_or_more 0, (one_or_more 1, (one_or_more 4, tt))))

pub crowding-requires-clause-short : goal.crowding-requires-clause-short
crowding-requires-clause-short c =
    all_unsent (λ e. length e.1 ≤ CROWD_LIMIT) c.args.rows.now.queues
    (subst (λ (u : Unsent). AllByRecursion (λ e. length e.1 ≤ CROWD_LIMIT) u) (sym c.requires.three) (none_more CROWD_LIMIT, (none_more CROWD_LIMIT, (none_more CROWD_LIMIT, tt))))

pub crowding-requires-clause-few : goal.crowding-requires-clause-few
crowding-requires-clause-few c queue found =
    let few : 0 + c.args.reply ≤ CROWD_LIMIT = none_besides c.args.reply CROWD_LIMIT c.requires.few in
    all_at c.args.conn queue (λ e. length e.1.bytes + c.args.reply ≤ CROWD_LIMIT) c.args.rows.now.queues
    (all_unsent (λ e. length e.1 + c.args.reply ≤ CROWD_LIMIT) c.args.rows.now.queues
    (subst (λ (u : Unsent). AllByRecursion (λ e. length e.1 + c.args.reply ≤ CROWD_LIMIT) u) (sym c.requires.three) (few, (few, (few, tt))))) found
