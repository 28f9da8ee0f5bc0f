-- Commands and transactions: what is kept after them follows from what was kept before.
use Rattle.std.specs.Prelude.{◌≡◌, ℕ, ◌≤◌, ◌==◌, Bool, true, false, cond, not, [], length, nat_le, decimal, Option, Some, None, Ok}
use Rattle.std.specs.Option.{option_map}
use Rattle.std.specs.Ordering.{nat_cmp}
use Rattle.std.specs.FinMap.{find, put, nat_cmp-IsAntisymmetric}
use Rattle.std.proofs.Common.{sym, refl, ap, ◌∙◌}
use Rattle.xs_model.specs.declared.message.WireErr.TheVariants.{Ebusy, Enospc, Eagain}
use Rattle.xs_model.specs.Paths.{Path}
use Rattle.xs_model.specs.Trees.{Tree}
use Rattle.xs_model.specs.Messages.{string, ok_payload}
use Rattle.xs_model.specs.Generations.{generation_of}
use Rattle.xs_model.specs.Requests.{Operation}
use Rattle.xs_model.specs.Commands.{Outcome}
use Rattle.xs_model.proofs.Maps.{found_map, all_found, all_where, keys_found, length_map}
use Rattle.machine_model.specs.Connections.{Connection, least_free}
use Rattle.machine_model.specs.Transactions.{Transaction, Ran, started, outcome_on, run_on, after, wrote, count, within_count, if_any, is_in_conflict, with_command}
use Rattle.machine_model.specs.Machine.{Machine, Done, refused, replied, with_conn, with_transaction, without_transaction, ran_by, done_command, command_inside, run_command, transaction_limit, start, committed, finish, close}
use Rattle.machine_model.specs.Serial.{IsOpenOver, IsFollowed}
use Rattle.machine_model.specs.Limits.{HasIds}
use Rattle.machine_model.proofs.KeepLemmas.{with_conn_keeps, conn_there}
use Rattle.machine_model.proofs.IdLemmas.{put_ids}
use Rattle.mark_model.specs.Marks.{overlay, committed as marks_committed, written_paths, access_all, write_all}
use Rattle.mark_model.specs.Open.{marks_of}
use Rattle.mark_model.specs.Stores.{KeptDone, kept_transaction, opens_in, without_transactions, kept_of, opens_of, kept_refused, kept_replied, with_opens, kept_change, kept_outside, edits_of, ran_over, kept_inside, kept_command, no_marks, kept_start, kept_finish, kept_close}
use Rattle.mark_model.specs.Laws.{IsSameChange}
use Rattle.mark_model.proofs.MarkLaws.{MarkLaws}
use Rattle.mark_model.proofs.StoreMaps.{put_values, where_values, free_values}
use Rattle.mark_model.proofs.StoreChanges.{same_change}
use Rattle.mark_model.proofs.StoreKeepers.{followed_kept}
use Rattle.mark_model.proofs.StoreParts.{kept_with, opens_there, bare_sends, change_kept, count_more}

-- what is kept of what a request did
abbrev pub done_kept : Done → KeptDone
done_kept done = record { reply = done.reply; store = kept_of done.machine; sends = done.sends }

pub if_kept : (b : Bool) (x y : Done) (u v : KeptDone) → done_kept x ≡ u → done_kept y ≡ v → done_kept (cond b x y) ≡ cond b u v
if_kept true x y u v g h = g
if_kept false x y u v g h = h

module _ (laws : MarkLaws) where
  -- ONE TRANSACTION. A command in it
  ran_kept : (tree : Tree) (t : Transaction) (ran : Ran) → overlay tree (marks_of t) ≡ after t → kept_transaction (with_command ran t) ≡ ran_over tree ran (kept_transaction t)
  ran_kept tree t ran seen = λ i. record {
    marks = (laws.command t ran ∙ ap (λ look. access_all (outcome_on look ran).touched (write_all (edits_of look ran) (marks_of t))) (sym seen)) i;
    count = (count_more t ran ∙ ap (λ look. within_count (if_any (outcome_on look ran).written (count t))) (sym seen)) i;
  }

  -- its end, when the machine is without it
  module _ (m : Machine) (is : IsFollowed m) (ids : HasIds m.conns) (t : Transaction) (o : IsOpenOver m.tree t) where
    commit_kept : is_in_conflict t ≡ false → done_kept (committed m t (run_on m.tree t)) ≡ kept_change (Ok ok_payload) (marks_committed m.tree (marks_of t)) (written_paths (marks_of t)) (kept_of m)
    commit_kept free =
        let tree : Tree = (run_on m.tree t).tree in
        let same : IsSameChange tree (wrote t) (written_paths (marks_of t)) (kept_of m) (kept_of m).machine.conns =
        same_change tree (wrote t) (written_paths (marks_of t)) (kept_of m) (kept_of m).machine.conns (followed_kept laws m is ids) (λ p. sym (laws.written t p))
        in
        let made : done_kept (committed m t (run_on m.tree t)) ≡ kept_change (Ok ok_payload) tree (wrote t) (kept_of m) =
        λ i. record { reply = Ok ok_payload; store = change_kept laws m is tree (wrote t) i; sends = sym (bare_sends m.tree tree (wrote t) m.conns) i }
        in
        let turned : kept_change (Ok ok_payload) tree (wrote t) (kept_of m) ≡ kept_change (Ok ok_payload) tree (written_paths (marks_of t)) (kept_of m) =
        λ i. record { reply = Ok ok_payload; store = same.store i; sends = same.sends i }
        in
        made ∙ turned ∙ ap (λ end. kept_change (Ok ok_payload) end (written_paths (marks_of t)) (kept_of m)) (sym (laws.commit m.tree t is.tree o free))

    finish_by : (b : Bool) → is_in_conflict t ≡ b → done_kept (cond b (refused Eagain m) (committed m t (run_on m.tree t)))
        ≡ cond b (kept_refused Eagain (kept_of m)) (kept_change (Ok ok_payload) (marks_committed m.tree (marks_of t)) (written_paths (marks_of t)) (kept_of m))
    finish_by true e = refl
    finish_by false e = commit_kept e

    finish_kept : (commit : Bool) → done_kept (finish commit m t) ≡ kept_finish commit (kept_of m) (kept_transaction t)
    finish_kept false = refl
    finish_kept true =
        finish_by (is_in_conflict t) refl
        ∙ ap (λ b. cond b (kept_refused Eagain (kept_of m)) (kept_change (Ok ok_payload) (marks_committed m.tree (marks_of t)) (written_paths (marks_of t)) (kept_of m))) (sym (laws.conflict t))

  -- THE REQUESTS
  module _ (m : Machine) (is : IsFollowed m) (ids : HasIds m.conns) (c : ℕ) (conn : Connection) (found : find nat_cmp c m.conns ≡ Some conn) where
    abbrev bare_conn : Connection
    bare_conn = without_transactions conn

    outside_kept : (outcome : Outcome) → done_kept (done_command m outcome) ≡ kept_outside (kept_of m) outcome
    outside_kept outcome = λ i. record {
      reply = outcome.reply;
      store = change_kept laws m is outcome.tree outcome.written i;
      sends = sym (bare_sends m.tree outcome.tree outcome.written m.conns) i;
    }

    -- the transaction of a number
    found_kept : (id : ℕ) → find nat_cmp id (opens_of c (kept_of m).opens) ≡ option_map kept_transaction (find nat_cmp id conn.transactions)
    found_kept id = ap (find nat_cmp id) (opens_there m ids c conn found) ∙ found_map nat_cmp kept_transaction id conn.transactions

    put_kept : (id : ℕ) (t : Transaction) → kept_of (with_conn c (with_transaction id t conn) m) ≡ with_opens c (put nat_cmp id (kept_transaction t) (opens_in conn)) (kept_of m)
    put_kept id t = kept_with m ids c conn found (with_transaction id t conn) refl ∙ ap (λ ts. with_opens c ts (kept_of m)) (sym (put_values nat_cmp kept_transaction id t conn.transactions))

    there : (id : ℕ) (t : Transaction) → find nat_cmp id conn.transactions ≡ Some t → IsOpenOver m.tree t
    there id t e = all_found nat_cmp (IsOpenOver m.tree) id conn.transactions t (conn_there m is c conn found) e

    inside_kept : (id : ℕ) (operation : Operation) (path : Path) (o : Option Transaction) → find nat_cmp id conn.transactions ≡ o
        → done_kept (command_inside m c conn id operation path o) ≡ kept_inside (kept_of m) c bare_conn id operation path (option_map kept_transaction o)
    inside_kept id operation path None e = refl
    inside_kept id operation path (Some t) e =
        let ran : Ran = ran_by conn operation path (count t) in
        let seen : overlay m.tree (marks_of t) ≡ after t = laws.seen m.tree t is.tree (there id t e) in
        λ i. record {
          reply = (outcome_on (sym seen i) ran).reply;
          store = (put_kept id (with_command ran t) ∙ (λ j. with_opens c (put nat_cmp id (ran_kept m.tree t ran seen j) (sym (opens_there m ids c conn found) j)) (kept_of m))) i;
          sends = [];
        }

    pub command_kept : (tx : ℕ) (operation : Operation) (path : Path) → done_kept (run_command m c conn tx operation path) ≡ kept_command (kept_of m) c bare_conn tx operation path
    command_kept tx operation path =
        let outcome : Outcome = outcome_on m.tree (ran_by conn operation path (generation_of m.gens path)) in
        if_kept (tx == 0) (done_command m outcome) (command_inside m c conn tx operation path (find nat_cmp tx conn.transactions))
        (kept_outside (kept_of m) outcome) (kept_inside (kept_of m) c bare_conn tx operation path (find nat_cmp tx (opens_of c (kept_of m).opens)))
        (outside_kept outcome)
        (inside_kept tx operation path (find nat_cmp tx conn.transactions) refl ∙ ap (kept_inside (kept_of m) c bare_conn tx operation path) (sym (found_kept tx)))

    -- what START makes
    made_kept : (id : ℕ) → done_kept (replied (string (decimal id)) (with_conn c (with_transaction id (started m.tree) conn) m))
        ≡ kept_replied (string (decimal id)) (with_opens c (put nat_cmp id no_marks (opens_in conn)) (kept_of m))
    made_kept id = λ i. record {
      reply = Ok (string (decimal id));
      store = (put_kept id (started m.tree) ∙ (λ j. with_opens c (put nat_cmp id (record { marks = laws.start m.tree j; count = 0 }) (opens_in conn)) (kept_of m))) i;
      sends = [];
    }

    start_kept : (tx : ℕ) → done_kept (start m c conn tx) ≡ kept_start (kept_of m) c bare_conn tx (opens_in conn)
    start_kept tx =
        let id : ℕ = least_free conn.transactions in
        let new : ℕ = least_free (opens_in conn) in
        let made : Done = replied (string (decimal id)) (with_conn c (with_transaction id (started m.tree) conn) m) in
        let kept : ℕ → KeptDone = λ j. kept_replied (string (decimal j)) (with_opens c (put nat_cmp j no_marks (opens_in conn)) (kept_of m)) in
        let full : ℕ → Bool = λ n. nat_le (transaction_limit conn.spec) n in
        if_kept (not (tx == 0)) (refused Ebusy m) (cond (full (length conn.transactions)) (refused Enospc m) made)
        (kept_refused Ebusy (kept_of m)) (cond (full (length (opens_in conn))) (kept_refused Enospc (kept_of m)) (kept new))
        refl
        (if_kept (full (length conn.transactions)) (refused Enospc m) made (kept_refused Enospc (kept_of m)) (kept new) refl (made_kept id ∙ ap kept (sym (free_values kept_transaction 1 conn.transactions)))
        ∙ ap (λ n. cond (full n) (kept_refused Enospc (kept_of m)) (kept new)) (sym (length_map (λ (e : ℕ × Transaction). (e.0, kept_transaction e.1)) conn.transactions)))

    pub started_kept : (tx : ℕ) → done_kept (start m c conn tx) ≡ kept_start (kept_of m) c bare_conn tx (opens_of c (kept_of m).opens)
    started_kept tx = start_kept tx ∙ ap (kept_start (kept_of m) c bare_conn tx) (sym (opens_there m ids c conn found))

    close_by : (commit : Bool) (id : ℕ) (o : Option Transaction) → find nat_cmp id conn.transactions ≡ o
        → done_kept (close commit m c conn id o) ≡ kept_close commit (kept_of m) c id (opens_in conn) (option_map kept_transaction o)
    close_by commit id None e = refl
    close_by commit id (Some t) e =
        let closed : Machine = with_conn c (without_transaction id conn) m in
        let follows : IsFollowed closed =
        with_conn_keeps m is c (without_transaction id conn) (all_where nat_cmp (IsOpenOver m.tree) (λ i. not (id == i)) conn.transactions (conn_there m is c conn found))
        in
        let closed_ids : HasIds closed.conns = put_ids m ids c (without_transaction id conn) (keys_found nat_cmp (λ i. 1 ≤ i) nat_cmp-IsAntisymmetric c m.conns conn ids.positive found) in
        finish_kept closed follows closed_ids t (there id t e) commit
        ∙ ap (λ k. kept_finish commit k (kept_transaction t)) (
        kept_with m ids c conn found (without_transaction id conn) refl
        ∙ ap (λ ts. with_opens c ts (kept_of m)) (sym (where_values nat_cmp kept_transaction (λ i. not (id == i)) conn.transactions)))

    pub close_kept : (commit : Bool) (id : ℕ)
        → done_kept (close commit m c conn id (find nat_cmp id conn.transactions)) ≡ kept_close commit (kept_of m) c id (opens_of c (kept_of m).opens) (find nat_cmp id (opens_of c (kept_of m).opens))
    close_kept commit id =
        close_by commit id (find nat_cmp id conn.transactions) refl
        ∙ (λ i. kept_close commit (kept_of m) c id (sym (opens_there m ids c conn found) i) (sym (found_kept id) i))
