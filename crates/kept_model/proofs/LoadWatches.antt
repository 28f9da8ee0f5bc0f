-- The records of watches and transactions.
use Rattle.std.specs.Prelude.{◌≡◌, ℕ, ◌==◌, true, false, not, List, is_some, Ok}
use Rattle.std.specs.List.{list_any}
use Rattle.std.specs.Ordering.{nat_cmp}
use Rattle.std.specs.FinMap.{find, put}
use Rattle.std.proofs.Common.{refl}
use Rattle.std.proofs.lemmas.Bool.{not-false}
use Rattle.xs_model.specs.Paths.{Path}
use Rattle.xs_model.specs.Requests.{one_string, is_token, is_watch_path}
use Rattle.xs_model.specs.Watches.{Watch, same_watch}
use Rattle.machine_model.specs.Connections.{caller_of}
use Rattle.stream_model.specs.Record.{WatchData, TransactionData, transaction_data}
use Rattle.kept_model.specs.declared.fault.LoadFault.TheVariants.{BadSpec, BadText, BadPath, Repeated, UnknownConn}
use Rattle.kept_model.specs.States.{TransactionOf, ConnectionOf}
use Rattle.kept_model.specs.Said.{Said}
use Rattle.kept_model.specs.Loading.{Loading, conns_in, with_connection, with_opens, with_watch, load_watch, transaction_by, load_transaction}
use Rattle.kept_model.proofs.LoadTests.{ok_is, unless_ok, given_ok}
use Rattle.kept_model.proofs.LoadFits.{Told}
use Rattle.kept_model.proofs.LoadParts.{watches_push}
use Rattle.kept_model.specs.Sound.{has_nul}
use Rattle.kept_model.proofs.StepRequests.{one_is_text}
use Rattle.kept_model.proofs.LoadEnds.{positive}
use Rattle.kept_model.proofs.LoadGood.{TransactionGood, ConnectionGood, Leads, leads_to, connection_there, connection_kept, opens_good}

module _ (Fine : ℕ → ℕ → Path → Type 0) where
  -- WATCH_DATA
  watch_good : (c : ℕ) (conn : ConnectionOf Said) (w : Watch) → ConnectionGood Fine c conn → is_watch_path w.wpath (caller_of conn.spec).domid ≡ true → is_token w.token ≡ true → has_nul w.token ≡ false → list_any (same_watch w) conn.watches ≡ false → ConnectionGood Fine c (with_watch w conn)
  watch_good c conn w h path token plain others = record {
    positive = h.positive;
    small = h.small;
    end = h.end;
    watches = watches_push (caller_of conn.spec).domid conn.watches w h.watches path token plain others;
    inbox = h.inbox;
    unsent = h.unsent;
    whole = h.whole;
    rising = h.rising;
    opens = h.opens;
  }

  pub watch_step : (n : ℕ) (l : Loading) (d : WatchData) (next : Loading) → load_watch n l d ≡ Ok next → Leads Fine l next
  watch_step n l d next e =
      let there = given_ok (find nat_cmp d.conn (conns_in l)) (UnknownConn n) _ next e in
      let conn : ConnectionOf Said = there.0 in
      let path = given_ok (one_string d.wpath) (BadText n) _ next there.2 in
      let token = given_ok (one_string d.token) (BadText n) _ next path.2 in
      let w : Watch = record { wpath = path.0; token = token.0 } in
      let short = unless_ok (not (is_token token.0)) (BadText n) _ next token.2 in
      let may = unless_ok (not (is_watch_path path.0 (caller_of conn.spec).domid)) (BadPath n) _ next short.1 in
      let new = unless_ok (list_any (same_watch w) conn.watches) (Repeated n) _ next may.1 in
      leads_to Fine l (with_connection d.conn (with_watch w conn) l) next (ok_is new.1) (λ fine. record {
        pending = fine;
        state = λ g. connection_kept Fine l d.conn conn (with_watch w conn) there.1 refl g
            (watch_good d.conn conn w (connection_there Fine l d.conn conn g there.1) (not-false (is_watch_path path.0 (caller_of conn.spec).domid) may.0) (not-false (is_token token.0) short.0) ((one_is_text d.token).holds token.0 token.1) new.0);
      })

  -- TRANSACTION_DATA, and what comes of an open one
  pub transaction_step : (n : ℕ) (l : Loading) (d : TransactionData) (next : Loading) → Told (transaction_data d) → load_transaction n l d ≡ Ok next → Leads Fine l next
  transaction_step n l d next told e =
      let there = given_ok (find nat_cmp d.conn (conns_in l)) (UnknownConn n) _ next e in
      let conn : ConnectionOf Said = there.0 in
      let id = unless_ok (d.tx == 0) (BadSpec n) _ next there.2 in
      let new = unless_ok (is_some (find nat_cmp d.tx conn.opens)) (Repeated n) _ next id.1 in
      let opens : List (ℕ × TransactionOf Said) = put nat_cmp d.tx (transaction_by d) conn.opens in
      let good : TransactionGood Fine d.conn d.tx (transaction_by d) = record { positive = positive d.tx id.0; small = told.numbers.1; count = told.numbers.2; rising = refl; marks = tt } in
      leads_to Fine l (with_connection d.conn (with_opens opens conn) l) next (ok_is new.1) (λ fine. record {
        pending = fine;
        state = λ g. connection_kept Fine l d.conn conn (with_opens opens conn) there.1 refl g (opens_good Fine d.conn d.tx conn (transaction_by d) (connection_there Fine l d.conn conn g there.1) good);
      })
