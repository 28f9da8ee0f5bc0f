-- Each step of the sequential store is a step of the store that is kept, and each step of that one leaves a store of the
-- kind.
use Rattle.std.specs.Prelude.{◌≡◌, ℕ, ◌==◌, not, List, [], Option, Some, None, Result, Ok, Err}
use Rattle.std.specs.Option.{option_map}
use Rattle.std.specs.Ordering.{nat_cmp}
use Rattle.std.specs.FinMap.{find}
use Rattle.std.proofs.Common.{sym, refl, ap, subst, ◌∙◌}
use Rattle.xs_model.specs.declared.message.WireErr.{WireErr}
use Rattle.xs_model.specs.Messages.{header_of, payload_of}
use Rattle.xs_model.specs.Requests.{Request, Command, Watch as WatchRequest, Unwatch, Start, End, Introduce, Release, DomainPath, IsIntroduced, SetTarget, ResetWatches, request_of}
use Rattle.xs_model.proofs.Maps.{found_map}
use Rattle.machine_model.specs.Connections.{Connection, caller_of}
use Rattle.machine_model.specs.Machine.{Machine, Item, Asked, Lost, Send, Step, act, act_or_refuse, step_of_conn, step_with}
use Rattle.machine_model.specs.Serial.{IsFollowed}
use Rattle.machine_model.specs.Limits.{HasIds}
use Rattle.machine_model.proofs.KeepLemmas.{step_keeps}
use Rattle.machine_model.proofs.IdLemmas.{step_ids}
use Rattle.mark_model.specs.Stores.{KeptStore, IsKeptStore, opens_in, without_transactions, kept_of, begun_machine, kept_act, kept_act_or_refuse, kept_answered, kept_step_of, kept_step}
use Rattle.mark_model.specs.Laws.{IsKeptStep, IsBegun}
use Rattle.mark_model.proofs.MarkLaws.{MarkLaws}
use Rattle.mark_model.proofs.StoreMaps.{where_values}
use Rattle.mark_model.proofs.StoreKeepers.{followed_kept, begun_followed, begun_kept}
use Rattle.mark_model.proofs.StoreRequests.{done_kept, command_kept, started_kept, close_kept}
use Rattle.mark_model.proofs.StoreBesides.{beside_kept, add_beside, remove_beside, reset_kept, introduced, released, targeted, told_path, told_ring}

abbrev step_kept : Step → KeptStore × List Send
step_kept stepped = (kept_of stepped.0, stepped.1)

module _ (laws : MarkLaws) where
  module _ (m : Machine) (is : IsFollowed m) (ids : HasIds m.conns) where
    module _ (c : ℕ) (conn : Connection) (found : find nat_cmp c m.conns ≡ Some conn) where
      act_kept : (tx : ℕ) (request : Request) → done_kept (act m c conn tx request) ≡ kept_act (kept_of m) c (without_transactions conn) tx request
      act_kept tx (Command operation path) = command_kept laws m is ids c conn found tx operation path
      act_kept tx (WatchRequest wpath token) = beside_kept m _ _ (add_beside m ids c conn found (record { wpath = wpath; token = token }))
      act_kept tx (Unwatch wpath token) = beside_kept m _ _ (remove_beside m ids c conn found (record { wpath = wpath; token = token }))
      act_kept tx Start = started_kept laws m is ids c conn found tx
      act_kept tx (End commit) = close_kept laws m is ids c conn found commit tx
      act_kept tx (Introduce domid evtchn) = beside_kept m _ _ (introduced m ids conn domid evtchn)
      act_kept tx (Release domid) = beside_kept m _ _ (released m ids conn domid)
      act_kept tx (DomainPath domid) = beside_kept m _ _ (told_path m ids domid)
      act_kept tx (IsIntroduced domid) = beside_kept m _ _ (told_ring m ids domid)
      act_kept tx (SetTarget domid target) = beside_kept m _ _ (targeted m ids conn domid target)
      act_kept tx ResetWatches = reset_kept m ids c conn found

      asked_kept : (tx : ℕ) (request : Result Request WireErr) → done_kept (act_or_refuse m c conn tx request) ≡ kept_act_or_refuse (kept_of m) c (without_transactions conn) tx request
      asked_kept tx (Err error) = refl
      asked_kept tx (Ok request) = act_kept tx request

    step_by : (served : List ℕ) (c : ℕ) (bytes : List ℕ) (o : Option Connection) → find nat_cmp c m.conns ≡ o
        → step_kept (step_of_conn served m c bytes o) ≡ kept_step_of served (kept_of m) c bytes (option_map without_transactions o)
    step_by served c bytes None e = refl
    step_by served c bytes (Some conn) e =
        let head = header_of bytes in
        ap (kept_answered c head) (asked_kept c conn e head.tx_id (request_of served head.kind (payload_of bytes) (caller_of conn.spec).domid))

    stepped_kept : (served : List ℕ) (item : Item) → step_kept (step_with served m item) ≡ kept_step served (kept_of m) item
    stepped_kept served (Asked c bytes) =
        step_by served c bytes (find nat_cmp c m.conns) refl ∙ ap (kept_step_of served (kept_of m) c bytes) (sym (found_map nat_cmp without_transactions c m.conns))
    stepped_kept served (Lost c) = λ i. (
      record {
        machine = record { tree = m.tree; gens = m.gens; conns = sym (where_values nat_cmp without_transactions (λ d. not (c == d)) m.conns) i };
        opens = sym (where_values nat_cmp opens_in (λ d. not (c == d)) m.conns) i;
      },
      [],
    )

  pub steps_kept : (served : List ℕ) (m : Machine) (item : Item) → IsFollowed m → HasIds m.conns → IsKeptStep served m item
  steps_kept served m item is ids = let same = stepped_kept m is ids served item in record { store = λ i. (same i).0; sends = λ i. (same i).1 }

  pub steps_keep_stores : (served : List ℕ) (k : KeptStore) (item : Item) → IsKeptStore k → IsKeptStore (kept_step served k item).0
  steps_keep_stores served k item is =
      let m : Machine = begun_machine k in
      let begun : IsBegun m = begun_followed laws k is in
      subst (λ j. IsKeptStore (kept_step served j item).0) (begun_kept laws k is)
      (subst IsKeptStore (steps_kept served m item begun.followed begun.ids).store
      (followed_kept laws (step_with served m item).0 (step_keeps m begun.followed served item) (step_ids m begun.ids served item)))
