-- The record of the whole store, and those of connections.
use Rattle.std.specs.Prelude.{◌≡◌, ℕ, ◌≤◌, ◌==◌, false, not, ◌||◌, length, nat_lt, Some, None, is_some, Ok}
use Rattle.std.specs.List.{list_any}
use Rattle.std.specs.Ordering.{nat_cmp}
use Rattle.std.specs.Cmp.{nat_cmp_total}
use Rattle.std.specs.FinMap.{find, nat_cmp-IsAntisymmetric}
use Rattle.std.proofs.Common.{sym, refl, subst, ltb-false}
use Rattle.std.proofs.lemmas.Bool.{or_parts}
use Rattle.xs_model.specs.Paths.{Path}
use Rattle.xs_model.specs.Wholes.{whole_behind}
use Rattle.xs_model.proofs.Maps.{sorted_put}
use Rattle.machine_model.specs.declared.ConnSpec.{ConnSpec}
use Rattle.machine_model.specs.declared.bounds.TheConstants.{CROWD_LIMIT}
use Rattle.machine_model.specs.Connections.{is_ring_of}
use Rattle.stream_model.specs.Record.{GlobalData, ConnectionData, global_data, connection_data}
use Rattle.kept_model.specs.declared.fault.LoadFault.TheVariants.{BadSpec, BadOut, Repeated}
use Rattle.kept_model.specs.States.{ConnectionOf}
use Rattle.kept_model.specs.Said.{Said}
use Rattle.kept_model.specs.Loading.{Loading, conns_in, with_connection, load_globals, spec_of, is_end_of, is_one_too_many, connection_by, load_connection}
use Rattle.kept_model.specs.Sound.{is_socket}
use Rattle.kept_model.proofs.LoadTests.{ok_is, unless_ok, given_ok}
use Rattle.kept_model.proofs.LoadMaps.{pairs_put}
use Rattle.kept_model.proofs.LoadFits.{Told}
use Rattle.kept_model.proofs.LoadParts.{spec_fits}
use Rattle.kept_model.proofs.LoadEnds.{ends_more, ring_more, socket_more, positive, none_found, either_not}
use Rattle.kept_model.proofs.LoadGood.{ConnectionGood, StateGood, Leads, leads_to}

module _ (Fine : ℕ → ℕ → Path → Type 0) where
  -- GLOBAL_DATA
  pub globals_step : (n : ℕ) (l : Loading) (d : GlobalData) (next : Loading) → Told (global_data d) → load_globals n l d ≡ Ok next → Leads Fine l next
  globals_step n l d next told e =
      leads_to Fine l _ next (ok_is (unless_ok l.has_globals (Repeated n) _ next e).1) (λ fine. record {
        pending = fine;
        state = λ g. record {
          tree = g.tree;
          nodes = g.nodes;
          numbers = g.numbers;
          globals = record { rw_socket_fd = told.numbers.0; evtchn_fd = told.numbers.1 };
          rising = g.rising;
          conns = g.conns;
          rings = g.rings;
          sockets = g.sockets;
        };
      })

  -- CONNECTION_DATA
  connection_good : (d : ConnectionData) (spec : ConnSpec) → Told (connection_data d) → (d.conn == 0) ≡ false → spec_of d.kind d.spec ≡ Some spec → nat_lt 16777216 (length d.inbox) ≡ false
      → (nat_lt CROWD_LIMIT (length d.unsent) || not (whole_behind d.rest d.unsent)) ≡ false → ConnectionGood Fine d.conn (connection_by spec d)
  connection_good d spec told some end few out =
      let parts = either_not (nat_lt CROWD_LIMIT (length d.unsent)) (whole_behind d.rest d.unsent) out in
      record {
        positive = positive d.conn some;
        small = told.numbers.0;
        end = spec_fits d.kind d.spec spec told.end end;
        watches = tt;
        inbox = ltb-false 16777216 (length d.inbox) few;
        unsent = ltb-false CROWD_LIMIT (length d.unsent) parts.0;
        whole = parts.1;
        rising = refl;
        opens = tt;
      }

  connection_made : (l : Loading) (c : ℕ) (new : ConnectionOf Said) → find nat_cmp c (conns_in l) ≡ None → list_any (λ e. is_end_of new.spec e.1.spec) (conns_in l) ≡ false → is_one_too_many new.spec (conns_in l) ≡ false
      → StateGood Fine l.state → ConnectionGood Fine c new → StateGood Fine (with_connection c new l).state
  connection_made l c new free none few g h = record {
    tree = g.tree;
    nodes = g.nodes;
    numbers = g.numbers;
    globals = g.globals;
    rising = sorted_put nat_cmp nat_cmp_total c new (conns_in l) g.rising;
    conns = pairs_put nat_cmp nat_cmp-IsAntisymmetric (ConnectionGood Fine) c new (conns_in l) h g.conns;
    rings = λ d. subst (λ k. k ≤ 1) (sym (ends_more c (conns_in l) (is_ring_of d) new free)) (ring_more new.spec (conns_in l) none g.rings d);
    sockets = subst (λ k. k ≤ 65536) (sym (ends_more c (conns_in l) is_socket new free)) (socket_more new.spec (conns_in l) few g.sockets);
  }

  pub connection_step : (n : ℕ) (l : Loading) (d : ConnectionData) (next : Loading) → Told (connection_data d) → load_connection n l d ≡ Ok next → Leads Fine l next
  connection_step n l d next told e =
      let id = unless_ok (d.conn == 0) (BadSpec n) _ next e in
      let end = given_ok (spec_of d.kind d.spec) (BadSpec n) _ next id.1 in
      let spec : ConnSpec = end.0 in
      let sockets = unless_ok (is_one_too_many spec (conns_in l)) (BadSpec n) _ next end.2 in
      let inbox = unless_ok (nat_lt 16777216 (length d.inbox)) (BadSpec n) _ next sockets.1 in
      let out = unless_ok (nat_lt CROWD_LIMIT (length d.unsent) || not (whole_behind d.rest d.unsent)) (BadOut n) _ next inbox.1 in
      let new = unless_ok (is_some (find nat_cmp d.conn (conns_in l)) || list_any (λ e. is_end_of spec e.1.spec) (conns_in l)) (Repeated n) _ next out.1 in
      let parts = or_parts (is_some (find nat_cmp d.conn (conns_in l))) (list_any (λ e. is_end_of spec e.1.spec) (conns_in l)) new.0 in
      leads_to Fine l (with_connection d.conn (connection_by spec d) l) next (ok_is new.1) (λ fine. record {
        pending = fine;
        state = λ g. connection_made l d.conn (connection_by spec d) (none_found (find nat_cmp d.conn (conns_in l)) parts.0) parts.1 sockets.0 g (connection_good d spec told id.0 end.1 inbox.0 out.0);
      })
