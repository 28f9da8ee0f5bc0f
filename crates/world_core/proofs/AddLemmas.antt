-- A domain that is added: it has a page, and a connection if it had none.
use Rattle.std.proofs.Common.{◌≡◌, ℕ, true, [], Option, Some, None, is_some, sym, ap, subst, ◌∙◌}
use Rattle.std.specs.Ordering.{nat_cmp}
use Rattle.std.specs.FinMap.{find, put}
use Rattle.std.proofs.lemmas.Cmp.{nat_cmp_total}
use Rattle.xs_model.proofs.Maps.{sorted_put}
use Rattle.machine_model.specs.declared.ConnSpec.TheVariants.{Ring}
use Rattle.machine_model.specs.Connections.{fresh, ring_of, least_free}
use Rattle.machine_model.specs.Machine.{with_conn}
use Rattle.conn_table.specs.Tables.{ring_id}
use Rattle.world_model.specs.Worlds.{World, fresh_guest, empty_channel, with_start, domain_added}
use Rattle.world_laws.proofs.EntryLemmas.{value_of}
use Rattle.daemon.specs.Submits.{Adds}
use Rattle.conn_rows.proofs.IdEntries.{put_map}
use Rattle.world_core.specs.Stands.{Kept, StandsFor, AddsDomain}
use Rattle.world_core.specs.Seats.{IsSeated}
use Rattle.world_core.proofs.SpecLemmas.{ring_as, free_as}
use Rattle.world_core.proofs.RingLemmas.{rings_more}
use Rattle.world_core.proofs.StandLemmas.{inbox, unsent, rest_in, guest_changed, in_order, rings_differ}

module _ (old new : Kept) (d start : ℕ) where
  ring_is : (w : World) → StandsFor old w → (o : Option ℕ) → ring_id d old.daemon.specs ≡ o → ring_of d w.machine.conns ≡ o
  ring_is w stands o is = ring_as old.daemon w.machine stands.store d ∙ is

  -- that was connected
  pub adds_page : is_some (ring_id d old.daemon.specs) ≡ true → new.daemon ≡ old.daemon → new.inboxes ≡ old.inboxes → new.guests ≡ put nat_cmp d (fresh_guest start) old.guests → new.rings ≡ old.rings → AddsDomain old d start new
  adds_page some same_daemon same_inboxes guests same_rings = record {
    stands = λ w stands.
        let ring = value_of (ring_id d old.daemon.specs) some in
        subst (λ o. StandsFor new (domain_added d start o w)) (sym (ring_is w stands (Some ring.0) ring.1))
        (guest_changed old new w d (fresh_guest start) stands same_daemon same_inboxes guests same_rings);
  }

  -- that was not
  pub adds_connection : (c : ℕ) → ring_id d old.daemon.specs ≡ None → c ≡ least_free old.daemon.specs → Adds old.daemon c (Ring d None 0) new.daemon
      → IsSeated d c (fresh_guest start) (record { inboxes = old.inboxes; guests = old.guests; rings = old.rings }) (record { inboxes = new.inboxes; guests = new.guests; rings = new.rings }) → AddsDomain old d start new
  adds_connection c none least adds seated = record {
    stands = λ w stands.
        let ring = ring_is w stands None none in
        let store = stands.store in
        let id : c ≡ least_free w.machine.conns =
        least ∙ sym (free_as old.daemon w.machine store) in
        let world = λ (k : ℕ). with_start d start (record { machine = with_conn k (fresh (Ring d None 0)) w.machine; globals = w.globals; guests = w.guests; channels = put nat_cmp k empty_channel w.channels }) in
        let there : StandsFor new (world c) = record {
          store = adds.stands w.machine store;
          globals = stands.globals ∙ sym adds.globals;
          guests = ap (put nat_cmp d (fresh_guest start)) stands.guests ∙ sym seated.guests;
          inboxes = put_map inbox c empty_channel w.channels ∙ ap (put nat_cmp c []) stands.inboxes ∙ sym seated.inboxes;
          unsent = put_map unsent c empty_channel w.channels ∙ ap (put nat_cmp c []) stands.unsent ∙ sym adds.unsent;
          rests = put_map rest_in c empty_channel w.channels ∙ ap (put nat_cmp c 0) stands.rests ∙ sym adds.rests;
          order = sorted_put nat_cmp nat_cmp_total c empty_channel w.channels stands.order;
          rings = subst (λ rings. (e b : ℕ) → ring_of e (put nat_cmp c (fresh (Ring d None 0)) w.machine.conns) ≡ Some b → find nat_cmp e rings ≡ Some b) (sym seated.rings)
              (rings_more w.machine.conns (in_order old.daemon w.machine store) (rings_differ old.daemon w.machine store) c d 0 ring old.rings stands.rings);
        } in
        subst (λ o. StandsFor new (domain_added d start o w)) (sym ring) (subst (λ k. StandsFor new (world k)) id there);
  }
