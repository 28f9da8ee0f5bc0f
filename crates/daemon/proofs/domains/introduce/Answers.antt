use Rattle.std.proofs.Common.{◌≡◌, ◌==◌, [], Some, None, Ok, Err, refl, sym, ap, ◌∙◌}
use Rattle.std.specs.Ordering.{nat_cmp}
use Rattle.std.specs.FinMap.{put}
use Rattle.xs_model.specs.declared.message.WireErr.TheVariants.{Eacces}
use Rattle.machine_model.specs.declared.ConnSpec.{ConnSpec}
use Rattle.machine_model.specs.declared.ConnSpec.TheVariants.{Ring}
use Rattle.machine_model.specs.Connections.{ring_of, least_free}
use Rattle.machine_model.specs.Machine.{Done, introduce, if_control}
use Rattle.conn_table.specs.Tables.{Specs, ring_id}
use Rattle.watchers.specs.Watched.{conns_of}
use Rattle.daemon.specs.declared.answer.Door.TheVariants.{Opened}
use Rattle.daemon.specs.declared.reply.Answer.{Answer}
use Rattle.daemon.specs.Keeps.{machine_of}
use Rattle.daemon.specs.Peers.{conn_in}
use Rattle.conn_rows.specs.Rows.{opens_in, opens_of}
use Rattle.conn_rows.proofs.IdEntries.{put_map}
use Rattle.daemon.proofs.ActLemmas.{did_same, same_equal}
use Rattle.daemon.proofs.DomainLemmas.{guest_asks, control_asks, HasRing, found_ring, introduced_there, did_set, opened_by, opening_crowds, did_open}
use Rattle.daemon.proofs.domains.introduce.Goals as goal

pub returns-then-domid-ne0-clause-ok : goal.returns-then-domid-ne0-clause-ok
returns-then-domid-ne0-clause-ok c = λ tree gens tx.
    let peers = c.args.peers.now in
    let done : Done = introduce (machine_of tree gens peers.specs peers.watched) c.args.domid c.args.evtchn (ring_of c.args.domid (conns_of peers.specs peers.watched)) in
    did_same c.args.asker.conn peers c.requires.sound c.requires.may _ (Err Eacces) tt c.refused.result c.refused.ensures.reply c.refused.ensures.owed tree gens
    (guest_asks (conn_in peers c.args.asker.conn c.args.asker.spec) (machine_of tree gens peers.specs peers.watched) done c.domid.result c.domid.ensures c.if-domid-ne0.true) c.refused.ensures.door

pub returns-in-Some-clause-ok : goal.returns-in-Some-clause-ok
returns-in-Some-clause-ok c = λ tree gens tx.
    let peers = c.args.peers.now in
    let done : Done = introduce (machine_of tree gens peers.specs peers.watched) c.args.domid c.args.evtchn (ring_of c.args.domid (conns_of peers.specs peers.watched)) in
    let conn = c.in-Some.conn in
    let ring : HasRing c.args.domid conn peers.specs = found_ring c.args.domid conn peers.specs c.conns.result.now c.conns.ensures ((c.in-Some.ensures.only conn).0 refl) in
    let found : ring_id c.args.domid peers.specs ≡ Some conn = ap (λ (es : Specs). ring_id c.args.domid es) (sym c.conns.ensures) ∙ sym c.in-Some.ensures.ring in
    did_set c.args.asker.conn tree gens peers c.requires.sound c.requires.may _ c.of.result (c.of.ensures.reply ∙ ap Ok c.in_ok-done.ensures) c.set_evtchn.new.self (c.set_evtchn.ensures.sound c.requires.sound) _ c.of.ensures.owed
    (c.set_evtchn.ensures.specs (Ring c.args.domid ring.target ring.evtchn) ring.there) c.set_evtchn.ensures.watched c.set_evtchn.ensures.queues c.set_evtchn.ensures.txns
    (control_asks (conn_in peers c.args.asker.conn c.args.asker.spec) (machine_of tree gens peers.specs peers.watched) done c.domid.result c.domid.ensures c.if-domid-ne0.false
    ∙ introduced_there tree gens peers.specs peers.watched c.args.domid c.args.evtchn conn ring found)
    c.of.ensures.door

pub returns-in-Some-crowding-clause-ok : goal.returns-in-Some-crowding-clause-ok
returns-in-Some-crowding-clause-ok c = λ tree gens tx.
    let peers = c.args.peers.now in
    let conn = c.args.asker.conn in
    let spec = c.args.asker.spec in
    let domid = c.args.domid in
    let sound = c.requires.sound in
    let there = c.requires.there in
    let owed = c.in_ok-owed.owed in
    let none : ring_id domid peers.specs ≡ None = ap (λ (es : Specs). ring_id domid es) (sym c.conns.ensures) ∙ sym c.in_default.ensures.ring in
    let done : Done = if_control (conn_in peers conn spec) (machine_of tree gens peers.specs peers.watched) (introduce (machine_of tree gens peers.specs peers.watched) domid c.args.evtchn (ring_of domid (conns_of peers.specs peers.watched))) in
    let acted = opened_by conn tree gens peers sound spec there domid c.args.evtchn none done owed c.in_ok-owed.ensures refl c.domid.result c.domid.ensures c.if-domid-ne0.false in
    opening_crowds conn tree gens peers sound spec there domid c.args.evtchn none done owed c.in_ok-owed.ensures acted c.in-Some-crowding.conn peers (sym c.in-Some-crowding.ensures) (same_equal peers peers refl)

pub returns-clause-ok : goal.returns-clause-ok
returns-clause-ok c = λ tree gens tx.
    let peers = c.args.peers.now in
    let conn = c.args.asker.conn in
    let spec = c.args.asker.spec in
    let domid = c.args.domid in
    let sound = c.requires.sound in
    let there = c.requires.there in
    let owed = c.in_ok-owed.owed in
    let mid = c.reserve_all.new.self in
    let new = c.open.new.self in
    let ring : ConnSpec = Ring domid None c.args.evtchn in
    let none : ring_id domid peers.specs ≡ None = ap (λ (es : Specs). ring_id domid es) (sym c.conns.ensures) ∙ sym c.in_default.ensures.ring in
    let done : Done = if_control (conn_in peers conn spec) (machine_of tree gens peers.specs peers.watched) (introduce (machine_of tree gens peers.specs peers.watched) domid c.args.evtchn (ring_of domid (conns_of peers.specs peers.watched))) in
    let acted = opened_by conn tree gens peers sound spec there domid c.args.evtchn none done owed c.in_ok-owed.ensures refl c.domid.result c.domid.ensures c.if-domid-ne0.false in
    let same = c.reserve_all.ensures.specs in
    let answer : Answer = record { reply = Ok c.in_ok-done.done; door = Opened domid; owed = owed } in
    did_open conn tree gens peers sound spec there domid c.args.evtchn none done owed c.in_ok-owed.ensures acted answer (ap Ok c.in_ok-done.ensures) refl refl mid new (c.in_ok-open.ensures.sound c.requires.bound)
    c.in_ok-reserve_all.ensures.ok (sym c.in_default-crowding.ensures)
    (c.in_ok-open.ensures.specs ∙ ap (λ (ss : Specs). put nat_cmp (least_free ss) ring ss) same)
    (c.open.ensures.watched ∙ c.reserve_all.ensures.watched)
    (c.in_ok-open.ensures.bytes ∙ (λ i. put nat_cmp (least_free (same i)) [] (c.reserve_all.ensures.bytes i)))
    (c.in_ok-open.ensures.rests ∙ (λ i. put nat_cmp (least_free (same i)) 0 (c.reserve_all.ensures.rests i)))
    (λ other apart. c.in_ok-open.ensures.others other (ap (λ (ss : Specs). other == least_free ss) same ∙ apart))
    (ap (λ rows. opens_of rows) c.in_ok-open.ensures.txns ∙ put_map opens_in (least_free mid.specs) [] mid.txns ∙ (λ i. put nat_cmp (least_free (same i)) [] (opens_of (c.reserve_all.ensures.txns i))))
