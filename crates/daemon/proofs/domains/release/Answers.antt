use Rattle.std.proofs.Common.{◌≡◌, ◌==◌, not, Some, None, Ok, Err, refl, sym, ap, ◌∙◌}
use Rattle.std.specs.Ordering.{nat_cmp}
use Rattle.std.specs.FinMap.Entries.{where_key}
use Rattle.xs_model.specs.declared.message.WireErr.TheVariants.{Eacces, Enoent}
use Rattle.machine_model.specs.Connections.{ring_of}
use Rattle.machine_model.specs.Machine.{Machine, Done, release, if_control}
use Rattle.conn_table.specs.Tables.{Specs, ring_id}
use Rattle.watchers.specs.Watched.{Watched, conns_of}
use Rattle.daemon.specs.declared.answer.Door.TheVariants.{Closed}
use Rattle.daemon.specs.declared.reply.Answer.{Answer}
use Rattle.daemon.specs.Keeps.{machine_of}
use Rattle.daemon.specs.Peers.{conn_in}
use Rattle.conn_rows.specs.Rows.{opens_of}
use Rattle.daemon.proofs.KeepsLemmas.{conns_without}
use Rattle.daemon.proofs.ActLemmas.{did_same, same_equal}
use Rattle.daemon.proofs.DomainLemmas.{guest_asks, control_asks, HasRing, found_ring, went, released, nothing_released, closing_crowds, did_close}
use Rattle.daemon.proofs.domains.release.Goals as goal

pub returns-then-domid-ne0-clause-ok : goal.returns-then-domid-ne0-clause-ok
returns-then-domid-ne0-clause-ok c = λ tree gens tx.
    let peers = c.args.peers.now in
    let done : Done = release (machine_of tree gens peers.specs peers.watched) (ring_of c.args.domid (conns_of peers.specs peers.watched)) in
    did_same c.args.asker.conn peers c.requires.sound c.requires.may _ (Err Eacces) tt c.refused.result c.refused.ensures.reply c.refused.ensures.owed tree gens
    (guest_asks (conn_in peers c.args.asker.conn c.args.asker.spec) (machine_of tree gens peers.specs peers.watched) done c.domid.result c.domid.ensures c.if-domid-ne0.true) c.refused.ensures.door

pub returns-in_default-clause-ok : goal.returns-in_default-clause-ok
returns-in_default-clause-ok c = λ tree gens tx.
    let peers = c.args.peers.now in
    let done : Done = release (machine_of tree gens peers.specs peers.watched) (ring_of c.args.domid (conns_of peers.specs peers.watched)) in
    let none : ring_id c.args.domid peers.specs ≡ None = ap (λ (es : Specs). ring_id c.args.domid es) (sym c.conns.ensures) ∙ sym c.in_default.ensures.ring in
    did_same c.args.asker.conn peers c.requires.sound c.requires.may _ (Err Enoent) tt c.refused-in_default.result c.refused-in_default.ensures.reply c.refused-in_default.ensures.owed tree gens
    (control_asks (conn_in peers c.args.asker.conn c.args.asker.spec) (machine_of tree gens peers.specs peers.watched) done c.domid.result c.domid.ensures c.if-domid-ne0.false
    ∙ nothing_released tree gens peers.specs peers.watched c.args.domid none) c.refused-in_default.ensures.door

pub returns-in-Some-crowding-clause-ok : goal.returns-in-Some-crowding-clause-ok
returns-in-Some-crowding-clause-ok c = λ tree gens tx.
    let peers = c.args.peers.now in
    let asks = c.args.asker.conn in
    let spec = c.args.asker.spec in
    let domid = c.args.domid in
    let sound = c.requires.sound in
    let there = c.requires.there in
    let owed = c.in_ok-owed.owed in
    let gone = c.in-Some.gone in
    let ring : HasRing domid gone peers.specs = found_ring domid gone peers.specs c.conns.result.now c.conns.ensures ((c.in-Some.ensures.only gone).0 refl) in
    let found : ring_id domid peers.specs ≡ Some gone = ap (λ (es : Specs). ring_id domid es) (sym c.conns.ensures) ∙ sym c.in-Some.ensures.ring in
    let control = sym c.domid.ensures ∙ c.if-domid-ne0.false in
    let machine : Machine = machine_of tree gens peers.specs peers.watched in
    let done : Done = if_control (conn_in peers asks spec) machine (release machine (ring_of domid (conns_of peers.specs peers.watched))) in
    let less : Specs = where_key nat_cmp (λ key. not (gone == key)) peers.specs in
    let left : Watched = where_key nat_cmp (λ key. not (gone == key)) peers.watched in
    let acted : done ≡ went tree gens peers.specs peers.watched (conns_of less left) =
    control_asks (conn_in peers asks spec) machine (release machine (ring_of domid (conns_of peers.specs peers.watched))) c.domid.result c.domid.ensures c.if-domid-ne0.false
    ∙ released tree gens peers.specs peers.watched domid gone found (conns_of less left) (conns_without (λ key. not (gone == key)) peers.specs peers.watched sound.table.table.rising)
    in
    closing_crowds asks tree gens peers sound spec there control domid gone ring c.requires.not_control found done owed c.in_ok-owed.ensures acted c.in-Some-crowding.conn peers (sym c.in-Some-crowding.ensures) (same_equal peers peers refl)

pub returns-clause-ok : goal.returns-clause-ok
returns-clause-ok c = λ tree gens tx.
    let peers = c.args.peers.now in
    let asks = c.args.asker.conn in
    let spec = c.args.asker.spec in
    let domid = c.args.domid in
    let sound = c.requires.sound in
    let there = c.requires.there in
    let owed = c.in_ok-owed.owed in
    let gone = c.in-Some.gone in
    let ring : HasRing domid gone peers.specs = found_ring domid gone peers.specs c.conns.result.now c.conns.ensures ((c.in-Some.ensures.only gone).0 refl) in
    let found : ring_id domid peers.specs ≡ Some gone = ap (λ (es : Specs). ring_id domid es) (sym c.conns.ensures) ∙ sym c.in-Some.ensures.ring in
    let control = sym c.domid.ensures ∙ c.if-domid-ne0.false in
    let machine : Machine = machine_of tree gens peers.specs peers.watched in
    let done : Done = if_control (conn_in peers asks spec) machine (release machine (ring_of domid (conns_of peers.specs peers.watched))) in
    let less : Specs = where_key nat_cmp (λ key. not (gone == key)) peers.specs in
    let left : Watched = where_key nat_cmp (λ key. not (gone == key)) peers.watched in
    let acted : done ≡ went tree gens peers.specs peers.watched (conns_of less left) =
    control_asks (conn_in peers asks spec) machine (release machine (ring_of domid (conns_of peers.specs peers.watched))) c.domid.result c.domid.ensures c.if-domid-ne0.false
    ∙ released tree gens peers.specs peers.watched domid gone found (conns_of less left) (conns_without (λ key. not (gone == key)) peers.specs peers.watched sound.table.table.rising)
    in
    let mid = c.reserve_all.new.self in
    let new = c.remove.new.self in
    let answer : Answer = record { reply = Ok c.in_ok-done.done; door = Closed domid; owed = owed } in
    did_close asks tree gens peers sound spec there control domid gone ring c.requires.not_control found done owed c.in_ok-owed.ensures acted answer (ap Ok c.in_ok-done.ensures) refl refl mid new (c.remove.ensures.sound c.reserve_all.ensures.sound)
    c.in_ok-reserve_all.ensures.ok (sym c.in_default-crowding.ensures) c.reserve_all.ensures.bytes c.reserve_all.ensures.rests (ap (λ rows. opens_of rows) c.reserve_all.ensures.txns)
    (c.remove.ensures.specs ∙ ap (where_key nat_cmp (λ key. not (gone == key))) c.reserve_all.ensures.specs)
    (c.remove.ensures.watched ∙ ap (where_key nat_cmp (λ key. not (gone == key))) c.reserve_all.ensures.watched)
    c.remove.ensures.queues c.remove.ensures.txns
