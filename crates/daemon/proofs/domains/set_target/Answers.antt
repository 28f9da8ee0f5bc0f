use Rattle.std.proofs.Common.{◌≡◌, Some, None, Ok, Err, is_some, true, false, refl, sym, ap, ◌∙◌}
use Rattle.xs_model.specs.declared.message.WireErr.TheVariants.{Eacces, Enoent}
use Rattle.machine_model.specs.declared.ConnSpec.TheVariants.{Ring}
use Rattle.machine_model.specs.Connections.{ring_of, has_ring}
use Rattle.machine_model.specs.Machine.{Done, set_target}
use Rattle.conn_table.specs.Tables.{Specs, ring_id}
use Rattle.watchers.specs.Watched.{conns_of}
use Rattle.daemon.specs.Keeps.{machine_of}
use Rattle.daemon.specs.Peers.{conn_in}
use Rattle.daemon.proofs.ActLemmas.{did_same}
use Rattle.daemon.proofs.DomainLemmas.{guest_asks, control_asks, HasRing, found_ring, targeted, no_domain, no_target, did_set}
use Rattle.daemon.proofs.domains.set_target.Goals as goal

pub returns-then-domid-ne0-clause-ok : goal.returns-then-domid-ne0-clause-ok
returns-then-domid-ne0-clause-ok c = λ tree gens tx.
    let peers = c.args.peers.now in
    let done : Done = set_target (machine_of tree gens peers.specs peers.watched) c.args.target (ring_of c.args.domid (conns_of peers.specs peers.watched)) (has_ring c.args.target (conns_of peers.specs peers.watched)) in
    did_same c.args.asker.conn peers c.requires.sound c.requires.may _ (Err Eacces) tt c.refused.result c.refused.ensures.reply c.refused.ensures.owed tree gens
    (guest_asks (conn_in peers c.args.asker.conn c.args.asker.spec) (machine_of tree gens peers.specs peers.watched) done c.domid.result c.domid.ensures c.if-domid-ne0.true) c.refused.ensures.door

pub returns-in_default-clause-ok : goal.returns-in_default-clause-ok
returns-in_default-clause-ok c = λ tree gens tx.
    let peers = c.args.peers.now in
    let done : Done = set_target (machine_of tree gens peers.specs peers.watched) c.args.target (ring_of c.args.domid (conns_of peers.specs peers.watched)) (has_ring c.args.target (conns_of peers.specs peers.watched)) in
    let none : ring_id c.args.domid peers.specs ≡ None = ap (λ (es : Specs). ring_id c.args.domid es) (sym c.conns.ensures) ∙ sym c.in_default.ensures.ring in
    did_same c.args.asker.conn peers c.requires.sound c.requires.may _ (Err Enoent) tt c.refused-in_default.result c.refused-in_default.ensures.reply c.refused-in_default.ensures.owed tree gens
    (control_asks (conn_in peers c.args.asker.conn c.args.asker.spec) (machine_of tree gens peers.specs peers.watched) done c.domid.result c.domid.ensures c.if-domid-ne0.false
    ∙ no_domain tree gens peers.specs peers.watched c.args.domid c.args.target none) c.refused-in_default.ensures.door

pub returns-then-is_none-clause-ok : goal.returns-then-is_none-clause-ok
returns-then-is_none-clause-ok c = λ tree gens tx.
    let peers = c.args.peers.now in
    let done : Done = set_target (machine_of tree gens peers.specs peers.watched) c.args.target (ring_of c.args.domid (conns_of peers.specs peers.watched)) (has_ring c.args.target (conns_of peers.specs peers.watched)) in
    let conn = c.in-Some.conn in
    let found : ring_id c.args.domid peers.specs ≡ Some conn = ap (λ (es : Specs). ring_id c.args.domid es) (sym c.conns.ensures) ∙ sym c.in-Some.ensures.ring in
    let absent : is_some (ring_id c.args.target peers.specs) ≡ false = ap (λ (es : Specs). is_some (ring_id c.args.target es)) (sym c.conns-2.ensures) ∙ ap is_some (sym c.by_domid-2.ensures.ring) ∙ c.if-is_none.ensures in
    did_same c.args.asker.conn peers c.requires.sound c.requires.may _ (Err Enoent) tt c.refused-then-is_none.result c.refused-then-is_none.ensures.reply c.refused-then-is_none.ensures.owed tree gens
    (control_asks (conn_in peers c.args.asker.conn c.args.asker.spec) (machine_of tree gens peers.specs peers.watched) done c.domid.result c.domid.ensures c.if-domid-ne0.false
    ∙ no_target tree gens peers.specs peers.watched c.args.domid c.args.target conn found absent) c.refused-then-is_none.ensures.door

pub returns-clause-ok : goal.returns-clause-ok
returns-clause-ok c = λ tree gens tx.
    let peers = c.args.peers.now in
    let done : Done = set_target (machine_of tree gens peers.specs peers.watched) c.args.target (ring_of c.args.domid (conns_of peers.specs peers.watched)) (has_ring c.args.target (conns_of peers.specs peers.watched)) in
    let conn = c.in-Some.conn in
    let ring : HasRing c.args.domid conn peers.specs = found_ring c.args.domid conn peers.specs c.conns.result.now c.conns.ensures ((c.in-Some.ensures.only conn).0 refl) in
    let found : ring_id c.args.domid peers.specs ≡ Some conn = ap (λ (es : Specs). ring_id c.args.domid es) (sym c.conns.ensures) ∙ sym c.in-Some.ensures.ring in
    let there : is_some (ring_id c.args.target peers.specs) ≡ true = ap (λ (es : Specs). is_some (ring_id c.args.target es)) (sym c.conns-2.ensures) ∙ ap is_some (sym c.by_domid-2.ensures.ring) ∙ c.if-is_none.ensures in
    did_set c.args.asker.conn tree gens peers c.requires.sound c.requires.may _ c.of.result (c.of.ensures.reply ∙ ap Ok c.in_ok-done.ensures) c.set_target.new.self (c.set_target.ensures.sound c.requires.sound c.requires.bound) _ c.of.ensures.owed
    (c.set_target.ensures.specs (Ring c.args.domid ring.target ring.evtchn) ring.there) c.set_target.ensures.watched c.set_target.ensures.queues c.set_target.ensures.txns
    (control_asks (conn_in peers c.args.asker.conn c.args.asker.spec) (machine_of tree gens peers.specs peers.watched) done c.domid.result c.domid.ensures c.if-domid-ne0.false
    ∙ targeted tree gens peers.specs peers.watched c.args.domid c.args.target conn ring found there)
    c.of.ensures.door
