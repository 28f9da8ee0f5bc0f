use Rattle.std.proofs.Common.{◌≡◌, ◌<◌, true, OnOk, sym, subst}
use Rattle.conn_table.specs.Tables.{is_socket, count_sockets}
use Rattle.store_parts.specs.Kept.{Kept}
use Rattle.daemon.specs.Acts.{kept_by}
use Rattle.daemon.specs.Submits.{Adds}
use Rattle.daemon.proofs.SubmitLemmas.{adds, with_all, both, not_taken, not_there}
use Rattle.daemon.proofs.WholeLemmas.{whole_added}
use Rattle.daemon.proofs.service.Daemon.add_conn.Goals as goal

pub returns-clause-ok : goal.returns-clause-ok
returns-clause-ok c =
    let tree = c.self.inside.tree in
    let peers = c.self.inside.peers in
    let globals = c.self.inside.globals in
    let sockets : is_socket c.args.spec ≡ true → count_sockets peers.specs < 65536 = subst (λ (k : Kept). is_socket c.args.spec ≡ true → count_sockets k.specs < 65536) (sym c.self.view_is) c.requires.sockets in
    subst (λ (k : Kept). OnOk c.add.result (Adds k c.args.id c.args.spec (kept_by tree c.add.new.self globals))) c.self.view_is
    (with_all c.add.result (both _ _ c.add.result (not_there c.add.result c.args.id c.args.spec peers.specs c.add.ensures.taken) c.add.ensures.specs) c.add.ensures.bytes c.add.ensures.rests c.add.ensures.txns c.add.ensures.sound
    (λ specs bytes rests txns sound. adds tree globals peers c.add.new.self c.args.id c.args.spec c.requires.id c.self.invariant.sound specs.0 specs.1 c.add.ensures.watched bytes rests txns (sound c.self.invariant.sound c.requires.id c.requires.bounds sockets)))

pub invariant_of-self : goal.invariant_of-self
invariant_of-self c =
    let peers = c.self.inside.peers in
    let sockets : is_socket c.args.spec ≡ true → count_sockets peers.specs < 65536 = subst (λ (k : Kept). is_socket c.args.spec ≡ true → count_sockets k.specs < 65536) (sym c.self.view_is) c.requires.sockets in
    whole_added c.self.inside.tree peers c.self.invariant c.add.new.self c.args.id c.args.spec c.ranges.id.fits (c.spec_fits.ensures c.requires.bounds) sockets c.add.result c.add.ensures.sound (λ sound. sound c.self.invariant.sound c.requires.id c.requires.bounds sockets)
    (not_taken c.add.result c.args.id c.args.spec peers.specs c.add.ensures.taken) c.add.ensures.specs c.add.ensures.watched c.add.ensures.txns c.add.ensures.err
