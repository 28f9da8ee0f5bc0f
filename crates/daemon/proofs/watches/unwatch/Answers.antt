use Rattle.std.proofs.Common.{◌≡◌, Some, Ok, refl, sym, ap, subst, ◌∙◌}
use Rattle.std.specs.Ordering.{nat_cmp}
use Rattle.std.specs.FinMap.{find}
use Rattle.machine_model.specs.Machine.{remove_watch}
use Rattle.watch_table.specs.Tables.{watch_of}
use Rattle.watchers.specs.Watched.{Watched}
use Rattle.daemon.specs.Acts.{DidBeside}
use Rattle.daemon.specs.Keeps.{machine_of}
use Rattle.daemon.specs.Peers.{Connected, IsSound, MayAsk, conn_in}
use Rattle.daemon.proofs.PeerLemmas.{connected}
use Rattle.daemon.proofs.WatchLemmas.{unwatch_absent, unwatched}
use Rattle.daemon.proofs.watches.unwatch.Goals as goal

pub returns-then-not-remove-clause-ok : goal.returns-then-not-remove-clause-ok
returns-then-not-remove-clause-ok c = λ tree gens tx.
    let conn = c.args.asker.conn in
    let spec = c.args.asker.spec in
    let specs = c.peers.inside.conns in
    let watched = c.peers.inside.watchers in
    let rows = c.peers.inside.rows in
    let w = watch_of c.args.wpath.now c.args.token.now in
    let sound : IsSound (connected specs watched rows) = subst IsSound (sym c.peers.view_is) c.requires.sound in
    let may : MayAsk conn (connected specs watched rows) = subst (MayAsk conn) (sym c.peers.view_is) c.requires.may in
    let there = subst (λ (p : Connected). find nat_cmp conn p.specs ≡ Some spec) (sym c.peers.view_is) c.requires.there in
    subst (λ (p : Connected). DidBeside conn p (remove_watch (machine_of tree gens p.specs p.watched) conn (conn_in p conn spec) w) tree gens c.refused.result (connected specs c.remove.new.self rows)) c.peers.view_is
    (subst (λ (left : Watched). DidBeside conn (connected specs watched rows) (remove_watch (machine_of tree gens specs watched) conn (conn_in (connected specs watched rows) conn spec) w) tree gens c.refused.result (connected specs left rows)) (sym (c.remove.ensures.absent c.if-not-remove.true))
    (unwatch_absent conn tree gens (connected specs watched rows) sound may spec there c.args.wpath.now c.args.token.now c.refused.result (sym c.remove.ensures.found ∙ c.if-not-remove.true) c.refused.ensures.reply c.refused.ensures.door c.refused.ensures.owed))

pub returns-clause-ok : goal.returns-clause-ok
returns-clause-ok c = λ tree gens tx.
    let conn = c.args.asker.conn in
    let spec = c.args.asker.spec in
    let specs = c.peers.inside.conns in
    let watched = c.peers.inside.watchers in
    let rows = c.peers.inside.rows in
    let w = watch_of c.args.wpath.now c.args.token.now in
    let sound : IsSound (connected specs watched rows) = subst IsSound (sym c.peers.view_is) c.requires.sound in
    let may : MayAsk conn (connected specs watched rows) = subst (MayAsk conn) (sym c.peers.view_is) c.requires.may in
    let there = subst (λ (p : Connected). find nat_cmp conn p.specs ≡ Some spec) (sym c.peers.view_is) c.requires.there in
    subst (λ (p : Connected). DidBeside conn p (remove_watch (machine_of tree gens p.specs p.watched) conn (conn_in p conn spec) w) tree gens c.of.result (connected specs c.remove.new.self rows)) c.peers.view_is
    (unwatched conn tree gens (connected specs watched rows) sound may spec there c.args.wpath.now c.args.token.now c.of.result (sym c.remove.ensures.found ∙ c.if-not-remove.false) (c.of.ensures.reply ∙ ap Ok c.in_ok-done.ensures) c.of.ensures.door c.of.ensures.owed
    (connected specs c.remove.new.self rows) refl refl refl (c.remove.ensures.after c.if-not-remove.false))
