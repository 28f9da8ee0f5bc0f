use Rattle.std.proofs.Common.{◌≡◌, true, is_some, Some, Ok, refl, sym, ap, subst, ◌∙◌}
use Rattle.std.specs.Ordering.{nat_cmp}
use Rattle.std.specs.FinMap.{find}
use Rattle.xs_model.specs.Requests as model
use Rattle.mark_model.specs.Stores.{kept_act}
use Rattle.daemon.specs.Acts.{Did, store_in}
use Rattle.daemon.specs.Peers.{Connected, IsSound, MayAsk, conn_in}
use Rattle.conn_rows.proofs.IdEntries.{same_there}
use Rattle.daemon.proofs.PeerLemmas.{connected}
use Rattle.daemon.proofs.WatchLemmas.{did_reset}
use Rattle.daemon.proofs.watches.reset.Goals as goal

pub close_all-requires : goal.close_all-requires
close_all-requires c =
    let conn = c.args.asker.conn in record {
      there =
          subst (λ (p : Connected). is_some (find nat_cmp conn p.txns) ≡ true) (sym c.peers.view_is)
          (same_there c.args.peers.now.txns c.args.peers.now.specs c.requires.sound.rows conn ∙ ap is_some c.requires.there);
    }

pub returns-clause-ok : goal.returns-clause-ok
returns-clause-ok c = λ tree tx counted.
    let conn = c.args.asker.conn in
    let spec = c.args.asker.spec in
    let specs = c.peers.inside.conns in
    let watched = c.peers.inside.watchers in
    let rows = c.peers.inside.rows in
    let new : Connected = connected specs c.clear.new.self c.close_all.new.self in
    let sound : IsSound (connected specs watched rows) = subst IsSound (sym c.peers.view_is) c.requires.sound in
    let may : MayAsk conn (connected specs watched rows) = subst (MayAsk conn) (sym c.peers.view_is) c.requires.may in
    let there = subst (λ (p : Connected). find nat_cmp conn p.specs ≡ Some spec) (sym c.peers.view_is) c.requires.there in
    subst (λ (p : Connected). Did conn tree p (kept_act (store_in tree p) conn (conn_in p conn spec) tx model.ResetWatches) c.of.result tree new) c.peers.view_is
    (did_reset conn tx tree counted (connected specs watched rows) sound may spec there c.of.result (c.of.ensures.reply ∙ ap Ok c.in_ok-done.ensures) c.of.ensures.door c.of.ensures.owed new
    refl c.close_all.ensures.queues c.close_all.ensures.txns c.clear.ensures)
