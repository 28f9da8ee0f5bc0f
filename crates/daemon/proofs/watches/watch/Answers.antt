use Rattle.std.proofs.Common.{◌≡◌, ◌≤◌, ℕ, Ok, [], ◌∷◌, ◌++◌, refl, sym, ap, subst, ◌∙◌}
use Rattle.std.specs.List.{list_any}
use Rattle.std.specs.Ordering.{nat_cmp}
use Rattle.std.specs.FinMap.{put}
use Rattle.xs_model.specs.Watches.{Watch, same_watch}
use Rattle.watch_table.specs.Tables.{watch_of}
use Rattle.watchers.specs.Watched.{made_by, watches_of}
use Rattle.conn_rows.specs.Queued.{unsent_of, rests_of}
use Rattle.conn_rows.specs.Sending.{HasRoomFor}
use Rattle.daemon.specs.declared.answer.Door.TheVariants.{Same}
use Rattle.daemon.specs.declared.reply.Answer.{Answer}
use Rattle.daemon.specs.Peers.{Connected, message_limit}
use Rattle.daemon.proofs.PeerLemmas.{connected}
use Rattle.daemon.proofs.ActLemmas.{asker_bound}
use Rattle.daemon.proofs.WatchLemmas.{watch_exists, watch_full, watch_made, first_short}
use Rattle.daemon.proofs.watches.watch.Goals as goal

pub returns-then-has-clause-ok : goal.returns-then-has-clause-ok
returns-then-has-clause-ok c = λ tree gens tx.
    let conn = c.args.asker.conn in
    let w : Watch = watch_of c.args.wpath.now c.args.token.now in
    let exists = ap (λ (p : Connected). list_any (same_watch w) (watches_of conn p.watched)) (sym c.peers.view_is) ∙ sym c.has.ensures ∙ c.if-has.true in
    watch_exists conn tree gens c.args.peers.now c.requires.sound c.requires.may c.args.asker.spec c.requires.there c.args.wpath.now c.args.token.now c.refused.result exists c.refused.ensures.reply c.refused.ensures.door c.refused.ensures.owed

pub returns-then-not-may_watch-clause-ok : goal.returns-then-not-may_watch-clause-ok
returns-then-not-may_watch-clause-ok c = λ tree gens tx.
    let conn = c.args.asker.conn in
    let w : Watch = watch_of c.args.wpath.now c.args.token.now in
    let is_new = ap (λ (p : Connected). list_any (same_watch w) (watches_of conn p.watched)) (sym c.peers.view_is) ∙ sym c.has.ensures ∙ c.if-has.false in
    watch_full conn tree gens c.args.peers.now c.requires.sound c.requires.may c.args.asker.spec c.requires.there c.args.wpath.now c.args.token.now c.refused-then-not-may_watch.result is_new (sym c.may_watch.ensures ∙ c.if-not-may_watch.true)
    c.refused-then-not-may_watch.ensures.reply c.refused-then-not-may_watch.ensures.door c.refused-then-not-may_watch.ensures.owed

pub add-requires-clause-domid : goal.add-requires-clause-domid
add-requires-clause-domid c = subst (λ (d : ℕ). d ≤ 32751) (sym c.domid.ensures) (asker_bound c.args.asker.conn c.args.asker.spec c.args.peers.now c.requires.sound c.requires.there)

pub returns-clause-ok : goal.returns-clause-ok
returns-clause-ok c = λ tree gens tx.
    let conn = c.args.asker.conn in
    let spec = c.args.asker.spec in
    let here = c.args.peers.now in
    let w : Watch = watch_of c.args.wpath.now c.args.token.now in
    let new : Connected = connected c.peers-2.inside.conns c.add.new.self c.peers-2.inside.rows in
    let answer : Answer = record { reply = Ok c.in_ok-copy.field-0; door = Same; owed = c.in_ok-owed.owed } in
    let is_new = ap (λ (p : Connected). list_any (same_watch w) (watches_of conn p.watched)) (sym c.peers.view_is) ∙ sym c.has.ensures ∙ c.if-has.false in
    let was : c.peers-2.inside.watchers ≡ here.watched = ap (λ (p : Connected). p.watched) c.peers-2.view_is ∙ c.reserve_all.ensures.watched in
    watch_made conn tree gens here c.requires.sound c.requires.may spec c.requires.there c.args.wpath.now c.args.token.now answer (ap Ok c.in_ok-copy.ensures) refl new
    (ap (λ (p : Connected). p.specs) c.peers-2.view_is ∙ c.reserve_all.ensures.specs)
    (ap (λ (p : Connected). unsent_of p.queues) c.peers-2.view_is ∙ c.reserve_all.ensures.bytes)
    (ap (λ (p : Connected). rests_of p.queues) c.peers-2.view_is ∙ c.reserve_all.ensures.rests)
    (ap (λ (p : Connected). p.txns) c.peers-2.view_is ∙ c.reserve_all.ensures.txns)
    is_new (sym c.may_watch.ensures ∙ c.if-not-may_watch.false) c.domid.result c.domid.ensures
    (c.in_ok-add.ensures.ok ∙ (λ i. put nat_cmp conn (made_by conn (was i) ++ record { watch = watch_of (c.in_ok-wpath.ensures i) (c.in_ok-token.ensures i); domid = c.domid.result } ∷ []) (was i)))
    c.in_ok-owed.ensures (first_short conn c.args.wpath.now c.args.token.now _ c.requires.wpath c.requires.token)
    (subst (λ (p : Connected). HasRoomFor conn message_limit c.in_ok-owed.owed p.queues) (sym c.peers-2.view_is) c.in_ok-reserve_all.ensures.ok)
