use Rattle.std.proofs.Common.{◌≡◌, ◌<◌, ◌≤◌, [], true, refl, sym, ap, subst, ◌∙◌}
use Rattle.std.specs.Ordering.{nat_cmp}
use Rattle.std.specs.FinMap.{put}
use Rattle.conn_table.specs.Tables.{is_socket, count_sockets, IsTable}
use Rattle.conn_rows.specs.Queued.{unsent_of}
use Rattle.daemon.specs.Peers.{Connected, IsInBounds, IsSoundTable, IsSound}
use Rattle.daemon.proofs.PeerLemmas.{connected, untaken, table_put, sound_added}
use Rattle.daemon.proofs.peers.Peers.add.Goals as goal

pub returns-clause-sound : goal.returns-clause-sound
returns-clause-sound c =
    let old : Connected = connected c.self.inside.conns c.self.inside.watchers c.self.inside.rows in
    let new : Connected = connected c.add.new.self c.self.inside.watchers c.add-2.new.self in
    let absent = untaken c.args.conn c.args.spec old.specs (sym c.is_taken.ensures ∙ c.if-is_taken.false) in
    let specs = c.in_ok-add.ensures.ok in
    subst (λ (k : Connected). IsSound k → 1 ≤ c.args.conn → IsInBounds c.args.spec → (is_socket c.args.spec ≡ true → count_sockets k.specs < 65536) → IsSound new) c.self.view_is
    (λ sound positive bounds few. sound_added old sound new c.args.conn c.args.spec absent
    (subst IsSoundTable (sym specs) (table_put old.specs sound.table c.args.conn c.args.spec (subst IsTable specs c.in_ok-add.ensures.table) positive bounds few)) specs refl
    (c.add-2.ensures.bytes ∙ ap (λ q. put nat_cmp c.args.conn [] (unsent_of q)) c.reserve.ensures.queues)
    (c.add-2.ensures.txns ∙ ap (put nat_cmp c.args.conn []) c.reserve.ensures.txns))
