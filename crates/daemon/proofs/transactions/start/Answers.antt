use Rattle.std.proofs.Common.{◌≡◌, ◌≤◌, ◌<◌, ℕ, length, Some, is_some, true, Result, Ok, List, IfOk, sym, ap, subst, ◌∙◌}
use Rattle.std.specs.Ordering.{nat_cmp}
use Rattle.std.specs.FinMap.{find}
use Rattle.xs_model.specs.declared.message.WireErr.{WireErr}
use Rattle.machine_model.specs.Machine.{transaction_limit}
use Rattle.mark_model.specs.Stores.{kept_start, opens_of as opens_at}
use Rattle.daemon.specs.Acts.{Did, store_in}
use Rattle.daemon.specs.Peers.{Connected, IsSound, MayAsk, conn_in}
use Rattle.conn_rows.specs.Rows.{Rows, opens_of, txns_of}
use Rattle.conn_rows.proofs.IdEntries.{same_there}
use Rattle.daemon.proofs.PeerLemmas.{connected}
use Rattle.daemon.proofs.TransactionLemmas.{number_short, start_inside, start_full, start_opened}
use Rattle.daemon.proofs.transactions.start.Goals as goal

pub returns-then-tx_id-ne0-clause-ok : goal.returns-then-tx_id-ne0-clause-ok
returns-then-tx_id-ne0-clause-ok c = λ tree counted.
    let peers = c.args.peers.now in
    let rows : Rows = record { queues = peers.queues; txns = peers.txns; spare = 0 } in
    start_inside c.args.asker.conn c.args.tx_id tree peers.specs peers.watched rows c.requires.sound c.requires.may counted c.args.asker.spec c.refused.result c.refused.ensures.door c.refused.ensures.owed c.if-tx_id-ne0.true c.refused.ensures.reply

pub returns-then-open_count-limit-clause-ok : goal.returns-then-open_count-limit-clause-ok
returns-then-open_count-limit-clause-ok c = λ tree counted.
    let peers = c.args.peers.now in
    let conn = c.args.asker.conn in
    let rows : Rows = record { queues = peers.queues; txns = peers.txns; spare = 0 } in
    let number : c.open_count.result ≡ length (txns_of conn peers.txns) = c.open_count.ensures ∙ ap (λ (p : Connected). length (txns_of conn p.txns)) c.peers.view_is in
    let full : transaction_limit c.args.asker.spec ≤ length (txns_of conn peers.txns) = subst (λ (n : ℕ). n ≤ length (txns_of conn peers.txns)) c.limit.ensures (subst (λ (n : ℕ). c.limit.result ≤ n) number c.if-open_count-limit.true) in
    start_full conn c.args.tx_id tree peers.specs peers.watched rows c.requires.sound c.requires.may counted c.args.asker.spec c.refused-then-open_count-limit.result c.refused-then-open_count-limit.ensures.door c.refused-then-open_count-limit.ensures.owed c.if-tx_id-ne0.false full c.refused-then-open_count-limit.ensures.reply

pub open-requires-clause-there : goal.open-requires-clause-there
open-requires-clause-there c =
    let conn = c.args.asker.conn in
    subst (λ (p : Connected). is_some (find nat_cmp conn p.txns) ≡ true) (sym c.peers.view_is)
    (same_there c.args.peers.now.txns c.args.peers.now.specs c.requires.sound.rows conn ∙ ap is_some c.requires.there)

pub open-requires-clause-free : goal.open-requires-clause-free
open-requires-clause-free c = c.free_number-free.ensures.free

pub returns-clause-ok : goal.returns-clause-ok
returns-clause-ok c = λ tree counted.
    let conn = c.args.asker.conn in
    let spec = c.args.asker.spec in
    let specs = c.peers.inside.conns in
    let watched = c.peers.inside.watchers in
    let rows = c.peers.inside.rows in
    let sound : IsSound (connected specs watched rows) = subst IsSound (sym c.peers.view_is) c.requires.sound in
    let may : MayAsk conn (connected specs watched rows) = subst (MayAsk conn) (sym c.peers.view_is) c.requires.may in
    let there = subst (λ (p : Connected). find nat_cmp conn p.specs ≡ Some spec) (sym c.peers.view_is) c.requires.there in
    let few : length (txns_of conn rows.txns) < transaction_limit spec = subst (λ (n : ℕ). length (txns_of conn rows.txns) < n) c.limit.ensures (subst (λ (n : ℕ). n < c.limit.result) c.open_count.ensures c.if-open_count-limit.false) in
    subst (λ (p : Connected). Did conn tree p (kept_start (store_in tree p) conn (conn_in p conn spec) c.args.tx_id (opens_at conn (opens_of p.txns))) c.of.result tree (connected specs watched c.open.new.self)) c.peers.view_is
    (start_opened conn c.args.tx_id tree specs watched rows sound may counted spec c.of.result c.of.ensures.door c.of.ensures.owed c.if-tx_id-ne0.false few there c.free_number-free.result c.free_number-free.ensures.value
    (c.of.ensures.reply ∙ ap Ok c.in_ok-payload.ensures) c.open.new.self c.open.ensures.queues c.in_ok-open.ensures.ok)

pub returns-clause-short : goal.returns-clause-short
returns-clause-short c =
    subst (λ (reply : Result (List ℕ) WireErr). IfOk reply (λ payload. length payload ≤ 4096)) (sym c.of.ensures.reply)
    (subst (λ (payload : List ℕ). length payload ≤ 4096) (sym c.in_ok-payload.ensures) (number_short c.free_number-free.result))
