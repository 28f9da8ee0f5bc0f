use Rattle.std.proofs.Common.{sym, ap, subst}
use Rattle.xs_model.specs.Perms.{Caller}
use Rattle.watch_table.specs.Tables.{Made, watch_of}
use Rattle.watchers.specs.Watched.{Watched, AreOwn}
use Rattle.watchers.proofs.OwnLemmas.{own_added}
use Rattle.store_tests.proofs.watchers_calls.watch.Goals as goal

pub returns : goal.returns
returns c =
    let made : Made = record { watch = watch_of c.in_ok-wpath.wpath c.in_ok-token.token; domid = c.caller-domid.result.0 } in
    subst (λ (watched : Watched). AreOwn c.args.conns.now watched) (sym c.in_ok-add.ensures.ok)
    (own_added c.args.conns.now c.args.conn c.in-Some.spec made c.args.watchers.now c.requires (sym c.in-Some.ensures.found) (ap (λ (caller : Caller). caller.domid) c.caller-domid.ensures))
