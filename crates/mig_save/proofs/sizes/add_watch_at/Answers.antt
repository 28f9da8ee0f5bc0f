use Rattle.watch_table.specs.Tables.{watch_of}
use Rattle.mig_save.proofs.MadeWatches.{IsShort, short_at}
use Rattle.mig_save.proofs.sizes.add_watch_at.Goals as goal

pub add_watch-requires-clause-wpath : goal.add_watch-requires-clause-wpath
add_watch-requires-clause-wpath c =
    let short : IsShort (watch_of c.in-Some.wpath.now c.in-Some.token.now) =
    short_at c.args.watches.now c.args.place (watch_of c.in-Some.wpath.now c.in-Some.token.now) c.is_made.ensures.each c.in-Some.ensures in
    short.wpath

pub add_watch-requires-clause-token : goal.add_watch-requires-clause-token
add_watch-requires-clause-token c =
    let short : IsShort (watch_of c.in-Some.wpath.now c.in-Some.token.now) =
    short_at c.args.watches.now c.args.place (watch_of c.in-Some.wpath.now c.in-Some.token.now) c.is_made.ensures.each c.in-Some.ensures in
    short.token
