use Rattle.watch_table.specs.Tables.{watch_of}
use Rattle.mig_save.proofs.MadeWatches.{IsShort, short_at}
use Rattle.mig_save.proofs.watches.write_at.Goals as goal

pub write_one-requires-clause-wpath : goal.write_one-requires-clause-wpath
write_one-requires-clause-wpath c =
    let short : IsShort (watch_of c.in-Some.wpath.now c.in-Some.token.now) =
    short_at c.args.watches.now c.args.place (watch_of c.in-Some.wpath.now c.in-Some.token.now) c.is_made.ensures.each c.in-Some.ensures in
    short.wpath

pub write_one-requires-clause-token : goal.write_one-requires-clause-token
write_one-requires-clause-token c =
    let short : IsShort (watch_of c.in-Some.wpath.now c.in-Some.token.now) =
    short_at c.args.watches.now c.args.place (watch_of c.in-Some.wpath.now c.in-Some.token.now) c.is_made.ensures.each c.in-Some.ensures in
    short.token
