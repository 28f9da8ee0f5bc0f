use Rattle.std.proofs.Common.{◌∙◌, sym}
use Rattle.watch_table.specs.Tables.{watch_of}
use Rattle.watchers.proofs.IndexedLemmas.{apart_or_left}
use Rattle.watchers.proofs.listing.unlist_one.Goals as goal

pub returns-then-not-is_left_on : goal.returns-then-not-is_left_on
returns-then-not-is_left_on c = λ i p left there.
    let w = watch_of c.args.wpath.now c.args.token.now in
    c.unlist.ensures i p (apart_or_left w c.args.those.now c.args.conn i c.in-Some.node.now p (sym c.is_left_on.ensures ∙ c.if-not-is_left_on.true) left) there
