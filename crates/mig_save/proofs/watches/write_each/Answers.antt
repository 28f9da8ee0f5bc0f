use Rattle.std.proofs.Common.{◌<◌, length, get_or, arith, []}
use Rattle.std.proofs.lemmas.Option.{slice_get-get_or}
use Rattle.watch_table.specs.Tables.{Made}
use Rattle.mig_save.proofs.MadeWatches.{watches_more}
use Rattle.mig_save.proofs.watches.write_each.Goals as goal

pub loop-place-preserved : goal.loop-place-preserved
loop-place-preserved c =
    let made = c.args.watches.now in
    let i = c.loop-place.place in
    let d : Made = record { watch = record { wpath = []; token = [] }; domid = 0 } in
    let lt : i < length made = omega (arith, c.loop-place-test.true, c.len-place-end.ensures) in
    watches_more c.args.conn c.args.out.now c.loop-place.out c.write_at.new.out made i d lt c.loop-place.invariant
    (c.in_ok-write_at.ensures (get_or made i d) (slice_get-get_or made i d lt))
