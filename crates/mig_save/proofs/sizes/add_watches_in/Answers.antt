use Rattle.std.proofs.Common.{◌<◌, length, get_or, arith, []}
use Rattle.std.proofs.lemmas.Option.{slice_get-get_or}
use Rattle.watch_table.specs.Tables.{Made}
use Rattle.mig_save.proofs.RecordSizes.{watches_size_more}
use Rattle.mig_save.proofs.sizes.add_watches_in.Goals as goal

pub loop-place-preserved : goal.loop-place-preserved
loop-place-preserved c =
    let made = c.args.watches.now in
    let i = c.loop-place.place in
    let d : Made = record { watch = record { wpath = []; token = [] }; domid = 0 } in
    let lt : i < length made = omega (arith, c.loop-place-test.true, c.len-place-end.ensures) in
    λ k. watches_size_more k c.args.count c.loop-place.total c.in_ok-total.total made i d lt (c.loop-place.invariant k)
    (c.in_ok-total.ensures k (get_or made i d) (slice_get-get_or made i d lt))
