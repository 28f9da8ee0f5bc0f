use Rattle.std.proofs.Common.{sym, ◌∙◌, ◌≤◌, ◌-◌, length, drop, arith, length-drop}
use Rattle.watch_events.proofs.EventLemmas.{rising_alone}
use Rattle.watch_events.proofs.change.is_rising.Goals as goal

pub returns : goal.returns
returns c =
    let left = drop (c.loop-place.place - 1) c.args.paths.now in
    let alone : length left ≤ 1 = omega (arith, length-drop (c.loop-place.place - 1) c.args.paths.now, c.loop-place-test.false) in
    sym (rising_alone left alone) ∙ c.loop-place.invariant
