use Rattle.std.proofs.Common.{arith, rules, ◌≡◌, ◌++◌, false, length, take}
use Rattle.std.proofs.lemmas.Grind.{common_steps}
use Rattle.ring_ends.proofs.RowLemmas.{front_of}
use Rattle.ring_ends.proofs.row.worked_row.Goals as goal

pub returns-clause-got : goal.returns-clause-got
returns-clause-got c =
    let lists = c.close_ring.result in
    let quiet : lists.poked ≡ false = search rules in
    let sent : lists.sent ≡ c.args.full.now ++ take 10 c.args.more.now = grind (arith, common_steps) in
    let long : length lists.got ≡ 10 = grind (arith, common_steps) in
    front_of 10 lists.got lists.sent c.args.full.now (take 10 c.args.more.now) (c.close_ring.ensures.begins quiet) sent long (omega (arith, c.requires.full))
