use Rattle.std.proofs.Common.{ℕ, List, ◌+◌, subst}
use Rattle.id_map.specs.Ids.{IsLeastFree}
use Rattle.id_map.proofs.FreeLemmas.{least_behind_row, least_above_none}
use Rattle.id_map.proofs.map.id_free.Goals as goal

pub returns : goal.returns
returns g c =
    let behind = least_behind_row c.in_row.result c.positive.result.now c.positive.ensures.rising c.positive.ensures.positive c.in_row.ensures in
    least_above_none (c.in_row.result + 1) c.args.entries.now
    (subst (λ (es : List (ℕ × g.row.T.Denot)). IsLeastFree es (c.in_row.result + 1)) c.positive.ensures.entries behind)
