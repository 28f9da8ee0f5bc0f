use Rattle.std.proofs.Common.{ℕ, rules}
use Rattle.std.proofs.lemmas.Fn.{always_returns_same}
use Rattle.std.specs.Ordering.{nat_cmp}
use Rattle.id_map.proofs.MapLemmas.{searched}
use Rattle.id_map.proofs.map.place_of.Goals as goal

pub returns : goal.returns
returns g c =
    let facts = c.binary_search_by.ensures in
    let by_id = facts.position (λ (e : ℕ × g.row.T.Denot). nat_cmp e.0 c.args.id) (always_returns_same _ _ _ (λ a r h called. search rules)) in
    searched c.args.entries.now c.args.id c.binary_search_by.result c.requires facts.bound by_id
