use Rattle.std.proofs.Common.{not, rules}
use Rattle.std.proofs.lemmas.Fn.{always_returns_same}
use Rattle.xs_model.specs.Paths.{Path}
use Rattle.path_map.specs.Marks.{is_past}
use Rattle.path_map.proofs.Marked.{parted, past_from}
use Rattle.path_map.proofs.search.place_past.Goals as goal

pub returns : goal.returns
returns g c =
    let p = c.args.path.now in
    let leaf = c.args.leaf.now in
    let entries = c.args.entries.now in
    let facts = c.partition_point.ensures in
    let point = facts.partitioned (λ (e : Path × g.row.T.Denot). not (is_past p leaf e.0)) (always_returns_same _ _ _ (λ a r g called. search rules)) (parted p leaf entries c.requires) in
    past_from p leaf entries c.partition_point.result facts.bound point
