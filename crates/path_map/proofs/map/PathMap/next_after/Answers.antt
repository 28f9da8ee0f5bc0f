use Rattle.std.proofs.Common.{◌∙◌}
use Rattle.path_map.proofs.Marked.{path_behind-is}
use Rattle.path_map.proofs.map.PathMap.next_after.Goals as goal

pub returns : goal.returns
returns g c = c.next_past.ensures.next ∙ path_behind-is c.args.self.now.entries c.args.path.now
