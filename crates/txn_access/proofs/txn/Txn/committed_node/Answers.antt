use Rattle.std.proofs.Common.{sym, ap, ◌∙◌}
use Rattle.mark_model.specs.Marks.{mark_at}
use Rattle.txn_access.specs.Sights.{left_by}
use Rattle.txn_access.proofs.Seen.{left_at}
use Rattle.txn_access.proofs.txn.Txn.committed_node.Goals as goal

pub returns : goal.returns
returns c =
    let ms = c.args.self.now.marks in
    let p = c.args.path.now in
    c.left.ensures ∙ ap (left_by (mark_at ms p)) c.node.ensures.node ∙ sym (left_at c.args.tree.now.nodes ms p c.is_kept.ensures.rising)
