use Rattle.std.proofs.Common.{sym, ap, ◌∙◌}
use Rattle.mark_model.specs.Marks.{mark_at}
use Rattle.txn_access.specs.Sights.{seen_by}
use Rattle.txn_access.proofs.Seen.{seen_at}
use Rattle.txn_access.proofs.overlays.OverlayView.node.Goals as goal

pub returns-clause-node : goal.returns-clause-node
returns-clause-node c =
    let ms = c.args.self.now.txn.now.marks in
    let p = c.args.path.now in
    c.over.ensures ∙ ap (seen_by (mark_at ms p)) c.node.ensures.node ∙ sym (seen_at c.args.self.now.tree.now.nodes ms p c.is_kept.ensures.rising)
