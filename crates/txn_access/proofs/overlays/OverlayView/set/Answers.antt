use Rattle.std.proofs.Common.{Some, sym, ap, subst, ◌∙◌}
use Rattle.mark_model.specs.Marks.{overlay}
use Rattle.xs_model.specs.Trees.{IsTree}
use Rattle.node_tree.proofs.Shape.{IsTree-put}
use Rattle.txn_access.proofs.Seen.{write_seen}
use Rattle.txn_access.proofs.overlays.OverlayView.set.Goals as goal

pub returns-clause-nodes : goal.returns-clause-nodes
returns-clause-nodes c =
    let tree = c.args.self.now.tree.now.nodes in
    let ms = c.args.self.now.txn.now.marks in
    ap (overlay tree) c.write.ensures.marks ∙ write_seen tree ms c.args.path (Some c.args.node) c.is_kept.ensures.tree.rising c.is_kept-2.ensures.rising

pub invariant_of-self : goal.invariant_of-self
invariant_of-self c =
    let tree = c.args.self.now.tree.now.nodes in
    let ms = c.args.self.now.txn.now.marks in
    let is = ap (overlay tree) c.write.ensures.marks ∙ write_seen tree ms c.args.path (Some c.args.node) c.is_kept.ensures.tree.rising c.is_kept-2.ensures.rising in
    record { seen = subst IsTree (sym is) (IsTree-put (overlay tree ms) c.args.path c.args.node c.args.self.now.seen c.requires.parent c.requires.entry) }
