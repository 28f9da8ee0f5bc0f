use Rattle.txn_normal.proofs.MarkLemmas.{one_marked}
use Rattle.txn_normal.proofs.marks.marked.Goals as goal

pub left-preserved : goal.left-preserved
left-preserved c =
    one_marked c.args.tree.now.nodes c.args.said.entries c.is_rising.ensures c.left.txn.marks c.mark.new.txn.marks c.left.left.entries c.pop_first.new.self.entries (c.in-Some.path, c.in-Some.said)
    c.in-Some.ensures.first c.in-Some.ensures.rest c.in_ok-mark.ensures c.left.invariant
