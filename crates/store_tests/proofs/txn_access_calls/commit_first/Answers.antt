use Rattle.node_tree.proofs.Shape.{IsTree-put}
use Rattle.store_tests.proofs.txn_access_calls.commit_first.Goals as goal

pub commit-requires : goal.commit-requires
commit-requires c = rw c.requires.one (IsTree-put c.args.tree.now.nodes c.args.path.now c.args.node.now c.is_kept.ensures.tree c.requires.parent c.requires.entry)
