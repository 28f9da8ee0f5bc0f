use Rattle.std.proofs.Common.{is_some, sym, ap, ◌∙◌}
use Rattle.mark_model.specs.Marks.{mark_at}
use Rattle.txn_access.specs.Sights.{seen_by}
use Rattle.txn_access.proofs.PresenceLemmas.{some_copied}
use Rattle.txn_access.proofs.Seen.{seen_at}
use Rattle.txn_access.proofs.txn.Txn.shows.Goals as goal

pub returns : goal.returns
returns c =
    let ms = c.args.self.now.marks in
    let p = c.args.path.now in
    c.is_some.ensures ∙ some_copied c.over.result ∙ ap is_some (c.over.ensures ∙ ap (seen_by (mark_at ms p)) c.node.ensures.node ∙ sym (seen_at c.args.tree.now.nodes ms p c.is_kept.ensures.rising))
