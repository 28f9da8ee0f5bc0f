use Rattle.std.proofs.Common.{◌∙◌}
use Rattle.txn_normal.proofs.SameLemmas.{perms_same}
use Rattle.txn_normal.proofs.same.same_perms.Goals as goal

pub returns : goal.returns
returns c = c.eq.ensures ∙ perms_same c.args.perms.now c.args.others.now
