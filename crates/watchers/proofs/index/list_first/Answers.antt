use Rattle.std.proofs.Common.{◌∙◌, ap, is_some}
use Rattle.std.specs.Ordering.{nat_cmp}
use Rattle.std.specs.FinMap.{find}
use Rattle.watchers.specs.Index.{Index, is_listed}
use Rattle.watchers.proofs.SetLemmas.{Units, put_here, listed_here, listed_first}
use Rattle.watchers.proofs.index.list_first.Goals as goal

pub returns-clause-here : goal.returns-clause-here
returns-clause-here c =
    ap (λ (es : Index). is_listed c.args.conn c.args.node es) c.put-2.ensures.entries
    ∙ listed_here c.args.conn c.args.node c.put.new.self c.args.index.now.entries
    (ap (λ (es : Units). is_some (find nat_cmp c.args.conn es)) c.put.ensures.entries ∙ put_here c.args.conn c.args.first.entries)

pub returns-clause-kept : goal.returns-clause-kept
returns-clause-kept c = λ i p there.
    ap (λ (es : Index). is_listed i p es) c.put-2.ensures.entries
    ∙ listed_first c.args.node c.args.index.now.entries i p c.put.new.self c.requires.none there
