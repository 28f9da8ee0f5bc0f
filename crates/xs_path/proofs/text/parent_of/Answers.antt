use Rattle.xs_path.proofs.Cuts.{parents-max, IsPathText-max}
use Rattle.xs_path.proofs.text.parent_of.Goals as goal

pub returns-clause-parent : goal.returns-clause-parent
returns-clause-parent c =
    parents-max c.args.text.now c.last_slash.result c.max.result c.requires.text c.last_slash.ensures.within c.last_slash.ensures.slash c.last_slash.ensures.last c.requires.below c.max.ensures

pub returns-clause-text : goal.returns-clause-text
returns-clause-text c =
    IsPathText-max c.args.text.now c.last_slash.result c.max.result c.requires.text c.last_slash.ensures.within c.last_slash.ensures.slash c.max.ensures
