use Rattle.xs_path.proofs.Below.{below_same, below_else, not_below}
use Rattle.xs_path.proofs.text.is_below.Goals as goal

pub returns-then-text-other : goal.returns-then-text-other
returns-then-text-other c = below_same c.args.text.now c.args.other.now c.starts_with.result c.starts_with.ensures.value c.if-starts_with.true c.if-text-other.true

pub returns-else-text-other : goal.returns-else-text-other
returns-else-text-other c = below_else c.args.text.now c.args.other.now c.starts_with.result c.requires.text c.requires.other c.if-other-eq1.false c.starts_with.ensures.value c.if-starts_with.true c.if-text-other.false

pub returns-else-starts_with : goal.returns-else-starts_with
returns-else-starts_with c = not_below c.args.text.now c.args.other.now c.starts_with.result c.requires.text.absolute c.requires.other.absolute c.if-other-eq1.false c.starts_with.ensures.value c.if-starts_with.false
