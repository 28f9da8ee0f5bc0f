use Rattle.std.proofs.Common.{ap, ◌∙◌}
use Rattle.xs_model.specs.Wholes.{whole_behind}
use Rattle.owed_bytes.proofs.OwedLemmas.{whole_there}
use Rattle.owed_bytes.proofs.owed.Owed.bytes.Goals as goal

pub returns-in-Some-clause-whole : goal.returns-in-Some-clause-whole
returns-in-Some-clause-whole c =
    ap (whole_behind 0) c.as_slice.ensures ∙ whole_there c.args.conn c.in-Some.bytes.now c.self.inside.messages.entries c.self.invariant c.in-Some.ensures.value
