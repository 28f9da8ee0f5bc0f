use Rattle.std.proofs.Common.{sym, ap, ◌∙◌}
use Rattle.xs_model.specs.Paths.{text}
use Rattle.xs_path.proofs.Splitting.{text-absolute_path}
use Rattle.xs_path.proofs.Path.bytes.Goals as goal

pub returns-clause-text : goal.returns-clause-text
returns-clause-text c =
    c.deref.ensures.value ∙ sym (text-absolute_path c.self.inside.text.items c.self.invariant.absolute) ∙ ap text c.self.view_is
