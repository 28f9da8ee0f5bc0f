use Rattle.std.proofs.Common.{◌∙◌}
use Rattle.xs_path.proofs.Ordered.{same_texts}
use Rattle.std.specs.Ordering.{eq_by_cmp}
use Rattle.xs_model.specs.Paths.{path_cmp}
use Rattle.xs_path.proofs.order.PathPartialEq.eq.Goals as goal

pub returns : goal.returns
returns c =
    c.eq.ensures ∙ same_texts c.self.inside.text.items c.other.inside.text.items c.self.invariant.absolute c.other.invariant.absolute
    ∙ (λ i. eq_by_cmp path_cmp (c.self.view_is i) (c.other.view_is i))
