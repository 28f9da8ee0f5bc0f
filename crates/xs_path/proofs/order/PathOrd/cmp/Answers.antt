use Rattle.std.proofs.Common.{sym, ◌∙◌}
use Rattle.xs_model.specs.Paths.{path_cmp}
use Rattle.xs_model.specs.Laws.{text_cmp}
use Rattle.xs_path.proofs.Ordered.{path_cmp-absolute_path}
use Rattle.xs_path.proofs.order.PathOrd.cmp.Goals as goal

pub returns : goal.returns
returns c =
    c.compare.ensures ∙ (λ i. text_cmp (c.deref.ensures.value i) (c.deref-2.ensures.value i))
    ∙ sym (path_cmp-absolute_path c.self.inside.text.items c.other.inside.text.items c.self.invariant.absolute c.other.invariant.absolute)
    ∙ (λ i. path_cmp (c.self.view_is i) (c.other.view_is i))
