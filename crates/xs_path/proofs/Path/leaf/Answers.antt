use Rattle.std.proofs.Common.{◌+◌, ap, drop, sym, subst, ◌∙◌}
use Rattle.std.proofs.lemmas.List.{take_rest}
use Rattle.xs_model.specs.Paths.{absolute_path}
use Rattle.xs_path.specs.Texts.{IsPathText, leaf_of}
use Rattle.xs_path.proofs.Cuts.{leaf_of-cut}
use Rattle.xs_path.proofs.Path.leaf.Goals as goal

pub returns : goal.returns
returns c =
    let slash = c.last_slash-slash in
    let text = c.deref.ensures.value in
    take_rest c.deref-2.result.now (slash.result + 1)
    ∙ ap (drop (slash.result + 1)) (c.deref-2.ensures.value ∙ sym text)
    ∙ leaf_of-cut c.deref.result.now slash.result (subst IsPathText (sym text) c.self.invariant) slash.ensures.within slash.ensures.slash slash.ensures.last
    ∙ ap (λ l. leaf_of (absolute_path l)) text ∙ ap leaf_of c.self.view_is
