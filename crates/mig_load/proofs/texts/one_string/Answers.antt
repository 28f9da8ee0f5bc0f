use Rattle.std.proofs.Common.{◌+◌, length, sym, ap, ◌∙◌, take}
use Rattle.std.proofs.lemmas.Bool.{ne_eqb}
use Rattle.xs_model.specs.Requests.{when}
use Rattle.mig_load.proofs.TextLemmas.{cut_whole}
use Rattle.mig_load.proofs.texts.one_string.Goals as goal

pub returns-else-place-text : goal.returns-else-place-text
returns-else-place-text c =
    let text = c.args.text.now in
    let n = c.in_ok-place.place in
    sym (cut_whole text n c.in_ok-place.ensures.within c.in_ok-place.ensures.cut
    ∙ ap (λ b. when b (take n text)) (ne_eqb (n + 1) (length text) c.if-place-text.false))
