use Rattle.std.proofs.Common.{List, ℕ, ◌++◌, ap, ◌∙◌}
use Rattle.std.proofs.lemmas.Result.{IfOk-weaker}
use Rattle.watch_events.proofs.ToldLemmas.{special_read}
use Rattle.watch_events.proofs.debts.push_special.Goals as goal

pub returns-clause-ok : goal.returns-clause-ok
returns-clause-ok c =
    let sent = c.as_slice.ensures ∙ c.in_ok-messages.ensures in
    let listed = c.deref.result.now in
    IfOk-weaker c.push.result _ _
    (λ _ is target. is ∙ ap (λ (more : List ℕ). c.args.into.now ++ more)
    (special_read c.args.special.now c.args.domid target c.args.watches.now c.in_ok-places.places.items listed c.as_slice.result.now c.if-domid-ne0.false c.deref.ensures.value c.in_ok-places.ensures.each sent))
    c.push.ensures.ok
