use Rattle.std.proofs.Common.{List, ℕ, ◌++◌, ap, ◌∙◌}
use Rattle.std.proofs.lemmas.Result.{IfOk-weaker}
use Rattle.watch_events.proofs.ToldLemmas.{told_one}
use Rattle.watch_events.proofs.sending.push_told.Goals as goal

pub returns-in-Some : goal.returns-in-Some
returns-in-Some c =
    let token = c.in-Some.token.now in
    let one = told_one c.args.domid c.args.path.now c.args.watches.now c.args.place c.in-Some.wpath.now token c.named.result.now c.in-Some.ensures.watch (c.named.ensures.name token) in
    IfOk-weaker c.push_event.result _ _ (λ _ is. is ∙ ap (λ (more : List ℕ). c.args.messages.now ++ more) one) c.push_event.ensures.ok
