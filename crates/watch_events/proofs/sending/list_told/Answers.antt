use Rattle.std.proofs.Common.{◌≡◌, List, ℕ, ◌++◌, [], ◌∷◌, ap, ◌∙◌}
use Rattle.std.proofs.lemmas.Result.{IfOk-weaker}
use Rattle.xs_model.specs.Messages.{message_bytes}
use Rattle.xs_model.specs.Watches.{event_message}
use Rattle.watch_events.proofs.ToldLemmas.{listed_one}
use Rattle.watch_events.proofs.sending.list_told.Goals as goal

pub returns : goal.returns
returns c =
    let token = c.in-Some.token.now in
    let name = c.named.result.now in
    let bytes : c.push_event.new.into ≡ message_bytes (event_message name token) =
    c.in_ok-push_event.ensures.ok ∙ ap (λ (l : List ℕ). l ++ message_bytes (event_message name token)) c.new-message.ensures
    in
    let one = listed_one c.args.domid c.args.path.now c.args.watches.now c.args.place c.in-Some.wpath.now token name c.in-Some.ensures.watch (c.named.ensures.name token) in
    IfOk-weaker c.push.result _ _ (λ _ is. is ∙ ap (λ (more : List (List ℕ)). c.args.messages.now ++ more) (ap (λ (l : List ℕ). l ∷ []) bytes ∙ one)) c.push.ensures.ok
