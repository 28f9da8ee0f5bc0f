use Rattle.std.proofs.Common.{◌≡◌, ◌++◌, true, List, ℕ, sym, ap, subst, ◌∙◌}
use Rattle.xs_model.specs.Messages.{message_bytes}
use Rattle.xs_model.specs.Watches.{first_event}
use Rattle.xs_model.specs.Wholes.{whole_behind}
use Rattle.watch_table.specs.Tables.{watch_of}
use Rattle.watchers.proofs.WholeLemmas.{whole_first}
use Rattle.watchers.proofs.messages.for_new.Goals as goal

pub returns-clause-whole : goal.returns-clause-whole
returns-clause-whole c =
    let w = watch_of c.args.wpath.now c.args.token.now in
    subst (λ (bytes : List ℕ). whole_behind 0 bytes ≡ true)
    (sym (c.in_ok-push_first.ensures.ok ∙ ap (λ (before : List ℕ). before ++ message_bytes (first_event w)) c.new-bytes.ensures)) (whole_first w c.requires)
