use Rattle.std.proofs.Common.{◌≡◌, ◌++◌, flat_map, true, List, ℕ, None, sym, ap, subst, ◌∙◌}
use Rattle.xs_model.specs.Messages.{message_bytes}
use Rattle.xs_model.specs.Watches.{special_owed}
use Rattle.xs_model.specs.Wholes.{whole_behind}
use Rattle.watch_table.specs.Tables.{watches_in}
use Rattle.watchers.proofs.WholeLemmas.{whole_special}
use Rattle.watchers.proofs.messages.for_special.Goals as goal

pub returns-clause-bytes : goal.returns-clause-bytes
returns-clause-bytes c = λ target.
    c.in_ok-push_special.ensures.ok target
    ∙ ap (λ (before : List ℕ). before ++ flat_map message_bytes (special_owed (record { domid = c.args.domid; target = target }) (watches_in c.args.watches.now) c.args.special.now)) c.new-bytes.ensures

pub returns-clause-whole : goal.returns-clause-whole
returns-clause-whole c =
    subst (λ (bytes : List ℕ). whole_behind 0 bytes ≡ true)
    (sym (c.in_ok-push_special.ensures.ok None
    ∙ ap (λ (before : List ℕ). before ++ flat_map message_bytes (special_owed (record { domid = c.args.domid; target = None }) (watches_in c.args.watches.now) c.args.special.now)) c.new-bytes.ensures))
    (whole_special (record { domid = c.args.domid; target = None }) c.args.watches.now c.is_made.ensures.each c.args.special.now)
