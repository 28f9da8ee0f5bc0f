use Rattle.std.proofs.Common.{◌≡◌, ◌++◌, List, ℕ, flat_map, sym, ap, ◌∙◌}
use Rattle.std.proofs.lemmas.Result.{on_ok_weaker}
use Rattle.xs_model.specs.Messages.{message_bytes}
use Rattle.xs_model.specs.Perms.{Caller}
use Rattle.xs_model.specs.Watches.{special_owed}
use Rattle.machine_model.specs.History.{unsent_to}
use Rattle.watch_table.specs.Tables.{watches_in}
use Rattle.watchers.specs.Owing.{special_bytes, only_for}
use Rattle.watchers.proofs.SentLemmas.{special_found}
use Rattle.watchers.proofs.owing.owe_special.Goals as goal

pub returns : goal.returns
returns c =
    let watches = c.in-Some-watches.watches.now in
    let special = c.args.special.now in
    let bytes : c.in_ok-messages.messages ≡ special_bytes c.args.conns.now c.args.watchers.now special c.args.conn =
    c.in_ok-messages.ensures.bytes c.caller-domid.result.1
    ∙ ap (λ (caller : Caller). flat_map message_bytes (special_owed caller (watches_in watches) special)) c.caller-domid.ensures
    ∙ sym (special_found c.args.conns.now c.args.watchers.now c.args.conn c.in-Some.spec watches (sym c.in-Some.ensures.found) (sym c.in-Some-watches.ensures) special)
    in
    on_ok_weaker c.append.result
    (λ h i. h i ∙ ap (λ (bs : List ℕ). unsent_to i c.args.owed.now ++ only_for c.args.conn bs i) bytes)
    c.append.ensures.ok
