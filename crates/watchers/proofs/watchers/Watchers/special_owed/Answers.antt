use Rattle.std.proofs.Common.{◌++◌, ◌∙◌, [], ap, sym}
use Rattle.machine_model.specs.History.{Unsent, unsent_to}
use Rattle.watchers.specs.Owing.{special_bytes}
use Rattle.watchers.proofs.SentLemmas.{special_sent}
use Rattle.watchers.proofs.watchers.Watchers.special_owed.Goals as goal

pub returns : goal.returns
returns c = λ i.
    let specs = c.args.conns.now in
    let watched = c.args.self.now in
    let special = c.args.special.now in
    c.in_ok-owe_special_each.ensures i
    ∙ ap (λ (unsent : Unsent). unsent_to i unsent ++ special_bytes specs watched special i) c.new-owed.ensures
    ∙ sym (special_sent [] [] specs watched c.is_table.ensures.rising i special)
