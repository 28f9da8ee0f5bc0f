use Rattle.std.proofs.Common.{◌∙◌, sym}
use Rattle.machine_model.specs.History.{unsent_to}
use Rattle.watchers.specs.Owing.{special_bytes}
use Rattle.watchers.proofs.WalkLemmas.{walk_last, none_above}
use Rattle.watchers.proofs.SentLemmas.{special_absent}
use Rattle.watchers.proofs.owing.owe_special_each.Goals as goal

pub returns : goal.returns
returns c =
    let specs = c.args.conns.now in
    let watched = c.args.watchers.now in
    let special = c.args.special.now in
    walk_last (special_bytes specs watched special) (λ i. unsent_to i c.args.owed.now) c.conns.at
    (λ i gt. special_absent specs watched i (none_above c.conns.at specs (sym c.next_after.ensures.next ∙ c.in_default.is) i gt) special)
    (λ i. unsent_to i c.conns.owed) c.conns.invariant
