use Rattle.std.proofs.Common.{length, ap, ◌∙◌}
use Rattle.std.specs.Option.{option_map}
use Rattle.std.specs.Ordering.{nat_cmp}
use Rattle.std.specs.FinMap.{find}
use Rattle.store_parts.specs.Kept.{Kept}
use Rattle.daemon.proofs.SubmitLemmas.{unsent_count}
use Rattle.daemon.proofs.service.Daemon.unsent.Goals as goal

pub returns : goal.returns
returns c =
    c.unsent.ensures ∙ unsent_count c.args.conn c.self.inside.peers.queues ∙ ap (λ (k : Kept). option_map length (find nat_cmp c.args.conn k.unsent)) c.self.view_is
