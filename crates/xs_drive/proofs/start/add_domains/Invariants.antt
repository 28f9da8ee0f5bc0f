use Rattle.std.proofs.Common.{map, drop}
use Rattle.world_model.specs.Worlds.{World}
use Rattle.world_model.specs.Transcripts.{with_domains}
use Rattle.guest_script.specs.Views.{domain_view}
use Rattle.world_core.specs.Stands.{StandsFor}
use Rattle.xs_drive.proofs.StartLemmas.{Started}
use Rattle.xs_drive.proofs.start.add_domains.Given as goal

-- the domains to come lead from the world at hand to the world of all domains
abbrev pub invariant-loop-line : goal.invariant-loop-line
invariant-loop-line l =
    (w : World) → StandsFor l.fn.world w → Started l.world (drop l.line-index (map domain_view l.domains)) (with_domains (map domain_view l.domains) w)
