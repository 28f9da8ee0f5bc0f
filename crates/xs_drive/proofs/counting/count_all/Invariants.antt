use Rattle.std.proofs.Common.{map, drop}
use Rattle.world_model.specs.Worlds.{World}
use Rattle.guest_script.specs.Views.{event_view}
use Rattle.world_core.specs.Stands.{StandsFor}
use Rattle.xs_drive.proofs.CountLemmas.{Counting}
use Rattle.xs_drive.proofs.counting.count_all.Given as goal

-- from each world that the code's world stood for the run goes on
abbrev pub invariant-loop-event : goal.invariant-loop-event
invariant-loop-event g l =
    let v = g.V.Vault in
    (w : World) → StandsFor l.fn.world w → Counting w (map event_view l.events)
    (record { puts = v.puts l.fn.vault; gets = v.gets l.fn.vault; faults = v.faults l.fn.vault; honest = v.honest l.fn.vault })
    l.world (drop l.event-index (map event_view l.events))
    (record { puts = v.puts l.vault; gets = v.gets l.vault; faults = v.faults l.vault; honest = v.honest l.vault })
    l.counts
