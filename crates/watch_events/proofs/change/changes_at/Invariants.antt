use Rattle.std.proofs.Common.{◌≡◌, ◌++◌, drop}
use Rattle.std.specs.Prelude.{filter_map}
use Rattle.xs_model.specs.Watches.{event_at}
use Rattle.watch_events.proofs.change.changes_at.Given as goal

-- so far, and what is left
abbrev pub invariant-loop-path : goal.invariant-loop-path
invariant-loop-path g l =
    l.changes ++ filter_map (event_at (g.A.Nodes.nodes l.before) (g.B.Nodes.nodes l.after)) (drop l.path-index l.paths)
    ≡ filter_map (event_at (g.A.Nodes.nodes l.before) (g.B.Nodes.nodes l.after)) l.paths
