use Rattle.std.proofs.Common.{[], not}
use Rattle.world_model.specs.Transcripts.{is_handover}
use Rattle.guest_script.specs.Views.{event_view}
use Rattle.xs_drive.proofs.CountLemmas.{counts_one}
use Rattle.xs_drive.proofs.StepLemmas.{prints_nothing, same_told}
use Rattle.xs_drive.proofs.counting.count_step.Goals as goal

pub returns-in_default-clause-ok : goal.returns-in_default-clause-ok
returns-in_default-clause-ok g c =
    let event = event_view c.args.event.now in
    let v = g.V.Vault in
    let same = same_told v.puts v.gets v.faults v.honest (not (is_handover event)) c.args.vault.now c.step.new.vault c.step.ensures.vault in
    counts_one c.args.world.now c.step.new.self event c.step.result c.args.counts.now c.count.new.self _ _ c.count.ensures c.in_default.not-NoMemory c.step.ensures.step same c.step.ensures.hands_over

pub returns-in-NoMemory-clause-nothing : goal.returns-in-NoMemory-clause-nothing
returns-in-NoMemory-clause-nothing g c =
    let event = event_view c.args.event.now in
    let v = g.V.Vault in
    let same = same_told v.puts v.gets v.faults v.honest (not (is_handover event)) c.args.vault.now c.step.new.vault c.step.ensures.vault in
    prints_nothing c.args.world.now c.step.new.self event c.step.result [] [] _ _ same c.step.ensures.hands_over
