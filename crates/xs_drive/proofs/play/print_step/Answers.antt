use Rattle.std.proofs.Common.{◌≡◌, ◌++◌, List, ℕ, [], not, subst}
use Rattle.world_model.specs.Transcripts.{said_line, is_handover}
use Rattle.guest_script.specs.Views.{event_view}
use Rattle.xs_drive.proofs.PlayLemmas.{on_ok, always_err}
use Rattle.xs_drive.proofs.StepLemmas.{prints, prints_nothing, same_told}
use Rattle.xs_drive.proofs.play.print_step.Goals as goal

pub returns-in_default-clause-ok : goal.returns-in_default-clause-ok
returns-in_default-clause-ok g c =
    let event = event_view c.args.event.now in
    let v = g.V.Vault in
    let same = same_told v.puts v.gets v.faults v.honest (not (is_handover event)) c.args.vault.now c.step.new.vault c.step.ensures.vault in
    on_ok c.print_said.result _ _
    (λ printed. prints c.args.world.now c.step.new.self event c.step.result c.args.lines.now c.print_said.new.lines _ _ c.in_default.not-NoMemory c.step.ensures.step same c.step.ensures.hands_over
    (subst (λ (t : List ℕ). c.print_said.new.lines ≡ c.args.lines.now ++ said_line event c.step.result t) c.taken.ensures printed))
    c.print_said.ensures.ok

pub returns-in_default-clause-nothing : goal.returns-in_default-clause-nothing
returns-in_default-clause-nothing g c =
    let event = event_view c.args.event.now in
    let v = g.V.Vault in
    let same = same_told v.puts v.gets v.faults v.honest (not (is_handover event)) c.args.vault.now c.step.new.vault c.step.ensures.vault in
    always_err c.print_said.result _ (prints_nothing c.args.world.now c.step.new.self event c.step.result [] [] _ _ same c.step.ensures.hands_over)

pub returns-in-NoMemory-clause-nothing : goal.returns-in-NoMemory-clause-nothing
returns-in-NoMemory-clause-nothing g c =
    let event = event_view c.args.event.now in
    let v = g.V.Vault in
    let same = same_told v.puts v.gets v.faults v.honest (not (is_handover event)) c.args.vault.now c.step.new.vault c.step.ensures.vault in
    prints_nothing c.args.world.now c.step.new.self event c.step.result [] [] _ _ same c.step.ensures.hands_over
