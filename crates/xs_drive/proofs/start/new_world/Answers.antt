use Rattle.std.proofs.Common.{ℕ, List, [], ◌∷◌, refl, sym, ap, subst, ◌∙◌}
use Rattle.std.proofs.lemmas.Result.{IfOk-weaker}
use Rattle.std.specs.Ordering.{nat_cmp}
use Rattle.std.specs.FinMap.{put}
use Rattle.machine_model.specs.declared.Globals.{Globals}
use Rattle.machine_model.specs.Machine.{new_machine}
use Rattle.world_model.specs.Worlds.{empty_channel}
use Rattle.world_core.specs.Stands.{StandsFor, begun}
use Rattle.xs_drive.proofs.start.new_world.Goals as goal

pub returns : goal.returns
returns c =
    let inboxes = sym (c.in_ok-add.ensures.ok ∙ ap (put nat_cmp 1 c.in_ok-new.field-0) c.new-ins.ensures ∙ ap (λ (i : List ℕ). (1, i) ∷ []) c.in_ok-new.ensures) in
    let daemon = c.in_ok-new-2.ensures in
    IfOk-weaker c.start.result _ _ (λ world begins.
    subst (λ (g : Globals). StandsFor world (begun new_machine g ((1, empty_channel) ∷ []))) daemon.globals
    (begins.stands new_machine ((1, empty_channel) ∷ []) daemon.stands inboxes (sym daemon.unsent) (sym daemon.rests) refl)) c.start.ensures.begins
