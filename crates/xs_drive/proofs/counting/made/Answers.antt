use Rattle.std.proofs.Common.{◌≡◌, Result, Err, is_ok, sym, ap, subst, ◌∙◌}
use Rattle.std.proofs.lemmas.Bool.{false≢true}
use Rattle.world_model.specs.Scripts.{Script, LineFault, script_of}
use Rattle.guest_script.specs.declared.fault.ScriptFault.{ScriptFault}
use Rattle.guest_script.specs.Views.{IsScript}
use Rattle.xs_drive.proofs.counting.made.Goals as goal

pub unreachable-requires : goal.unreachable-requires
unreachable-requires c =
    let is : script_of c.as_slice.result.now ≡ _ =
    subst (λ (f : ScriptFault). IsScript (Err f) (script_of c.as_slice.result.now)) c.in-Err-Line.field-0-is c.in-Err-Line.ensures.script in
    let reads = c.made_scripts_read.ensures c.args.seed c.args.count in
    let text = c.as_slice.ensures ∙ c.in_ok-text.ensures.made in
    absurd (false≢true (ap (λ (r : Result Script LineFault). is_ok r) (sym is ∙ ap script_of text) ∙ reads))
