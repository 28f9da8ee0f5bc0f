use Rattle.std.proofs.Common.{map, Err, inr, ap, subst, ◌∙◌}
use Rattle.kept_model.specs.declared.fault.LoadFault.{LoadFault}
use Rattle.guest_script.specs.Views.{event_view, script_view}
use Rattle.xs_drive.specs.Ends.{IsPlayable, IsRefused, PlaysAll, PlaysFront, PlaysFrontOrNone}
use Rattle.xs_drive.proofs.DriveLemmas.{of_whole, told_of, refused, not_refused, front_plays, all_plays, not_begun, load_of, all_counts, front_counts}
use Rattle.xs_drive.proofs.FormLemmas.{events_move}
use Rattle.xs_drive.proofs.StepLemmas.{told_by}
use Rattle.xs_drive.proofs.run.run.Goals as goal

pub play-requires : goal.play-requires
play-requires g c = events_move (map event_view c.in-Ok-read_script.script.events) c.in-Ok-read_script.ensures.sound

pub returns-in-Ok-play-clause-done : goal.returns-in-Ok-play-clause-done
returns-in-Ok-play-clause-done g c =
    let source = g.S.Source in
    let sink = g.K.Sink in
    let v = g.V.Vault in
    let told = told_by v.puts v.gets v.faults v.honest in
    λ _. of_whole (source.left c.args.src.now) (source.left c.read_all.new.src) c.in-Ok.text
    (λ text. PlaysAll text (sink.written c.args.out.now) (sink.written c.play.new.out) (told c.args.vault.now) (told c.play.new.vault)) c.in-Ok.ensures.bytes c.in-Ok.ensures.end
    (all_plays c.as_slice.result.now c.in-Ok.text (script_view c.in-Ok-read_script.script) c.in-Ok-start.world c.as_slice.ensures c.in-Ok.ensures.short c.in-Ok-read_script.ensures.script c.in-Ok-start.ensures.ok _ _ _ _ c.in-Ok-play.ensures.ok)

pub returns-in-Err-WriteFault-clause-stopped : goal.returns-in-Err-WriteFault-clause-stopped
returns-in-Err-WriteFault-clause-stopped g c =
    let source = g.S.Source in
    let sink = g.K.Sink in
    let v = g.V.Vault in
    let told = told_by v.puts v.gets v.faults v.honest in
    λ _. of_whole (source.left c.args.src.now) (source.left c.read_all.new.src) c.in-Ok.text
    (λ text. PlaysFront text (sink.written c.args.out.now) (sink.written c.play.new.out) (told c.args.vault.now) (told c.play.new.vault)) c.in-Ok.ensures.bytes c.in-Ok.ensures.end
    (front_plays c.as_slice.result.now c.in-Ok.text (script_view c.in-Ok-read_script.script) c.in-Ok-start.world c.as_slice.ensures c.in-Ok.ensures.short c.in-Ok-read_script.ensures.script c.in-Ok-start.ensures.ok _ _ _ _ c.in-Err-WriteFault.ensures.err)

pub returns-clause-starved : goal.returns-clause-starved
returns-clause-starved g c =
    let source = g.S.Source in
    let sink = g.K.Sink in
    let v = g.V.Vault in
    let told = told_by v.puts v.gets v.faults v.honest in
    λ _. of_whole (source.left c.args.src.now) (source.left c.read_all.new.src) c.in-Ok.text
    (λ text. PlaysFrontOrNone text (sink.written c.args.out.now) (sink.written c.play.new.out) (told c.args.vault.now) (told c.play.new.vault)) c.in-Ok.ensures.bytes c.in-Ok.ensures.end
    (inr (front_plays c.as_slice.result.now c.in-Ok.text (script_view c.in-Ok-read_script.script) c.in-Ok-start.world c.as_slice.ensures c.in-Ok.ensures.short c.in-Ok-read_script.ensures.script c.in-Ok-start.ensures.ok _ _ _ _ c.in-Err-NoMemory-play.ensures.err))

-- before the run began
pub returns-in-Err-NoMemory-clause-starved : goal.returns-in-Err-NoMemory-clause-starved
returns-in-Err-NoMemory-clause-starved g c =
    let v = g.V.Vault in
    λ _. not_begun (g.S.Source.left c.args.src.now) (g.K.Sink.written c.args.out.now) (told_by v.puts v.gets v.faults v.honest c.args.vault.now)

pub returns-in-Err-NoMemory-read_script-clause-starved : goal.returns-in-Err-NoMemory-read_script-clause-starved
returns-in-Err-NoMemory-read_script-clause-starved g c =
    let v = g.V.Vault in
    λ _. not_begun (g.S.Source.left c.args.src.now) (g.K.Sink.written c.args.out.now) (told_by v.puts v.gets v.faults v.honest c.args.vault.now)

pub returns-in-Err-NoMemory-start-clause-starved : goal.returns-in-Err-NoMemory-start-clause-starved
returns-in-Err-NoMemory-start-clause-starved g c =
    let v = g.V.Vault in
    λ _. not_begun (g.S.Source.left c.args.src.now) (g.K.Sink.written c.args.out.now) (told_by v.puts v.gets v.faults v.honest c.args.vault.now)

-- a stream that tells no state
pub returns-in-Err-Load-clause-load : goal.returns-in-Err-Load-clause-load
returns-in-Err-Load-clause-load g c =
    let source = g.S.Source in
    let not = c.start.ensures.load c.in-Err-Load.fault (c.in-Err-Load.is ∙ ap Err c.in-Err-Load.field-0-is) in
    let is = refused c.as_slice.result.now c.in-Ok.text (script_view c.in-Ok-read_script.script) c.in-Err-Load.fault c.as_slice.ensures c.in-Ok.ensures.short c.in-Ok-read_script.ensures.script not in
    rw c.in-Err-Load.field-0-is
    (λ fault e. of_whole (source.left c.args.src.now) (source.left c.read_all.new.src) c.in-Ok.text (λ text. IsRefused text fault) c.in-Ok.ensures.bytes c.in-Ok.ensures.end
    (subst (λ (f : LoadFault). IsRefused c.in-Ok.text f) (load_of c.in-Err-Load.fault fault e) is))

pub returns-in-Err-Load-clause-complete : goal.returns-in-Err-Load-clause-complete
returns-in-Err-Load-clause-complete g c =
    let source = g.S.Source in
    let not = c.start.ensures.load c.in-Err-Load.fault (c.in-Err-Load.is ∙ ap Err c.in-Err-Load.field-0-is) in
    let is = refused c.as_slice.result.now c.in-Ok.text (script_view c.in-Ok-read_script.script) c.in-Err-Load.fault c.as_slice.ensures c.in-Ok.ensures.short c.in-Ok-read_script.ensures.script not in
    λ playable source_stood sink_stood some. not_refused c.in-Ok.text c.in-Err-Load.fault is
    (told_of (source.left c.args.src.now) (source.left c.read_all.new.src) c.in-Ok.text IsPlayable c.in-Ok.ensures.bytes c.in-Ok.ensures.end some playable)

-- the faults of the vault
pub returns-in-Ok-play-clause-vault_counts : goal.returns-in-Ok-play-clause-vault_counts
returns-in-Ok-play-clause-vault_counts g c =
    all_counts (script_view c.in-Ok-read_script.script) c.in-Ok-start.world _ _ _ _ c.in-Ok-start.ensures.ok c.in-Ok-play.ensures.ok

pub returns-in-Err-WriteFault-clause-vault_counts : goal.returns-in-Err-WriteFault-clause-vault_counts
returns-in-Err-WriteFault-clause-vault_counts g c =
    front_counts (script_view c.in-Ok-read_script.script) c.in-Ok-start.world _ _ _ _ c.in-Ok-start.ensures.ok c.in-Err-WriteFault.ensures.err

pub returns-clause-vault_counts : goal.returns-clause-vault_counts
returns-clause-vault_counts g c =
    front_counts (script_view c.in-Ok-read_script.script) c.in-Ok-start.world _ _ _ _ c.in-Ok-start.ensures.ok c.in-Err-NoMemory-play.ensures.err
