use Rattle.std.proofs.Common.{◌+◌}
use Rattle.guest_script.proofs.DraftLemmas.{whole_script}
use Rattle.guest_script.proofs.SoundLemmas.{script_of_sound}
use Rattle.guest_script.proofs.script.read_script.Goals as goal

pub returns-clause-sound : goal.returns-clause-sound
returns-clause-sound c =
    let l = c.loop-text in
    let whole = whole_script l.draft (l.line + 1) l.rest.now c.args.bytes.now c.in_default-cut_line.ensures l.invariant.left in
    rw (← c.into_script.ensures) at (script_of_sound c.args.bytes.now l.draft whole).events

pub returns-clause-sound_domains : goal.returns-clause-sound_domains
returns-clause-sound_domains c =
    let l = c.loop-text in
    let whole = whole_script l.draft (l.line + 1) l.rest.now c.args.bytes.now c.in_default-cut_line.ensures l.invariant.left in
    rw (← c.into_script.ensures) at (script_of_sound c.args.bytes.now l.draft whole).domains
