use Rattle.guest_script.specs.Views.{line_view}
use Rattle.guest_script.specs.Drafts.{IsSoundLine}
use Rattle.guest_script.proofs.SoundLemmas.{line_of_sound}
use Rattle.guest_script.proofs.DraftLemmas.{reads_line}
use Rattle.guest_script.proofs.draft.Draft.read.Goals as goal

pub add-requires : goal.add-requires
add-requires c = rw c.in_ok-line.ensures at (line_of_sound c.args.text.now)

pub returns : goal.returns
returns c =
    let line = line_view c.in_ok-line.line in
    let sound : IsSoundLine line = rw c.in_ok-line.ensures at (line_of_sound c.args.text.now) in
    reads_line c.args.self.now c.add.new.self c.args.text.now line c.add.result c.in_ok-line.ensures sound c.add.ensures
