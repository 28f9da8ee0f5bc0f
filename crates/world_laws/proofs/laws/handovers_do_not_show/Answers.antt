use Rattle.world_laws.proofs.HandoverLemmas.{script_without}
use Rattle.world_laws.proofs.ScriptLemmas.{script_left, transcript_left}
use Rattle.world_laws.proofs.laws.handovers_do_not_show.Goals as goal

pub returns : goal.returns
returns c = record {
  transcripts = script_without;
  scripts = script_left;
  texts = transcript_left;
}
