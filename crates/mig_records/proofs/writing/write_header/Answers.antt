use Rattle.std.proofs.Common.{rules}
use Rattle.stream_model.specs.Spelling.{header}
use Rattle.mig_records.proofs.writing.write_header.Goals as goal

pub returns : goal.returns
unfolding header
returns c = search rules
