use Rattle.std.proofs.Common.{◌∙◌, ap, Err}
use Rattle.wire_codec.proofs.PathLemmas.{path_wanted}
use Rattle.wire_codec.proofs.payload.path.Goals as goal

pub returns-in-Err-NoMemory : goal.returns-in-Err-NoMemory
returns-in-Err-NoMemory c = path_wanted c.args.bytes.now c.args.domid c.read.result c.read.ensures.fault (c.in-Err-NoMemory.is ∙ ap Err c.in-Err-NoMemory.field-0-is)
