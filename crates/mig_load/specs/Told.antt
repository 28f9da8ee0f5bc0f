-- What bytes tell before what is said of transactions is joined to the tree. This project's own.
use Rattle.std.specs.Prelude.{ℕ, List, Result, Ok, Err}
use Rattle.stream_model.specs.declared.fault.StreamFault.{StreamFault}
use Rattle.stream_model.specs.Record.{StreamRecord}
use Rattle.stream_model.specs.Reading.{stream_of}
use Rattle.kept_model.specs.declared.fault.LoadFault.{LoadFault}
use Rattle.kept_model.specs.declared.fault.LoadFault.TheVariants.{Stream}
use Rattle.kept_model.specs.Loading.{Loading, none_came, load_from}

abbrev pub told_by : Result (List StreamRecord) StreamFault → Result Loading LoadFault
told_by (Ok records) = load_from 0 none_came records
told_by (Err fault) = Err (Stream fault)

abbrev pub told_by_bytes : List ℕ → Result Loading LoadFault
told_by_bytes bytes = told_by (stream_of bytes)
