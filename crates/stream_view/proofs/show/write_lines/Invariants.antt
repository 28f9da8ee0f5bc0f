use Rattle.std.proofs.Common.{◌++◌, length}
use Rattle.xs_base.specs.Faults.{NeverFalls}
use Rattle.stream_model.specs.View.{lines_from, view_text}
use Rattle.program_io.specs.Ends.{AppendsBut}
use Rattle.stream_view.proofs.show.write_lines.Given as goal

-- what was written, the lines in the buffer and those still to come are all lines
abbrev pub invariant-loop-lines : goal.invariant-loop-lines
invariant-loop-lines g l =
    let sink = g.K.Sink in
    record {
      all : AppendsBut (sink.written l.fn.out) (sink.written l.out) (view_text l.fn.reader.bytes l.fn.reader.records) (l.lines ++ lines_from l.reader.at l.reader.bytes l.reader.records);
      counts : NeverFalls (sink.faults l.fn.out) (sink.faults l.out);
    }

abbrev pub decreases-loop-lines : goal.decreases-loop-lines
decreases-loop-lines g l = length l.reader.records
