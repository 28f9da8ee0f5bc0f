-- The statuses of `view`. This project's own.
use Rattle.std.specs.Prelude.{ℕ, Bool, true, false}
use Rattle.stream_view.specs.declared.status.ViewStatus.{ViewStatus}
use Rattle.stream_view.specs.declared.status.ViewStatus.TheVariants.{Done, Usage, Hex, TooLong, ReadFault, WriteFault, NoMemory, Stream}

abbrev pub number_of_status : ViewStatus → ℕ
number_of_status Done = 0
number_of_status Usage = 2
number_of_status Hex = 3
number_of_status TooLong = 4
number_of_status ReadFault = 5
number_of_status WriteFault = 6
number_of_status NoMemory = 7
number_of_status (Stream fault) = 8

-- whether the input was at fault or not read to its end, so that nothing was written
abbrev pub is_before_lines : ViewStatus → Bool
is_before_lines Done = false
is_before_lines Usage = true
is_before_lines Hex = true
is_before_lines TooLong = true
is_before_lines ReadFault = true
is_before_lines WriteFault = false
is_before_lines NoMemory = false
is_before_lines (Stream fault) = true
