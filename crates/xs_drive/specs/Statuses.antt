-- The statuses of `drive`. This project's own.
use Rattle.std.specs.Prelude.{ℕ, Bool, true, false}
use Rattle.xs_drive.specs.declared.status.Status.{Status}
use Rattle.xs_drive.specs.declared.status.Status.TheVariants.{Done, Usage, Script, TooLong, ReadFault, WriteFault, NoMemory, Load}

abbrev pub number_of_status : Status → ℕ
number_of_status Done = 0
number_of_status Usage = 2
number_of_status (Script line kind) = 3
number_of_status TooLong = 4
number_of_status ReadFault = 5
number_of_status WriteFault = 6
number_of_status NoMemory = 7
number_of_status (Load fault) = 8

-- whether the run had not begun, so that nothing was written
abbrev pub is_before_run : Status → Bool
is_before_run Done = false
is_before_run Usage = true
is_before_run (Script line kind) = true
is_before_run TooLong = true
is_before_run ReadFault = true
is_before_run WriteFault = false
is_before_run NoMemory = false
is_before_run (Load fault) = true
