-- Want of memory, as a fault of loading.
use Rattle.std.specs.Prelude.{Result, Ok, Err}
use Rattle.kept_model.specs.declared.fault.LoadFault.{LoadFault}
use Rattle.kept_model.specs.declared.fault.LoadFault.TheVariants.{NoMemory}

abbrev pub faulted : {T E : Type 0} → Result T E → Result T LoadFault
faulted (Ok x) = Ok x
faulted (Err e) = Err NoMemory
