-- What a record makes of what came, where memory may be wanting. This project's own.
use Rattle.std.specs.Prelude.{◌≡◌, ◌⊎◌, ℕ, List, Result, Ok, Err}
use Rattle.kept_model.specs.declared.fault.LoadFault.{LoadFault}
use Rattle.kept_model.specs.declared.fault.LoadFault.TheVariants.{NoMemory}
use Rattle.kept_model.specs.States.{ConnectionOf}
use Rattle.kept_model.specs.Said.{Said}
use Rattle.kept_model.specs.Loading.{Loading, with_state}

-- the record tells the next state; or its fault is answered, or want of memory, and nothing has changed
abbrev pub Steps : Result Loading LoadFault → Loading → Loading → Result (Unit {0}) LoadFault → Type 0
Steps told old new (Ok done) = told ≡ Ok new
Steps told old new (Err fault) = ((fault ≡ NoMemory) ⊎ (told ≡ Err fault)) × (new ≡ old)

-- with other connections
abbrev pub with_conns : List (ℕ × ConnectionOf Said) → Loading → Loading
with_conns conns l = with_state (record { tree = l.state.tree; gens = l.state.gens; globals = l.state.globals; conns = conns }) l
