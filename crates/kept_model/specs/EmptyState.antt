-- A worked example: the state of a store that has the node `/` alone and no connection.
use Rattle.std.specs.Prelude.{[]}
use Rattle.xs_model.specs.Trees.{new_tree}
use Rattle.xs_model.specs.Generations.{new_generations}
use Rattle.kept_model.specs.States.{State}
use Rattle.kept_model.specs.Loading.{no_globals}

abbrev pub empty_state : State
empty_state = record { tree = new_tree; gens = new_generations; globals = no_globals; conns = [] }
