-- How what came is seen.
use Rattle.kept_model.specs.Loading.{Loading}
use Rattle.mig_load.specs.declared.loading.Loading.TheInside.{Inside}

abbrev pub loading_view : Inside → Loading
loading_view l = record {
  state = record { tree = l.nodes.tree; gens = l.nodes.gens; globals = l.globals; conns = l.conns };
  has_globals = l.has_globals;
  has_root = l.nodes.has_root;
  pending = l.pending.items;
}
