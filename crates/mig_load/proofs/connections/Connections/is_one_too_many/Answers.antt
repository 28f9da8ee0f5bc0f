use Rattle.std.proofs.Common.{◌∙◌, ap}
use Rattle.kept_model.specs.Loading.{is_one_too_many}
use Rattle.mig_load.specs.CameView.{tables_of}
use Rattle.mig_load.proofs.CameLemmas.{too_many_in}
use Rattle.mig_load.proofs.connections.Connections.is_one_too_many.Goals as goal

pub returns : goal.returns
returns c = c.is_one_too_many.ensures ∙ too_many_in (tables_of c.self.inside) c.args.spec ∙ ap (is_one_too_many c.args.spec) c.self.view_is
