use Rattle.xs_model.proofs.OrderLemmas.{path_order}
use Rattle.xs_model.proofs.NameLemmas.{spelled-names}
use Rattle.xs_model.proofs.laws.path_order_is_text_order.Goals as goal

pub returns : goal.returns
returns c = record { texts = path_order; names = spelled-names }
