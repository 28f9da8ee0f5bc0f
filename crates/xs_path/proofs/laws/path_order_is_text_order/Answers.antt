use Rattle.xs_path.proofs.Ordered.{path_cmp-absolute_path}
use Rattle.xs_path.proofs.laws.path_order_is_text_order.Goals as goal

pub returns : goal.returns
returns c = path_cmp-absolute_path
