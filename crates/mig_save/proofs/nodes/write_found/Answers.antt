use Rattle.std.proofs.Common.{◌≡◌, ◌∷◌, [], length, ap, ◌∙◌, arith, length-append}
use Rattle.xs_model.specs.Messages.{string}
use Rattle.xs_model.proofs.LengthLemmas.{spelled-short}
use Rattle.mig_save.proofs.nodes.write_found.Goals as goal

pub write_node-requires-clause-path : goal.write_node-requires-clause-path
write_node-requires-clause-path c =
    let p = c.args.path.now in
    let is : c.as_slice-2.result.now ≡ string c.bytes.result.now = c.as_slice-2.ensures ∙ c.in_ok-set_string.ensures in
    omega (arith, ap length is, length-append c.bytes.result.now (0 ∷ []), ap length c.bytes.ensures.text, spelled-short c.bytes.result.now 0 p (c.bytes.ensures.read 0))
