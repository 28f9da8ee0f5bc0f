use Rattle.std.proofs.Common.{arith}
use Rattle.std.proofs.lemmas.Grind.{common_steps}
use Rattle.xs_path.proofs.Cuts.{count_by-slashes, names_or_root}
use Rattle.xs_path.proofs.text.name_count.Goals as goal

pub returns : goal.returns
returns c =
    let all = names_or_root c.args.text.now c.requires.absolute c.if-text-eq1.false in
    let counted = count_by-slashes c.args.text.now in
    grind (arith, common_steps)
