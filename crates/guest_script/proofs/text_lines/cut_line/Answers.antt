use Rattle.std.proofs.Common.{length-drop, arith}
use Rattle.guest_script.proofs.LineLemmas.{first_line}
use Rattle.guest_script.proofs.text_lines.cut_line.Goals as goal

pub returns-in-Some : goal.returns-in-Some
returns-in-Some c =
    rw c.behind.ensures (first_line c.args.text.now c.in-Some.end c.in-Some.ensures, simp length-drop (omega (arith, c.in-Some.ensures.0.high)))
