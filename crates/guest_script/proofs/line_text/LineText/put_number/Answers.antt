use Rattle.std.proofs.Common.{◌≡◌, ◌-◌, length, length-drop, length-append, decimal, ap, sym, ◌∙◌, arith}
use Rattle.std.proofs.lemmas.Fmt.{length-decimal-le}
use Rattle.guest_script.proofs.line_text.LineText.put_number.Goals as goal

pub write_digits-self-inside-requires : goal.write_digits-self-inside-requires
write_digits-self-inside-requires c =
    let short = length-decimal-le 20 c.args.number (omega arith) (omega arith) (omega arith) in
    let len : length c.args.self.now ≡ length c.self.inside.room - c.self.inside.start = sym (ap length c.self.view_is) ∙ length-drop c.self.inside.start c.self.inside.room in
    (omega arith, omega arith)

pub returns-clause-len : goal.returns-clause-len
returns-clause-len c =
    let short = length-decimal-le 20 c.args.number (omega arith) (omega arith) (omega arith) in
    let len = ap length c.write_digits-self-inside.ensures.written ∙ length-append (decimal c.args.number) _ in
    let old = ap length c.self.view_is in
    rw len (omega (arith, old))
