use Rattle.std.proofs.Common.{sym, arith}
use Rattle.wire_codec.proofs.StringLemmas.{first_string, no_string}
use Rattle.wire_codec.proofs.payload.cut_string.Goals as goal

pub returns-then-byte-eq0 : goal.returns-then-byte-eq0
returns-then-byte-eq0 c =
    let cut = first_string c.args.payload.now c.loop-i.i c.loop-i.invariant c.loop-i-test.true c.if-byte-eq0.true in
    rw (c.after.ensures, cut)

pub returns : goal.returns
returns c = sym (no_string c.args.payload.now (λ k h. c.loop-i.invariant k (omega arith)))
