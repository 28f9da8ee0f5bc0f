use Rattle.std.proofs.Common.{arith}
use Rattle.wire_codec.proofs.StringLemmas.{first_string, no_string}
use Rattle.mig_load.proofs.texts.first_nul.Goals as goal

pub returns-then-byte-eq0-clause-cut : goal.returns-then-byte-eq0-clause-cut
returns-then-byte-eq0-clause-cut c = first_string c.args.text.now c.loop-place.place c.loop-place.invariant c.loop-place-test.true c.if-byte-eq0.true

pub returns-clause-none : goal.returns-clause-none
returns-clause-none c = λ _. no_string c.args.text.now (λ k h. c.loop-place.invariant k (omega arith))
