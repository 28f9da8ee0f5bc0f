use Rattle.std.proofs.Common.{◌++◌, take}
use Rattle.program_io.proofs.EndLemmas.{consumes_more}
use Rattle.program_io.proofs.input.read_all.Goals as goal

pub returns-then-len-count-gt-INPUT_LIMIT-clause-front : goal.returns-then-len-count-gt-INPUT_LIMIT-clause-front
returns-then-len-count-gt-INPUT_LIMIT-clause-front g c =
    let source = g.S.Source in
    let text = c.loop-count.text.items in
    let piece = take c.in-Ok.count c.read.new.into in
    (text ++ piece, consumes_more (source.left c.args.src.now) (source.left c.loop-count.src) (source.left c.read.new.self) text piece c.loop-count.invariant.given c.in-Ok.ensures.bytes.0)

pub returns-then-is_err-clause-front : goal.returns-then-is_err-clause-front
returns-then-is_err-clause-front g c =
    let source = g.S.Source in
    let text = c.loop-count.text.items in
    let piece = take c.in-Ok.count c.read.new.into in
    (text ++ piece, consumes_more (source.left c.args.src.now) (source.left c.loop-count.src) (source.left c.read.new.self) text piece c.loop-count.invariant.given c.in-Ok.ensures.bytes.0)
