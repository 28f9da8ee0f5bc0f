use Rattle.std.proofs.Common.{◌+◌}
use Rattle.watch_events.proofs.ToldLemmas.{text_short, rest_short}
use Rattle.watch_events.proofs.naming.named.Goals as goal

pub returns-then-is_absolute-clause-short : goal.returns-then-is_absolute-clause-short
returns-then-is_absolute-clause-short c = text_short c.bytes.result.now c.args.path.now (c.bytes.ensures.read 0) c.bytes.ensures.text

pub returns-else-is_absolute-clause-short : goal.returns-else-is_absolute-clause-short
returns-else-is_absolute-clause-short c =
    let text = c.bytes-else-is_absolute in
    rest_short text.result.now c.behind.result.now (c.home_len.result + 1) (text_short text.result.now c.args.path.now (text.ensures.read 0) text.ensures.text) c.behind.ensures
