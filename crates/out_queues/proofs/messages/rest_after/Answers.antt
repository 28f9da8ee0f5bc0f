use Rattle.std.proofs.Common.{◌≡◌, ◌+◌, ◌-◌, ◌<◌, ◌≤◌, length, drop, sym, ◌∙◌, arith, length-drop}
use Rattle.std.proofs.lemmas.List.{drop-drop}
use Rattle.out_queues.proofs.MessageLemmas.{next_begins, message_there, rest_after-past, rest_after-within}
use Rattle.out_queues.proofs.messages.rest_after.Goals as goal

-- the bytes behind the message in front begin a message
pub message_len-left-requires : goal.message_len-left-requires
message_len-left-requires c =
    let front = drop c.loop-left.at c.args.bytes.now in
    let left = c.loop-left.left in
    let there : left < length front = simp length-drop (omega arith) in
    let next = (next_begins left front there c.loop-left.invariant.whole).0 in
    rw (c.from.ensures, ← drop-drop left c.loop-left.at c.args.bytes.now) ((message_there (drop left front) next).0)

pub loop-left-preserved : goal.loop-left-preserved
loop-left-preserved c =
    let front = drop c.loop-left.at c.args.bytes.now in
    let left = c.loop-left.left in
    let n = c.args.count - c.loop-left.at in
    let there : left < length front = simp length-drop (omega arith) in
    let within : n ≤ length front = simp length-drop (omega arith) in
    let on = drop-drop left c.loop-left.at c.args.bytes.now in
    let next = (next_begins left front there c.loop-left.invariant.whole).1 in
    let fewer : c.args.count - (c.loop-left.at + left) ≡ n - left = omega arith in
    record {
      within = omega arith;
      whole = rw (c.message_len-left.ensures, c.from.ensures, ← on) next;
      same = rw (c.message_len-left.ensures, c.from.ensures, ← on, fewer) (sym (rest_after-past left n front c.loop-left-test.true within) ∙ c.loop-left.invariant.same);
    }

pub returns : goal.returns
returns c =
    let front = drop c.loop-left.at c.args.bytes.now in
    let within : c.args.count - c.loop-left.at ≤ length front = simp length-drop (omega arith) in
    sym (rest_after-within c.loop-left.left (c.args.count - c.loop-left.at) front c.loop-left-test.false within) ∙ c.loop-left.invariant.same
