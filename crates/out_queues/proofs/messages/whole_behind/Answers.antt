use Rattle.std.proofs.Common.{◌<◌, length, sym, ◌∙◌, arith}
use Rattle.std.proofs.lemmas.Grind.{common_steps}
use Rattle.out_queues.proofs.MessageLemmas.{whole_behind-within, whole_behind-past, whole_behind-next}
use Rattle.out_queues.proofs.messages.whole_behind.Goals as goal

pub returns-then-rest-bytes : goal.returns-then-rest-bytes
returns-then-rest-bytes c = sym (whole_behind-past c.args.rest c.args.bytes.now c.if-rest-bytes.true)

pub loop-left-init : goal.loop-left-init
loop-left-init c =
    rw c.from-left.ensures (sym (whole_behind-within c.args.rest c.args.bytes.now c.if-rest-bytes.false))

-- a message less is left
pub loop-left-preserved : goal.loop-left-preserved
loop-left-preserved c =
    let left = c.loop-left.left.now in
    let some : 0 < length left = grind (arith, common_steps) in
    rw (c.from-left-in-loop-left.ensures, c.message_len.ensures)
    (whole_behind-next left some (sym c.begins_message.ensures ∙ c.if-not-begins_message.false) ∙ c.loop-left.invariant)
