use Rattle.std.proofs.Common.{◌≡◌, ◌++◌, length}
use Rattle.msg_reassembly.specs.Inboxes.{messages_of}
use Rattle.msg_reassembly.proofs.messages.split.Given as goal

-- the messages so far, and those of what is left, are all messages
abbrev pub invariant-loop-len : goal.invariant-loop-len
invariant-loop-len l = l.messages ++ messages_of l.left ≡ messages_of l.bytes

abbrev pub decreases-loop-len : goal.decreases-loop-len
decreases-loop-len l = length l.left
