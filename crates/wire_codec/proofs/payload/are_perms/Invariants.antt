use Rattle.std.proofs.Common.{◌≡◌, [], length, is_some}
use Rattle.xs_model.specs.Requests.{perms_of}
use Rattle.wire_codec.proofs.payload.are_perms.Given as goal

-- what is left is entries where all the bytes are
abbrev pub invariant-entries : goal.invariant-entries
invariant-entries l = is_some (perms_of [] l.rest) ≡ is_some (perms_of [] l.bytes)

abbrev pub decreases-entries : goal.decreases-entries
decreases-entries l = length l.rest
