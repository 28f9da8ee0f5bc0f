use Rattle.std.proofs.Common.{◌≡◌, [], ◌++◌, length}
use Rattle.std.specs.Option.{option_map}
use Rattle.xs_model.specs.Requests.{perms_of}
use Rattle.wire_codec.proofs.payload.perms.Given as goal

-- the entries so far and those of what is left are those of all the bytes
abbrev pub invariant-entries : goal.invariant-entries
invariant-entries l = option_map (λ more. l.perms ++ more) (perms_of [] l.rest) ≡ perms_of [] l.bytes

abbrev pub decreases-entries : goal.decreases-entries
decreases-entries l = length l.rest
