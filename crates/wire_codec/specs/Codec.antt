-- What the readers of messages answer, beside the definitions of `xs_model`.
use Rattle.std.specs.Prelude.{◌≡◌, ℕ, ◌^◌, ◌<◌, ◌≤◌, ◌==◌, Bool, true, false, List, [], ◌∷◌, Option, Some, None, is_some, Result, Ok, Err}
use Rattle.std.specs.Borrow.{Bor}
use Rattle.wire_codec.specs.declared.request.TreeOp.{TreeOp}
use Rattle.wire_codec.specs.declared.request.TreeOp.TheVariants as op
use Rattle.wire_codec.specs.declared.request.TreeCommand.{TreeCommand}
use Rattle.wire_codec.specs.declared.request.Request.{Request}
use Rattle.wire_codec.specs.declared.request.Request.TheVariants.{Command, Watch, Unwatch, Start, End, Introduce, Release, DomainPath, IsIntroduced, SetTarget, ResetWatches}
use Rattle.wire_codec.specs.declared.request.RequestErr.{RequestErr}
use Rattle.wire_codec.specs.declared.request.RequestErr.TheVariants.{Enosys, Einval, NoMemory}
use Rattle.xs_model.specs.declared.message.Header.{Header}
use Rattle.xs_model.specs.declared.message.WireErr.{WireErr}
use Rattle.xs_model.specs.declared.message.WireErr.TheVariants as wire
use Rattle.xs_model.specs.declared.path.PathFault.{PathFault}
use Rattle.xs_model.specs.Paths.{Path}
use Rattle.xs_model.specs.Requests.{ok_value, Operation}
use Rattle.xs_model.specs.Requests as model
use Rattle.xs_model.specs.Commands.{is_out_of_form}

-- the numbers of a header fit their fields
pub record Fits (head : Header) : Type 0 where
  pub kind : head.kind < 2 ^ 32
  pub req_id : head.req_id < 2 ^ 32
  pub tx_id : head.tx_id < 2 ^ 32
  pub len : head.len < 2 ^ 32

-- two slices as two lists
abbrev pub cut_view : Bor (List ℕ) × Bor (List ℕ) → List ℕ × List ℕ
cut_view cut = (cut.0.now, cut.1.now)

-- three slices as three lists
abbrev pub strings_view : Bor (List ℕ) × Bor (List ℕ) × Bor (List ℕ) → List ℕ × List ℕ × List ℕ
strings_view cut = (cut.0.now, cut.1.now, cut.2.now)

-- a request as the definitions have it
abbrev pub operation_of : TreeOp → Operation
operation_of op.Directory = model.Directory
operation_of op.Read = model.Read
operation_of op.GetPerms = model.GetPerms
operation_of (op.Write value) = model.Write value
operation_of op.Mkdir = model.Mkdir
operation_of op.Rm = model.Rm
operation_of (op.SetPerms perms) = model.SetPerms perms
operation_of (op.DirectoryPart offset) = model.DirectoryPart offset

abbrev pub request_view : Request → model.Request
request_view (Command command) = model.Command (operation_of command.op) command.path
request_view (Watch wpath token) = model.Watch wpath token
request_view (Unwatch wpath token) = model.Unwatch wpath token
request_view Start = model.Start
request_view (End commit) = model.End commit
request_view (Introduce domid evtchn) = model.Introduce domid evtchn
request_view (Release domid) = model.Release domid
request_view (DomainPath domid) = model.DomainPath domid
request_view (IsIntroduced domid) = model.IsIntroduced domid
request_view (SetTarget domid target) = model.SetTarget domid target
request_view ResetWatches = model.ResetWatches

-- the command is not RM of `/`, nor SET_PERMS to no entries
abbrev pub IsInForm : TreeCommand → Type 0
IsInForm command = is_out_of_form (operation_of command.op) command.path ≡ false

-- It is neither of these commands, nor RELEASE of domain 0, and it names no domain above the greatest one. Of a watch
-- path and a token `IsRequest` says what they are.
abbrev pub AsksInForm : Request → Type 0
AsksInForm (Command command) = IsInForm command
AsksInForm (Watch wpath token) = Unit {0}
AsksInForm (Unwatch wpath token) = Unit {0}
AsksInForm Start = Unit {0}
AsksInForm (End commit) = Unit {0}
AsksInForm (Introduce domid evtchn) = domid ≤ 32751
AsksInForm (Release domid) = (0 < domid) × (domid ≤ 32751)
AsksInForm (DomainPath domid) = domid ≤ 32751
AsksInForm (IsIntroduced domid) = domid ≤ 32751
AsksInForm (SetTarget domid target) = (domid ≤ 32751) × (target ≤ 32751)
AsksInForm ResetWatches = Unit {0}

-- whether bytes are the text of `/`
abbrev pub is_root_text : List ℕ → Bool
is_root_text [] = false
is_root_text (b ∷ []) = b == 47
is_root_text (b ∷ c ∷ bs) = false

-- Want of memory is answered only where something is defined for which memory is wanted.
-- The path of bytes, and Einval exactly where they are none
abbrev pub IsPathOf : Result Path RequestErr → Result Path PathFault → Type 0
IsPathOf (Ok path) defined = defined ≡ Ok path
IsPathOf (Err Enosys) defined = ⊥
IsPathOf (Err Einval) defined = ok_value defined ≡ None
IsPathOf (Err NoMemory) defined = is_some (ok_value defined) ≡ true

-- a part of a payload that is defined, and Einval exactly where there is none
abbrev pub IsPart : {A : Type 0} → Result A RequestErr → Option A → Type 0
IsPart (Ok part) defined = defined ≡ Some part
IsPart (Err Enosys) defined = ⊥
IsPart (Err Einval) defined = defined ≡ None
IsPart (Err NoMemory) defined = is_some defined ≡ true

-- the request that is defined, or the refusal that is; want of memory only in the place of a request
abbrev pub IsRequest : Result Request RequestErr → Result model.Request WireErr → Type 0
IsRequest (Ok request) defined = defined ≡ Ok (request_view request)
IsRequest (Err Enosys) defined = defined ≡ Err wire.Enosys
IsRequest (Err Einval) defined = defined ≡ Err wire.Einval
IsRequest (Err NoMemory) defined = is_some (ok_value defined) ≡ true
