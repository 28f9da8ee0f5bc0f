-- What a refused request leaves.
use Rattle.std.specs.Prelude.{◌≡◌, ℕ, ◌==◌, Bool, true, false, [], Err}
use Rattle.xs_model.specs.declared.message.WireErr.{WireErr}
use Rattle.xs_model.specs.Requests.{Request, Command, Watch, Unwatch, Start, End, Introduce, Release, DomainPath, IsIntroduced, SetTarget, ResetWatches}
use Rattle.machine_model.specs.Connections.{Connection}
use Rattle.machine_model.specs.Machine.{Machine, act}

-- Whether a refusal of this request, under this transaction number, leaves the store as it was. END closes its transaction
-- whatever it answers, and a command in a transaction joins its list.
abbrev pub leaves_all : ℕ → Request → Bool
leaves_all tx (Command operation path) = tx == 0
leaves_all tx (Watch wpath token) = true
leaves_all tx (Unwatch wpath token) = true
leaves_all tx Start = true
leaves_all tx (End commit) = false
leaves_all tx (Introduce domid evtchn) = true
leaves_all tx (Release domid) = true
leaves_all tx (DomainPath domid) = true
leaves_all tx (IsIntroduced domid) = true
leaves_all tx (SetTarget domid target) = true
leaves_all tx ResetWatches = true

-- it does, and nothing is sent besides the refusal
abbrev pub RefusalsLeaveAll : Type 0
RefusalsLeaveAll =
    (m : Machine) (c : ℕ) (conn : Connection) (tx : ℕ) (request : Request) (error : WireErr) → leaves_all tx request ≡ true
    → (act m c conn tx request).reply ≡ Err error
    → ((act m c conn tx request).machine ≡ m) × ((act m c conn tx request).sends ≡ [])
