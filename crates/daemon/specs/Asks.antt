-- Requests on watches that may be taken as they are read. This project's own.
use Rattle.std.specs.Prelude.{◌≡◌, ℕ, true}
use Rattle.xs_model.specs.Requests.{Request, Command, Watch, Unwatch, Start, End, Introduce, Release, DomainPath, IsIntroduced, SetTarget, ResetWatches, is_watch_path, is_token}

-- a domain may watch this path, under this token
abbrev pub WatchesInForm : ℕ → Request → Type 0
WatchesInForm domid (Command operation path) = Unit {0}
WatchesInForm domid (Watch wpath token) = (is_watch_path wpath domid ≡ true) × (is_token token ≡ true)
WatchesInForm domid (Unwatch wpath token) = Unit {0}
WatchesInForm domid Start = Unit {0}
WatchesInForm domid (End commit) = Unit {0}
WatchesInForm domid (Introduce domain evtchn) = Unit {0}
WatchesInForm domid (Release domain) = Unit {0}
WatchesInForm domid (DomainPath domain) = Unit {0}
WatchesInForm domid (IsIntroduced domain) = Unit {0}
WatchesInForm domid (SetTarget domain target) = Unit {0}
WatchesInForm domid ResetWatches = Unit {0}
