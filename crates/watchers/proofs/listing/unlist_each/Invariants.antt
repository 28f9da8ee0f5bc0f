use Rattle.std.proofs.Common.{◌≡◌, ◌==◌, ℕ, true, false}
use Rattle.xs_model.specs.Paths.{Path}
use Rattle.watchers.specs.Index.{is_listed}
use Rattle.watchers.proofs.listing.unlist_each.Given as goal

abbrev pub invariant-loop-place : goal.invariant-loop-place
invariant-loop-place l = (c : ℕ) (p : Path) → (c == l.conn) ≡ false → is_listed c p l.fn.index.entries ≡ true → is_listed c p l.index.entries ≡ true
