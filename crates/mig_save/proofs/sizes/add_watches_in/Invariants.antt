use Rattle.std.proofs.Common.{◌≡◌, ℕ, ◌+◌, length, take}
use Rattle.watch_table.specs.Tables.{watches_in}
use Rattle.mig_save.specs.Texts.{watches_text}
use Rattle.mig_save.proofs.sizes.add_watches_in.Given as goal

abbrev pub invariant-loop-place : goal.invariant-loop-place
invariant-loop-place l = (c : ℕ) → l.total ≡ l.fn.count + length (watches_text c (watches_in (take l.place l.watches)))
