use Rattle.std.proofs.Common.{◌≡◌, ◌++◌, drop, option_map}
use Rattle.kept_model.specs.Said.{perms_of}
use Rattle.mig_load.proofs.entries.perms_of.Given as goal

-- the entries so far and those of what is left are those of all
abbrev pub invariant-loop-raw : goal.invariant-loop-raw
invariant-loop-raw l = option_map (λ more. l.perms ++ more) (perms_of (drop l.raw-index l.raws)) ≡ perms_of l.raws
