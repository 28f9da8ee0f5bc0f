use Rattle.std.proofs.Common.{◌≡◌, drop}
use Rattle.xs_model.specs.Perms.{Caller, letter_for}
use Rattle.xs_perms.proofs.access.letter_for.Given as goal

abbrev pub invariant-loop-entry : goal.invariant-loop-entry
invariant-loop-entry l =
    let caller : Caller = record { domid = l.domid; target = l.target } in
    letter_for caller l.default (drop l.entry-index l.entries) ≡ letter_for caller l.default l.entries
