use Rattle.std.proofs.Common.{ℕ, ◌+◌, List, drop, ap, sym, ◌∙◌}
use Rattle.std.proofs.lemmas.List.{drop_more}
use Rattle.xs_base.specs.declared.mem_vault.Alter.{Alter}
use Rattle.xs_base.specs.MemVault.{altered}
use Rattle.xs_base.proofs.mem_vault.alter_all.Goals as goal

pub loop-alter-preserved : goal.loop-alter-preserved
loop-alter-preserved c =
    ap (altered c.args.number (drop (c.loop-alter.alter-index + 1) c.args.alters.now)) c.alter_by.ensures
    ∙ sym (ap (λ (alters : List Alter). altered c.args.number alters c.loop-alter.given.items) (drop_more c.args.alters.now c.loop-alter.alter-index _ c.loop-alter-test.true))
    ∙ c.loop-alter.invariant
