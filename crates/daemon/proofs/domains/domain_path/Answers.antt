use Rattle.std.proofs.Common.{◌≤◌, ℕ, List, length, IfOk, Result, sym, subst}
use Rattle.xs_model.specs.declared.message.WireErr.{WireErr}
use Rattle.daemon.proofs.ActLemmas.{home_is_short}
use Rattle.daemon.proofs.domains.domain_path.Goals as goal

pub returns-clause-short : goal.returns-clause-short
returns-clause-short c =
    subst (λ (reply : Result (List ℕ) WireErr). IfOk reply (λ payload. length payload ≤ 4096)) (sym c.of.ensures.reply)
    (subst (λ (payload : List ℕ). length payload ≤ 4096) (sym c.in_ok-payload.ensures) (home_is_short c.args.domid))
