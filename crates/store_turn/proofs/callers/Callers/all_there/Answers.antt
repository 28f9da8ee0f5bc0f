use Rattle.std.proofs.Common.{sym, ap, subst}
use Rattle.store_turn.specs.Turns.{Filled}
use Rattle.store_turn.proofs.callers.Callers.all_there.Goals as goal

pub returns : goal.returns
returns g c =
    let same = ap (λ s. s.there) c.self.view_is in
    let seen = c.deref.ensures.value in
    ((λ yes. subst Filled same (subst Filled seen (c.filled.ensures.yes yes))), (λ all. c.filled.ensures.no (subst Filled (sym seen) (subst Filled (sym same) all))))
