use Rattle.std.proofs.Common.{arith, ◌≡◌, ◌<◌, length, set, Some, None, sym, ap, ◌∙◌, subst}
use Rattle.std.specs.Prelude.{slice_get, IfSome}
use Rattle.store_turn.specs.Seats.{IsCrowd, IsFirst, NoneBefore}
use Rattle.store_turn.proofs.Crowds.{crowd_without, first_taken, first_own, got_at}
use Rattle.store_turn.proofs.callers.Callers.take.Goals as goal

pub invariant_of-self : goal.invariant_of-self
invariant_of-self g c = subst (λ x. IsCrowd c.self.inside.root.table_id c.self.inside.root.views (set c.self.inside.there.items c.lowest-place.result x)) (sym c.replace.ensures.after)
    (crowd_without c.self.inside.root.table_id c.self.inside.root.views c.self.inside.there.items c.lowest-place.result c.self.invariant)

pub returns-clause-some : goal.returns-clause-some
returns-clause-some g c =
    let items = c.self.inside.there.items in
    let place = c.lowest-place.result in
    let within = c.lowest-place.ensures.within in
    let here : place < length items = grind arith in
    let got : slice_get items place ≡ Some c.replace.result = got_at items place c.index_mut.result.now here ∙ ap (λ o. Some o) (sym (c.replace.ensures.value ∙ c.index_mut.ensures.value)) in
    let same = ap (λ s. s.there) c.self.view_is in
    let taken = first_taken c.self.inside.root.table_id c.self.inside.root.views items place c.replace.result c.self.invariant (subst (λ l. NoneBefore l place) c.deref.ensures.value c.lowest-place.ensures.before) got in
    subst (λ l. IfSome c.replace.result (λ caller. IsFirst l caller.number caller × (set items place c.replace.new.dest ≡ set l caller.number None))) same
    (subst (λ x. IfSome c.replace.result (λ caller. IsFirst items caller.number caller × (set items place x ≡ set items caller.number None))) (sym c.replace.ensures.after) taken)

pub returns-clause-own : goal.returns-clause-own
returns-clause-own g c =
    let items = c.self.inside.there.items in
    let place = c.lowest-place.result in
    let within = c.lowest-place.ensures.within in
    let here : place < length items = grind arith in
    let got : slice_get items place ≡ Some c.replace.result = got_at items place c.index_mut.result.now here ∙ ap (λ o. Some o) (sym (c.replace.ensures.value ∙ c.index_mut.ensures.value)) in
    first_own c.self.inside.root.table_id c.self.inside.root.views items place c.replace.result c.args.self.now.turn c.self.invariant got (ap (λ s. s.turn) c.self.view_is)
