use Rattle.std.proofs.Common.{rules, arith, ◌≡◌, sym, ap, ◌∙◌, subst}
use Rattle.std.specs.Prelude.{slice_get}
use Rattle.store_turn.proofs.Crowds.{is_whole, there_is}
use Rattle.store_turn.proofs.turn.Turn.close.Goals as goal

pub gather_all-root-requires-clause-there : goal.gather_all-root-requires-clause-there
gather_all-root-requires-clause-there g c κs within k place e =
    let same = ap (λ s. s.there) c.callers.view_is in
    let turn = ap (λ s. s.turn) c.callers.view_is ∙ (c.requires.own ∙ ap (λ s. s.id) (sym c.self.view_is)) in
    there_is (λ caller. caller.turn.table ≡ c.self.inside.table.shared.table_id) place (c.requires.there k place (ap (λ l. slice_get l k) (sym same) ∙ e))
    (λ caller is. ap (λ t. t.table) (c.callers.invariant.turns k caller (e ∙ ap (λ o. Rattle.std.proofs.Common.Some o) is) ∙ turn))

pub returns-clause-whole : goal.returns-clause-whole
returns-clause-whole g c =
    let same = ap (λ s. s.there) c.callers.view_is in
    let turn = ap (λ s. s.turn) c.callers.view_is ∙ (c.requires.own ∙ ap (λ s. s.id) (sym c.self.view_is)) in
    is_whole c.args.callers c.callers.inside.there.items c.callers.inside.root.table_id c.callers.inside.root.views c.self.inside.table.shared.key.callers c.open-object.result.entries.items
    c.gather_all-root.result.me.0.known same c.callers.invariant (c.callers.invariant.long ∙ ap (λ t. t.callers) turn) c.gather_all-root.ensures.known c.open-object.ensures.known c.open-object.ensures.others
