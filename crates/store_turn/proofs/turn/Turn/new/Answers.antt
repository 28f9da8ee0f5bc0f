use Rattle.std.proofs.Common.{arith, ◌++◌, [], ◌∷◌, sym, ap, ◌∙◌}
use Rattle.store_turn.specs.Sides.{newcomers}
use Rattle.store_turn.proofs.Ends.{starts_with}
use Rattle.store_turn.proofs.Crowds.{crowd_new}
use Rattle.store_turn.proofs.turn.Turn.new.Goals as goal

pub new-requires-2 : goal.new-requires-2
new-requires-2 g c = starts_with _ _ _ _ _ c.new.result (c.push_reserved.ensures.items ∙ ap (λ l. l ++ c.new.result ∷ []) c.in_ok-slots.ensures.items) c.new.ensures.2 (c.new.ensures.0 ∙ sym c.of.ensures) (grind arith)

pub invariant_of-result-2 : goal.invariant_of-result-2
invariant_of-result-2 g c =
    let p = c.into_badge-root.ensures in
    let w = c.deal_all.ensures in
    let first = c.in-Ok.ensures.ok.4 in
    crowd_new c.into_badge-root.result.table_id c.into_badge-root.result.views c.deal_all.new.there.items c.in-Ok.root.me.0.start c.args.callers (p.2 ∙ ap (λ m. m.0 ∷ []) w.own.1)
    (w.there ∙ (λ i. newcomers (record { table = sym (p.0 ∙ w.own.0) i; callers = ap (λ m. m.0.callers) first i; start = c.in-Ok.root.me.0.start }) 0 c.args.callers))
