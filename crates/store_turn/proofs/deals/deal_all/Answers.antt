use Rattle.std.proofs.Common.{arith, ℕ, ◌<◌, drop, [], ap, sym, subst, ◌∙◌}
use Rattle.store_turn.specs.declared.views.Stage.TheVariants.{Idle}
use Rattle.store_turn.specs.Rule.{view, rest_of}
use Rattle.store_turn.proofs.Crowds.{fresh_next, same_turn, dealt}
use Rattle.store_turn.proofs.deals.deal_all.Goals as goal

pub deal-requires-clause-next : goal.deal-requires-clause-next
deal-requires-clause-next g c κs within =
    let now = c.loop-number.invariant.1 in
    ((_, ap (λ m. m.0.known) now ∙ fresh_next _ _ _ c.loop-number.number c.args.callers c.loop-number-test.true), subst (λ (n : ℕ). c.loop-number.number < n) (sym (ap (λ m. m.0.callers) now)) c.loop-number-test.true)

pub loop-number-preserved : goal.loop-number-preserved
loop-number-preserved g c =
    let l = c.loop-number in
    let now = l.invariant.1 in
    let first = c.requires.root.0 in (
      c.deal.ensures.own.0 ∙ l.invariant.0,
      c.deal.ensures.own.1 ∙ (ap (λ m. (rest_of m.0, [])) now ∙ ap (λ ks. (view Idle c.args.root.now.me.0.start c.args.callers (drop 1 ks), [])) (fresh_next _ _ _ l.number c.args.callers c.loop-number-test.true)),
      dealt _ l.number _ _ _ _ (same_turn l.root.table_id c.args.root.now.table_id l.root.me.0 c.args.root.now.me.0 l.invariant.0 (ap (λ m. m.0.callers) now ∙ sym (ap (λ v. v.callers) first)) (ap (λ m. m.0.start) now)) l.invariant.2 c.deal.ensures.caller c.push_reserved.ensures.items,
      grind arith,
      grind arith,
    )
