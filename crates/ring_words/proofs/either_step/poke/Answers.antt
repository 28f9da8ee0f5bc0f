use Rattle.std.proofs.Common.{arith, rules, ◌≡◌, ◌⊎◌, inl, inr}
use Rattle.ring_words.specs.Steps.{after_poke}
use Rattle.ring_words.proofs.MoveLemmas.{producer_may_store, consumer_may_store}
use Rattle.ring_words.proofs.WorkLemmas.{keeps_poke_put, keeps_poke_take}
use Rattle.ring_words.proofs.either_step.poke.Goals.{then-prod, else-prod}
use Rattle.ring_words.proofs.either_step.poke.Goals as goal

pub store-requires : goal.store-requires
store-requires c =
    let v = c.args.seat.now.me.0 in
    let word = c.if-prod.word in
    let value = c.from.result in
    let which : (word ≡ 1024) ⊎ (word ≡ 1025) = elim c.if-prod.branch [ then-prod w ↦ inl w.word-is | else-prod w ↦ inr w.word-is ] in
    elim c.requires [
      | inl at ↦ (at.of_it, omega (arith, at.words, which), producer_may_store _ _ word v (after_poke v) _ value at.has_role at.has_role (λ ws other work. keeps_poke_put ws v other work word value which (search rules)))
      | inr at ↦ (at.of_it, omega (arith, at.words, which), consumer_may_store _ _ word v (after_poke v) _ value at.has_role at.has_role (λ ws other work. keeps_poke_take ws other v work word value which (search rules)))
    ]
