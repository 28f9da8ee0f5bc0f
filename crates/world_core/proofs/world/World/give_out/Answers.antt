use Rattle.std.proofs.Common.{ℕ, List, length, Ok, inr, sym, ap, subst, ◌∙◌, arith}
use Rattle.std.specs.Ordering.{nat_cmp}
use Rattle.std.specs.FinMap.{find}
use Rattle.std.specs.Option.{option_map}
use Rattle.world_model.specs.declared.Said.TheVariants as said
use Rattle.world_model.specs.Worlds.{out_event}
use Rattle.world_core.specs.Stands.{Kept}
use Rattle.world_core.specs.Parts.{SendsSome}
use Rattle.world_core.proofs.EventLemmas.{connection_acts}
use Rattle.world_core.proofs.OutLemmas.{acts_none, acts_ring, ring_full, ring_sends, ring_bad, of_zero, not_zero}
use Rattle.world_core.proofs.world.World.give_out.Goals as goal

pub returns-then-eq : goal.returns-then-eq
returns-then-eq c =
    inr (connection_acts c.args.self.now c.args.domid (out_event c.args.domid c.args.max) c.args.self.now said.NoneQueued c.in-Some.conn c.in-Some.ensures
    (acts_none c.args.self.now c.args.domid c.in-Some.conn c.args.max c.unsent.result
    (c.unsent.ensures ∙ ap (λ (k : Kept). option_map (λ (l : List ℕ). length l) (find nat_cmp c.in-Some.conn k.daemon.unsent)) c.self.view_is) (of_zero c.unsent.result c.eq.result c.eq.ensures c.if-eq.true)))

pub send_some-requires-clause-most : goal.send_some-requires-clause-most
send_some-requires-clause-most c = (omega (arith, c.min.ensures, c.requires, c.in-Ok.free-test.1), omega (arith, c.min.ensures, c.in-Ok.ensures.within))

pub returns-in-Ok-eq0 : goal.returns-in-Ok-eq0
returns-in-Ok-eq0 c =
    inr (connection_acts c.args.self.now c.args.domid (out_event c.args.domid c.args.max) c.args.self.now said.NoSpace c.in-Some.conn c.in-Some.ensures
    (acts_ring c.args.self.now c.args.domid c.in-Some.conn c.args.max c.args.self.now said.NoSpace c.unsent.result
    (c.unsent.ensures ∙ ap (λ (k : Kept). option_map (λ (l : List ℕ). length l) (find nat_cmp c.in-Some.conn k.daemon.unsent)) c.self.view_is) (not_zero c.unsent.result c.eq.result c.eq.ensures c.if-eq.false)
    (λ w at stands h conn some. ring_full c.args.self.now c.args.domid c.in-Some.conn c.args.max (λ guest there. ap (λ (n : ℕ). Ok n) (sym c.in-Ok-eq0.field-0-test) ∙ c.in-Ok-eq0.ensures.free guest there) w at stands h conn)))

pub returns-in-Ok : goal.returns-in-Ok
returns-in-Ok c =
    inr (connection_acts c.args.self.now c.args.domid (out_event c.args.domid c.args.max) c.send_some.new.self c.send_some.result c.in-Some.conn c.in-Some.ensures
    (acts_ring c.args.self.now c.args.domid c.in-Some.conn c.args.max c.send_some.new.self c.send_some.result c.unsent.result
    (c.unsent.ensures ∙ ap (λ (k : Kept). option_map (λ (l : List ℕ). length l) (find nat_cmp c.in-Some.conn k.daemon.unsent)) c.self.view_is) (not_zero c.unsent.result c.eq.result c.eq.ensures c.if-eq.false)
    (ring_sends c.args.self.now c.args.domid c.in-Some.conn c.args.max c.send_some.new.self c.send_some.result c.in-Ok.free c.in-Ok.ensures.free c.in-Ok.free-test.1
    (subst (λ k. SendsSome c.args.self.now c.args.domid c.in-Some.conn k c.send_some.new.self c.send_some.result) c.min.ensures c.send_some.ensures))))

pub returns-in-Err : goal.returns-in-Err
returns-in-Err c =
    inr (connection_acts c.args.self.now c.args.domid (out_event c.args.domid c.args.max) c.drop_for_index.new.self c.drop_for_index.result c.in-Some.conn c.in-Some.ensures
    (acts_ring c.args.self.now c.args.domid c.in-Some.conn c.args.max c.drop_for_index.new.self c.drop_for_index.result c.unsent.result
    (c.unsent.ensures ∙ ap (λ (k : Kept). option_map (λ (l : List ℕ). length l) (find nat_cmp c.in-Some.conn k.daemon.unsent)) c.self.view_is) (not_zero c.unsent.result c.eq.result c.eq.ensures c.if-eq.false)
    (λ w at stands h conn some. ring_bad c.args.self.now c.args.domid c.in-Some.conn c.args.max c.drop_for_index.new.self c.drop_for_index.result c.in-Err.bad c.in-Err.ensures.free c.drop_for_index.ensures w at stands h conn)))
