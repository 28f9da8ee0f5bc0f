use Rattle.std.proofs.Common.{rules, ◌≡◌, ◌++◌, [], ◌∷◌, length, arith, ap, sym, ◌∙◌}
use Rattle.store_turn.specs.Seats.{view_of, known_of}
use Rattle.store_turn.proofs.Ends.{gathers}
use Rattle.store_turn.proofs.Crowds.{one_known}
use Rattle.store_turn.proofs.deals.gather.Goals as goal

pub join_seat-requires : goal.join_seat-requires
join_seat-requires g c =
    let e = ap view_of c.into_seat-seat.ensures.2 in
    let idle = c.caller.invariant.idle in
    let one : length c.into_seat-seat.result.me.0.known ≡ 1 = ap (λ v. length v.known) (sym e) ∙ idle.known in (
      search rules,
      search rules,
      search rules,
      search rules,
      gathers _ _ _ _ _ _ _ _ c.requires.idle.0 (ap (λ v. v.stage) (sym e) ∙ idle.stage) (omega arith),
    )

pub returns-clause-known : goal.returns-clause-known
returns-clause-known g c =
    ap (λ m. m.0.known) c.join_seat.ensures.2
    ∙ ap (λ ks. c.args.root.now.me.0.known ++ ks) (one_known c.caller.inside.badge.table_id c.caller.inside.number c.caller.inside.badge.views c.into_seat-seat.result.me.0 c.caller.invariant c.into_seat-seat.ensures.2 ∙ ap (λ p. known_of p ∷ []) c.caller.view_is)
