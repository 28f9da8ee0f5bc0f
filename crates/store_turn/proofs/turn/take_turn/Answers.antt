use Rattle.store_turn.proofs.Called.{at_turn, may_give, left, idle_again, is_answered, is_refused}
use Rattle.store_turn.proofs.turn.take_turn.Goals as goal

pub work-answer-requires-clause-has : goal.work-answer-requires-clause-has
work-answer-requires-clause-has g c κs within =
    let a = at_turn (λ desk. desk.entries.items) (λ desk. desk.start.value) (λ desk. desk.last) c.args.number _ _ _ _ c.requires.idle.0 c.requires.idle.1 c.draw-ticket.ensures.drawn c.wait.ensures.taken in
    (a.desk, a.slot, tt)

pub give-requires-clause-may : goal.give-requires-clause-may
give-requires-clause-may g c κs within =
    let a = at_turn (λ desk. desk.entries.items) (λ desk. desk.start.value) (λ desk. desk.last) c.args.number _ _ _ _ c.requires.idle.0 c.requires.idle.1 c.draw-ticket.ensures.drawn c.wait.ensures.taken in
    may_give (λ desk. desk.entries.items) (λ desk. desk.start.value) (λ desk. desk.last) c.args.number g.O.Object.next g.O.Object.answer g.O.Object.is_quiet c.args.op c.work-answer.result _ _ _ _ c.requires.idle.0 a
    c.work-answer.ensures.view c.work-answer.ensures.served

pub returns-clause-idle : goal.returns-clause-idle
returns-clause-idle g c =
    let a = at_turn (λ desk. desk.entries.items) (λ desk. desk.start.value) (λ desk. desk.last) c.args.number _ _ _ _ c.requires.idle.0 c.requires.idle.1 c.draw-ticket.ensures.drawn c.wait.ensures.taken in
    let l = left (λ desk. desk.entries.items) (λ desk. desk.start.value) (λ desk. desk.last) c.args.number g.O.Object.next g.O.Object.answer g.O.Object.is_quiet c.args.op c.work-answer.result _ _ _ _ _ c.requires.idle.0 a
    c.work-answer.ensures.view c.work-answer.ensures.served c.give.ensures.left in
    (idle_again (λ desk. desk.entries.items) (λ desk. desk.start.value) (λ desk. desk.last) c.args.number g.O.Object.next g.O.Object.answer g.O.Object.is_quiet c.args.op c.work-answer.result _ _ _ _ _ l.1 c.requires.idle.0, l.1.slot)

pub returns-clause-same : goal.returns-clause-same
returns-clause-same g c =
    let a = at_turn (λ desk. desk.entries.items) (λ desk. desk.start.value) (λ desk. desk.last) c.args.number _ _ _ _ c.requires.idle.0 c.requires.idle.1 c.draw-ticket.ensures.drawn c.wait.ensures.taken in
    let l = left (λ desk. desk.entries.items) (λ desk. desk.start.value) (λ desk. desk.last) c.args.number g.O.Object.next g.O.Object.answer g.O.Object.is_quiet c.args.op c.work-answer.result _ _ _ _ _ c.requires.idle.0 a
    c.work-answer.ensures.view c.work-answer.ensures.served c.give.ensures.left in (l.1.start, l.1.callers)

pub returns-clause-answered : goal.returns-clause-answered
returns-clause-answered g c =
    let a = at_turn (λ desk. desk.entries.items) (λ desk. desk.start.value) (λ desk. desk.last) c.args.number _ _ _ _ c.requires.idle.0 c.requires.idle.1 c.draw-ticket.ensures.drawn c.wait.ensures.taken in
    let l = left (λ desk. desk.entries.items) (λ desk. desk.start.value) (λ desk. desk.last) c.args.number g.O.Object.next g.O.Object.answer g.O.Object.is_quiet c.args.op c.work-answer.result _ _ _ _ _ c.requires.idle.0 a
    c.work-answer.ensures.view c.work-answer.ensures.served c.give.ensures.left in
    is_answered (λ desk. desk.entries.items) (λ desk. desk.start.value) (λ desk. desk.last) c.args.number g.O.Object.next g.O.Object.answer g.O.Object.is_quiet c.args.op c.work-answer.result _ _ _ _ _ l.1 _ _ c.requires.start

pub returns-clause-refused : goal.returns-clause-refused
returns-clause-refused g c =
    let a = at_turn (λ desk. desk.entries.items) (λ desk. desk.start.value) (λ desk. desk.last) c.args.number _ _ _ _ c.requires.idle.0 c.requires.idle.1 c.draw-ticket.ensures.drawn c.wait.ensures.taken in
    let l = left (λ desk. desk.entries.items) (λ desk. desk.start.value) (λ desk. desk.last) c.args.number g.O.Object.next g.O.Object.answer g.O.Object.is_quiet c.args.op c.work-answer.result _ _ _ _ _ c.requires.idle.0 a
    c.work-answer.ensures.view c.work-answer.ensures.served c.give.ensures.left in
    is_refused (λ desk. desk.entries.items) (λ desk. desk.start.value) (λ desk. desk.last) c.args.number g.O.Object.next g.O.Object.answer g.O.Object.is_quiet c.args.op c.work-answer.result _ _ _ _ _ l.1 _
