use Rattle.std.proofs.lemmas.Result.{err_from_is_err_and}
use Rattle.guest_script.specs.Views.{script_view}
use Rattle.xs_drive.proofs.StartLemmas.{starts_of, starts_not, handed_on, no_load}
use Rattle.xs_drive.proofs.start.start.Goals as goal

pub returns-in_err-world-clause-load : goal.returns-in_err-world-clause-load
returns-in_err-world-clause-load c =
    let p = err_from_is_err_and c.from_residual.result c.from_residual.ensures.1 in
    λ fault is. starts_not (script_view c.args.script.now) fault
    (c.first_world.ensures.load fault (handed_on c.first_world.result c.from_residual.result c.in_err-world.field-0.0 p.0 fault c.in_err-world.was p.1 p.2 is))

pub returns-in_err-add_domains-clause-load : goal.returns-in_err-add_domains-clause-load
returns-in_err-add_domains-clause-load c =
    let p = err_from_is_err_and c.from_residual-in_err-add_domains.result c.from_residual-in_err-add_domains.ensures.1 in
    λ fault is. no_load c.from_residual-in_err-add_domains.result p.0 fault p.1 p.2 is

pub returns-clause-ok : goal.returns-clause-ok
returns-clause-ok c =
    starts_of (script_view c.args.script.now) c.in_ok-world.world c.add_domains.new.world c.in_ok-world.ensures.ok c.in_ok-add_domains.ensures
