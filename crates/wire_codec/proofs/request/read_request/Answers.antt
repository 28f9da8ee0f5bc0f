use Rattle.wire_codec.proofs.AskedLemmas.{request_in_form}
use Rattle.xs_model.specs.Requests.{all_types}
use Rattle.wire_codec.proofs.request.read_request.Goals as goal

pub returns-in-4-clause-in_form : goal.returns-in-4-clause-in_form
returns-in-4-clause-in_form c = request_in_form c.watch.result all_types 4 c.args.payload.now c.args.domid c.watch.ensures

pub returns-in-5-clause-in_form : goal.returns-in-5-clause-in_form
returns-in-5-clause-in_form c = request_in_form c.unwatch.result all_types 5 c.args.payload.now c.args.domid c.unwatch.ensures

pub returns-in-14-clause-in_form : goal.returns-in-14-clause-in_form
returns-in-14-clause-in_form c = request_in_form c.set_perms.result all_types 14 c.args.payload.now c.args.domid c.set_perms.ensures
