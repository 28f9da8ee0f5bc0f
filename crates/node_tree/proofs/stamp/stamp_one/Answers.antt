use Rattle.std.proofs.Common.{is_some, sym, ap, ◌∙◌}
use Rattle.std.specs.Option.{option_map}
use Rattle.node_tree.proofs.Entries.{number_found, number_of}
use Rattle.node_tree.proofs.stamp.stamp_one.Goals as goal

pub returns-in-Some-clause-found : goal.returns-in-Some-clause-found
returns-in-Some-clause-found c =
    ap is_some (ap (option_map number_of) c.in-Some.ensures.value ∙ sym (number_found c.args.path.now c.args.map.now.entries))

pub returns-in-None-clause-found : goal.returns-in-None-clause-found
returns-in-None-clause-found c =
    ap is_some (ap (option_map number_of) c.in-None.ensures.value ∙ sym (number_found c.args.path.now c.args.map.now.entries))
