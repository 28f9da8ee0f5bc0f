use Rattle.std.proofs.Common.{sym, ap, ◌∙◌}
use Rattle.std.specs.Option.{option_map}
use Rattle.std.specs.FinMap.{find}
use Rattle.xs_model.specs.Paths.{path_cmp}
use Rattle.node_tree.specs.KeptTree.{KeptTree}
use Rattle.node_tree.proofs.Entries.{number_found, number_of}
use Rattle.node_tree.proofs.Tree.generation.Goals as goal

pub returns-in-Some : goal.returns-in-Some
returns-in-Some c =
    let p = c.args.path.now in
    ap (option_map number_of) c.in-Some.ensures.value ∙ sym (number_found p c.self.inside.map.entries) ∙ ap (λ (t : KeptTree). find path_cmp p t.gens) c.self.view_is

pub returns-in-None : goal.returns-in-None
returns-in-None c =
    let p = c.args.path.now in
    ap (option_map number_of) c.in-None.ensures.value ∙ sym (number_found p c.self.inside.map.entries) ∙ ap (λ (t : KeptTree). find path_cmp p t.gens) c.self.view_is
