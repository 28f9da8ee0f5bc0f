use Rattle.std.proofs.Common.{◌≡◌, [], cond, ◌||◌, false, sym, ap, ◌∙◌, subst}
use Rattle.xs_model.specs.Trees.{is_present}
use Rattle.xs_model.specs.Requests.{is_root}
use Rattle.xs_model.specs.Generations.{Generations, greater, greatest, generation_of}
use Rattle.mig_load.specs.Nodes.{Nodes}
use Rattle.mig_load.proofs.NodeLemmas.{greatest_put, new_number, root_number}
use Rattle.mig_load.proofs.nodes.Nodes.put.Goals as goal

pub invariant_of-self-2 : goal.invariant_of-self-2
invariant_of-self-2 c =
    let p = c.args.path in
    let n = c.args.generation in
    let gens = c.self.inside.tree.gens in
    let tree = c.self.inside.tree.nodes in
    let new : cond (is_root p) c.self.inside.has_root (is_present tree p) ≡ false =
    subst (λ (s : Nodes). cond (is_root p) s.has_root (is_present s.tree p) ≡ false) (sym c.self.view_is) c.requires.new in
    let free = new_number gens tree c.self.inside.has_root p c.is_kept.ensures.keys c.self.invariant.free_root new in
    record {
      highest = c.in_ok-put_in.ensures.counter ∙ ap (λ k. greater k n) c.self.invariant.highest ∙ sym (greatest_put p n gens free) ∙ ap greatest (sym c.in_ok-put_in.ensures.gens);
      free_root = λ h. ap (λ (g : Generations). generation_of g []) c.in_ok-put_in.ensures.gens
          ∙ root_number gens c.self.inside.has_root p n c.self.invariant.free_root (ap (λ (s : Nodes). s.has_root || is_root p) c.self.view_is ∙ sym c.has_root_with-has_root.ensures ∙ h);
    }
