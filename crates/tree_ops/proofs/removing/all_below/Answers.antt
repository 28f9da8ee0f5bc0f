use Rattle.std.proofs.Common.{◌++◌, ◌∷◌, [], List, length, sym, ap, subst, ◌∙◌, arith, append_assoc, Option}
use Rattle.xs_model.specs.Paths.{Path, path_cmp}
use Rattle.xs_model.specs.Trees.{all_below}
use Rattle.xs_model.proofs.PathLemmas.{is_below-itself}
use Rattle.tree_ops.specs.Rising.{behind}
use Rattle.tree_ops.specs.Walks.{IsNext}
use Rattle.tree_ops.proofs.WalkLemmas.{walk_start, walk_on, walk_end}
use Rattle.tree_ops.proofs.removing.all_below.Goals as goal

pub walk-init : goal.walk-init
walk-init g c = record {
  rest = rw (c.new-paths.ensures.items, c.in_ok-at.ensures) (walk_start (g.V.View.nodes c.args.view.now) c.requires.tree c.args.top.now c.requires.there);
  below = rw c.in_ok-at.ensures (is_below-itself c.args.top.now);
}

pub walk-smaller : goal.walk-smaller
walk-smaller g c =
    let tree = g.V.View.nodes c.args.view.now in
    let next = subst (λ (o : Option Path). IsNext tree c.args.top.now c.walk.at o) c.in-Some.is c.in_ok-next.ensures in
    omega (arith, ap length (walk_on tree c.requires.tree c.args.top.now c.walk.at c.in-Some.path next))

pub walk-preserved : goal.walk-preserved
walk-preserved g c =
    let tree = g.V.View.nodes c.args.view.now in
    let next = subst (λ (o : Option Path). IsNext tree c.args.top.now c.walk.at o) c.in-Some.is c.in_ok-next.ensures in
    let rest = behind path_cmp c.in-Some.path (all_below tree c.args.top.now) in
    record {
      rest =
          ap (λ (ps : List Path). ps ++ c.in-Some.path ∷ rest) c.in_ok-push.ensures.items
          ∙ append_assoc c.walk.paths.items (c.walk.at ∷ []) (c.in-Some.path ∷ rest)
          ∙ ap (λ (ps : List Path). c.walk.paths.items ++ c.walk.at ∷ ps) (sym (walk_on tree c.requires.tree c.args.top.now c.walk.at c.in-Some.path next))
          ∙ c.walk.invariant.rest;
      below = next.0.below;
    }

pub returns-in-None : goal.returns-in-None
returns-in-None g c =
    let tree = g.V.View.nodes c.args.view.now in
    let next = subst (λ (o : Option Path). IsNext tree c.args.top.now c.walk.at o) c.in-None.is c.in_ok-next.ensures in
    c.in_ok-push.ensures.items
    ∙ ap (λ (ps : List Path). c.walk.paths.items ++ c.walk.at ∷ ps) (sym (walk_end tree c.args.top.now c.walk.at next))
    ∙ c.walk.invariant.rest
