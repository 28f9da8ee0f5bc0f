use Rattle.std.proofs.Common.{◌≡◌, ◌<◌, ◌||◌, Bool, List, length, drop, get_or, ◌+◌, sym, ap, subst, ◌∙◌}
use Rattle.xs_model.specs.Paths.{Path}
use Rattle.node_tree.specs.KeptTree.{gens_of}
use Rattle.node_tree.specs.Numbers.{one_has}
use Rattle.node_tree.proofs.Stamped.{step_map, step_found}
use Rattle.node_tree.proofs.stamp.stamp_all.Goals as goal

pub loop-path-preserved : goal.loop-path-preserved
loop-path-preserved c =
    let ps = c.args.changed.now in
    let i = c.loop-path.path-index in
    let p = c.path-item.result in
    let h = subst (λ (l : List Path). i < length l) c.as_slice-path-items.ensures c.loop-path-test.true in
    let is = subst (λ (l : List Path). p ≡ get_or l i p) c.as_slice-path-items.ensures c.path-item.is in
    record {
      map = step_map ps i p c.args.number c.loop-path.map c.stamp_one.new.map h is c.stamp_one.ensures.map ∙ c.loop-path.invariant.map;
      found = ap (λ b. b || one_has (drop (i + 1) ps) (gens_of c.stamp_one.new.map.entries)) c.either-found.ensures
          ∙ step_found ps i p c.args.number c.loop-path.map c.stamp_one.new.map h is c.stamp_one.ensures.map c.loop-path.found c.stamp_one.result c.stamp_one.ensures.rising c.stamp_one.ensures.found
          ∙ c.loop-path.invariant.found;
    }
