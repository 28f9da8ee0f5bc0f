use Rattle.std.proofs.Common.{◌≡◌, ◌++◌, ◌∷◌, [], ap, sym, refl, append-nil, ◌∙◌, arith, Option}
use Rattle.std.proofs.lemmas.Bool.Decides.{nat_tests}
use Rattle.std.specs.Option.{option_to_list}
use Rattle.xs_model.specs.Paths.{Path}
use Rattle.tree_ops.proofs.RemoveLemmas.{last_is, last_below, last_present, last_childless, removed_more}
use Rattle.tree_ops.proofs.edits.remove_all.Goals as goal

pub remove-requires-clause-below : goal.remove-requires-clause-below
remove-requires-clause-below g c =
    let pop : c.left.left.items ≡ c.pop.new.self.items ++ c.unwrap-path.result ∷ [] = c.pop.ensures.items ∙ ap (λ (o : Option Path). c.pop.new.self.items ++ option_to_list o) c.unwrap-path.ensures in
    let last = last_is (g.V.View.nodes c.args.view.now) (g.V.View.nodes c.left.view) c.args.paths.items c.left.left.items c.pop.new.self.items c.unwrap-path.result c.requires.fits c.left.invariant.removed pop in
    last_below _ _ _ _ _ _ _ last.2

pub remove-requires-clause-present : goal.remove-requires-clause-present
remove-requires-clause-present g c =
    let pop : c.left.left.items ≡ c.pop.new.self.items ++ c.unwrap-path.result ∷ [] = c.pop.ensures.items ∙ ap (λ (o : Option Path). c.pop.new.self.items ++ option_to_list o) c.unwrap-path.ensures in
    let last = last_is (g.V.View.nodes c.args.view.now) (g.V.View.nodes c.left.view) c.args.paths.items c.left.left.items c.pop.new.self.items c.unwrap-path.result c.requires.fits c.left.invariant.removed pop in
    last_present _ _ _ _ _ _ _ last.2

pub remove-requires-clause-childless : goal.remove-requires-clause-childless
remove-requires-clause-childless g c =
    let pop : c.left.left.items ≡ c.pop.new.self.items ++ c.unwrap-path.result ∷ [] = c.pop.ensures.items ∙ ap (λ (o : Option Path). c.pop.new.self.items ++ option_to_list o) c.unwrap-path.ensures in
    let last = last_is (g.V.View.nodes c.args.view.now) (g.V.View.nodes c.left.view) c.args.paths.items c.left.left.items c.pop.new.self.items c.unwrap-path.result c.requires.fits c.left.invariant.removed pop in
    last_childless _ _ _ _ _ _ _ last.2

pub left-preserved : goal.left-preserved
left-preserved g c =
    let pop : c.left.left.items ≡ c.pop.new.self.items ++ c.unwrap-path.result ∷ [] = c.pop.ensures.items ∙ ap (λ (o : Option Path). c.pop.new.self.items ++ option_to_list o) c.unwrap-path.ensures in
    record {
      removed = removed_more (g.V.View.nodes c.args.view.now) (g.V.View.nodes c.left.view) _ c.args.paths.items c.left.left.items c.pop.new.self.items c.unwrap-path.result c.left.invariant.removed pop c.remove.ensures.nodes;
      made = g.met.V.View.made_backwards c.args.view.now c.left.view c.remove.new.self c.unwrap-path.result c.left.invariant.removed.gone c.left.invariant.made c.remove.ensures.made;
      spare = grind (arith, nat_tests, c.remove.ensures.spare, c.pop.ensures.len, c.left.invariant.spare);
    }

pub left-init : goal.left-init
left-init g c = record {
  removed = record { gone = []; parts = sym (append-nil c.args.paths.items); made = refl };
  made = g.met.V.View.made_nothing c.args.view.now;
  spare = c.requires.spare;
}
