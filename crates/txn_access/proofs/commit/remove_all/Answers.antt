use Rattle.std.proofs.Common.{◌≡◌, ◌++◌, ◌∷◌, [], ap, ◌∙◌, append_assoc, Option}
use Rattle.std.specs.Option.{option_to_list}
use Rattle.node_tree.specs.MadeProofs.{made_backwards}
use Rattle.xs_model.specs.Paths.{Path}
use Rattle.xs_model.specs.Trees.{Tree, children}
use Rattle.txn_access.proofs.CommitLemmas.{fits_last}
use Rattle.txn_access.proofs.commit.remove_all.Goals as goal

pub remove-requires-clause-below : goal.remove-requires-clause-below
remove-requires-clause-below c =
    let pop : c.left.left.items ≡ c.pop.new.self.items ++ c.unwrap-path.result ∷ [] = c.pop.ensures.items ∙ ap (λ (o : Option Path). c.pop.new.self.items ++ option_to_list o) c.unwrap-path.ensures in
    (fits_last c.args.tree.now.nodes c.args.gone.items c.left.left.items c.pop.new.self.items c.unwrap-path.result c.left.invariant.done c.requires c.left.invariant.parts pop).below

pub remove-requires-clause-childless : goal.remove-requires-clause-childless
remove-requires-clause-childless c =
    let pop : c.left.left.items ≡ c.pop.new.self.items ++ c.unwrap-path.result ∷ [] = c.pop.ensures.items ∙ ap (λ (o : Option Path). c.pop.new.self.items ++ option_to_list o) c.unwrap-path.ensures in
    ap (λ (t : Tree). children t c.unwrap-path.result) c.left.invariant.made.nodes
    ∙ (fits_last c.args.tree.now.nodes c.args.gone.items c.left.left.items c.pop.new.self.items c.unwrap-path.result c.left.invariant.done c.requires c.left.invariant.parts pop).childless

pub left-preserved : goal.left-preserved
left-preserved c =
    let pop : c.left.left.items ≡ c.pop.new.self.items ++ c.unwrap-path.result ∷ [] = c.pop.ensures.items ∙ ap (λ (o : Option Path). c.pop.new.self.items ++ option_to_list o) c.unwrap-path.ensures in
    record {
      done = c.unwrap-path.result ∷ c.left.invariant.done;
      parts = c.left.invariant.parts ∙ ap (λ l. l ++ c.left.invariant.done) pop ∙ append_assoc c.pop.new.self.items (c.unwrap-path.result ∷ []) c.left.invariant.done;
      made = made_backwards c.args.tree.now c.left.tree c.remove.new.self c.unwrap-path.result c.left.invariant.done c.left.invariant.made c.remove.ensures.made;
    }
