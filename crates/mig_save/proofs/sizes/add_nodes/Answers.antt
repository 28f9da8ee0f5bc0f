use Rattle.std.proofs.Common.{◌≡◌, ◌≤◌, ◌+◌, List, ℕ, true, length, sym, ap, subst, ◌∙◌}
use Rattle.std.proofs.lemmas.Result.{IfOk-weaker}
use Rattle.std.specs.List.{AllByRecursion}
use Rattle.std.specs.FinMap.{is_sorted}
use Rattle.xs_model.specs.Paths.{path_cmp}
use Rattle.xs_model.specs.Generations.{Generations, generation_max}
use Rattle.kept_model.specs.Sound.{NodesFit}
use Rattle.node_tree.specs.KeptTree.{nodes_of}
use Rattle.mig_save.specs.Texts.{nodes_text, tree_text}
use Rattle.mig_save.proofs.Numbers.{entries_fit, text_numbered}
use Rattle.mig_save.proofs.sizes.add_nodes.Goals as goal

pub add_walk-requires : goal.add_walk-requires
add_walk-requires c =
    entries_fit c.walk.result (subst NodesFit (sym c.walk.ensures.nodes) c.requires)
    (subst (λ (gens : Generations). AllByRecursion (λ e. e.1 ≤ generation_max) gens) (sym c.walk.ensures.gens) c.is_kept.ensures.numbers)

pub returns : goal.returns
returns c =
    let es = c.walk.result in
    let rising : is_sorted path_cmp (nodes_of es) ≡ true = ap (is_sorted path_cmp) c.walk.ensures.nodes ∙ c.is_kept.ensures.tree.rising in
    let same : nodes_text es ≡ tree_text c.args.tree.now.gens c.args.tree.now.nodes =
    text_numbered es rising ∙ ap (λ (gens : Generations). tree_text gens (nodes_of es)) c.walk.ensures.gens ∙ ap (tree_text c.args.tree.now.gens) c.walk.ensures.nodes in
    IfOk-weaker c.add_walk.result (λ (n : ℕ). n ≡ c.args.count + length (nodes_text es)) (λ (n : ℕ). n ≡ c.args.count + length (tree_text c.args.tree.now.gens c.args.tree.now.nodes))
    (λ n h. h ∙ ap (λ (x : List ℕ). c.args.count + length x) same) c.add_walk.ensures
