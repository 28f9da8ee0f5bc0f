use Rattle.std.proofs.Common.{◌≡◌, sym, ap, subst, ◌∙◌}
use Rattle.xs_model.specs.Commands.{removals}
use Rattle.xs_model.specs.Generations.{greatest, stamped, next_generation}
use Rattle.xs_model.specs.Trees.{Tree, edited}
use Rattle.mark_model.specs.Marks.{Marks, edits_by, written_paths}
use Rattle.node_tree.specs.Numbers.{renumbered, restamped, counted}
use Rattle.txn_access.specs.Plans.{wrote, gone_paths, FitsSets, FitsGone}
use Rattle.txn_access.specs.Txns.{Txn}
use Rattle.txn_access.proofs.CommitLemmas.{with_sets, parted, sets_fit, gone_fit}
use Rattle.txn_access.proofs.CommitNumbers.{renumbered_append, numbers_are, counter_is}
use Rattle.txn_access.proofs.txn.Txn.commit_planned.Goals as goal

pub set_all-gone-requires-clause-fits : goal.set_all-gone-requires-clause-fits
set_all-gone-requires-clause-fits c =
    subst (λ (ms : Marks). FitsSets c.args.tree.now.nodes (edits_by wrote ms)) (sym (ap (λ (t : Txn). t.marks) c.self.view_is))
    (sets_fit c.args.tree.now.nodes c.args.self.marks c.is_kept.ensures.rising c.requires.tree)

pub remove_all-requires : goal.remove_all-requires
remove_all-requires c =
    let tree = c.args.tree.now.nodes in
    let ms = c.args.self.marks in
    let view : c.self.inside.map.entries ≡ ms = ap (λ (t : Txn). t.marks) c.self.view_is in
    subst (λ (t : Tree). FitsGone t c.set_all-gone.result.items) (sym (c.set_all-gone.ensures.made.nodes ∙ ap (with_sets tree) view))
    (subst (FitsGone (with_sets tree ms)) (sym (c.set_all-gone.ensures.gone ∙ ap gone_paths view)) (gone_fit tree ms c.is_kept.ensures.rising c.requires.tree))

pub returns-clause-nodes : goal.returns-clause-nodes
returns-clause-nodes c =
    let tree = c.args.tree.now.nodes in
    let ms = c.args.self.marks in
    let view : c.self.inside.map.entries ≡ ms = ap (λ (t : Txn). t.marks) c.self.view_is in
    c.stamp.ensures.nodes ∙ c.remove_all.ensures.nodes
    ∙ (λ i. edited ((c.set_all-gone.ensures.made.nodes ∙ ap (with_sets tree) view) i) (removals ((c.set_all-gone.ensures.gone ∙ ap gone_paths view) i)))
    ∙ parted tree ms c.is_kept-2.ensures.tree.rising c.is_kept.ensures.rising

pub returns-clause-numbers : goal.returns-clause-numbers
returns-clause-numbers c = λ same.
    let tree = c.args.tree.now.nodes in
    let gens = c.args.tree.now.gens in
    let ms = c.args.self.marks in
    let changed = c.args.plan.changed in
    let view : c.self.inside.map.entries ≡ ms = ap (λ (t : Txn). t.marks) c.self.view_is in
    let counter = c.remove_all.ensures.counter ∙ c.set_all-gone.ensures.made.counter ∙ same in
    let mid = c.remove_all.ensures.gens
    ∙ (λ i. renumbered ((c.set_all-gone.ensures.made.gens ∙ ap (λ (m : Marks). renumbered gens (edits_by wrote m)) view) i) (removals ((c.set_all-gone.ensures.gone ∙ ap gone_paths view) i)))
    ∙ sym (renumbered_append gens (edits_by wrote ms) (removals (gone_paths ms))) in
    let nodes = c.stamp.ensures.nodes ∙ c.remove_all.ensures.nodes
    ∙ (λ i. edited ((c.set_all-gone.ensures.made.nodes ∙ ap (with_sets tree) view) i) (removals ((c.set_all-gone.ensures.gone ∙ ap gone_paths view) i)))
    ∙ parted tree ms c.is_kept-2.ensures.tree.rising c.is_kept.ensures.rising in
    c.stamp.ensures.gens ∙ ap (restamped changed (next_generation c.remove_all.new.tree.counter)) mid
    ∙ numbers_are tree gens ms changed c.is_kept.ensures.rising c.is_kept-2.ensures.tree c.is_kept-2.ensures.keys c.requires.tree c.requires.plan.changed (next_generation c.remove_all.new.tree.counter) (ap next_generation counter)
    ∙ ap (stamped gens tree (written_paths ms)) (sym nodes)

pub returns-clause-greatest : goal.returns-clause-greatest
returns-clause-greatest c = λ same.
    let tree = c.args.tree.now.nodes in
    let gens = c.args.tree.now.gens in
    let ms = c.args.self.marks in
    let changed = c.args.plan.changed in
    let view : c.self.inside.map.entries ≡ ms = ap (λ (t : Txn). t.marks) c.self.view_is in
    let counter = c.remove_all.ensures.counter ∙ c.set_all-gone.ensures.made.counter in
    let mid = c.remove_all.ensures.gens
    ∙ (λ i. renumbered ((c.set_all-gone.ensures.made.gens ∙ ap (λ (m : Marks). renumbered gens (edits_by wrote m)) view) i) (removals ((c.set_all-gone.ensures.gone ∙ ap gone_paths view) i)))
    ∙ sym (renumbered_append gens (edits_by wrote ms) (removals (gone_paths ms))) in
    c.stamp.ensures.counter ∙ (λ i. counted changed (counter i) (mid i))
    ∙ counter_is tree gens ms changed c.is_kept.ensures.rising c.is_kept-2.ensures.tree c.is_kept-2.ensures.keys c.requires.tree c.requires.plan.changed c.args.tree.now.counter c.is_kept-2.ensures.counter same
    ∙ sym (ap greatest (c.stamp.ensures.gens ∙ (λ i. restamped changed (next_generation (counter i)) (mid i))))
