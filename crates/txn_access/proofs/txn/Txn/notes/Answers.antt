use Rattle.std.proofs.Common.{◌≡◌, ◌∷◌, [], ◌++◌, ◌+◌, List, Option, drop, sym, ap, subst, ◌∙◌, add-one}
use Rattle.std.proofs.Math.Seq.{drop-cons}
use Rattle.xs_model.specs.Paths.{Path}
use Rattle.xs_model.specs.Trees.{Node}
use Rattle.mark_model.specs.Marks.{note_all}
use Rattle.txn_access.specs.Txns.{note_each}
use Rattle.txn_access.proofs.NoteLemmas.{StaysUnwanted, one_more, stays_more}
use Rattle.txn_access.proofs.txn.Txn.notes.Goals as goal

pub loop-path-preserved : goal.loop-path-preserved
loop-path-preserved c =
    let ps : List Path = c.args.changed.now in
    let i = c.loop-path.path-index in
    let p : Path = c.path-item.result in
    let tree = c.args.tree.now.nodes in
    let marks = c.args.self.now.marks in
    let notes = c.loop-path.notes.items in
    let more : c.push.new.self.items ≡ notes ++ (p, c.in_ok-old.old) ∷ [] = c.in_ok-push.ensures.items ∙ ap (λ (q : Path). notes ++ (q, c.in_ok-old.old) ∷ []) c.in_ok-copy.ensures in
    let left : drop i ps ≡ p ∷ drop (i + 1) ps =
    drop-cons ps i p c.loop-path-test.true ∙ (λ j. sym c.path-item.is j ∷ drop (sym (add-one i) j) ps)
    in
    record {
      rest = ap (λ (ns : List (Path × Option Node)). note_all tree (drop (i + 1) ps) (note_each ns marks)) more
          ∙ one_more tree marks notes c.loop-path.invariant.stays p c.in_ok-old.old (drop (i + 1) ps) c.in_ok-old.ensures
          ∙ ap (λ (qs : List Path). note_all tree qs (note_each notes marks)) (sym left)
          ∙ c.loop-path.invariant.rest;
      stays = subst (λ (ns : List (Path × Option Node)). StaysUnwanted marks ns) (sym more) (stays_more tree marks notes c.loop-path.invariant.stays p c.in_ok-old.old);
    }
