use Rattle.std.proofs.Common.{◌≡◌, ◌∙◌, sym, ap, subst}
use Rattle.xs_model.specs.Paths.{Path, is_below}
use Rattle.xs_model.specs.Watches.{Event}
use Rattle.xs_model.proofs.PathLemmas.{is_below-itself}
use Rattle.watchers.specs.Index.{HasAllReached, is_listed}
use Rattle.watchers.proofs.SetLemmas.{FoundTo, IsParent, up_first, up_next, up_last, parent_of, reached_exact, reached_broad}
use Rattle.watchers.proofs.index.reached_in.Goals as goal

pub returns-then-change : goal.returns-then-change
returns-then-change c =
    subst (λ (e : Event). HasAllReached e c.args.index.now.entries c.join_at.new.ids) c.change.view_is
    (reached_exact c.change.inside.path c.change.inside.exact c.args.index.now.entries c.join_at.new.ids c.if-change.true c.in_ok-join_at.ensures.more)

pub up-init : goal.up-init
up-init c =
    let path : Path = c.args.change.now.path in
    let index = c.args.index.now.entries in
    let same : c.change.inside.path ≡ c.args.change.now.path = ap (λ (e : Event). e.path) c.change.view_is in
    let node_is : c.in_ok-node.node ≡ c.args.change.now.path = c.in_ok-node.ensures ∙ same in
    record {
      way = ap (λ (p : Path). is_below p c.args.change.now.path) node_is ∙ is_below-itself path;
      found = subst (λ (p : Path). FoundTo c.args.change.now.path c.args.index.now.entries p c.join_at.new.ids) (sym node_is)
          (up_first path index c.join_at.new.ids (λ i there. c.in_ok-join_at.ensures.more i (ap (λ (p : Path). is_listed i p c.args.index.now.entries) same ∙ there)));
    }

pub up-preserved : goal.up-preserved
up-preserved c =
    let path : Path = c.args.change.now.path in
    let parent : IsParent c.up.node c.pop.new.self = parent_of c.up.node c.pop.new.self c.up-test.ensures.parent in
    record {
      way = parent.below path c.up.invariant.way;
      found = up_next path c.args.index.now.entries c.up.node c.pop.new.self c.up.ids c.join_at-in-up.new.ids c.up.invariant.way parent c.up.invariant.found c.in_ok-join_at-2.ensures.kept c.in_ok-join_at-2.ensures.more;
    }

pub returns : goal.returns
returns c =
    let same : c.change.inside.path ≡ c.args.change.now.path = ap (λ (e : Event). e.path) c.change.view_is in
    let all = up_last c.args.change.now.path c.args.index.now.entries c.up.node c.up.ids c.up-test.ensures.parent c.up.invariant.found in
    subst (λ (e : Event). HasAllReached e c.args.index.now.entries c.up.ids) c.change.view_is
    (reached_broad c.change.inside.path c.change.inside.exact c.args.index.now.entries c.up.ids c.if-change.false
    (λ i p below there. all i p (ap (λ (q : Path). is_below p q) (sym same) ∙ below) there))
