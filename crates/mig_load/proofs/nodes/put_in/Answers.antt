use Rattle.std.proofs.Common.{◌≡◌, ap, ◌∙◌}
use Rattle.std.specs.FinMap.{put}
use Rattle.xs_model.specs.Paths.{Path, path_cmp}
use Rattle.xs_model.proofs.PathLemmas.{path_total}
use Rattle.xs_model.specs.Trees.{Tree, is_present}
use Rattle.xs_model.specs.Generations.{greater, generation_of}
use Rattle.mig_load.proofs.NodeLemmas.{put_twice, there_now, numbered_now}
use Rattle.mig_load.proofs.nodes.put_in.Goals as goal

pub returns-clause-gens : goal.returns-clause-gens
returns-clause-gens c =
    let p = c.args.path in
    let place = c.in_ok-place.place in
    let n = c.args.generation in
    let same : place ≡ p = c.in_ok-place.ensures in
    let found = c.regenerate.ensures.found ∙ ap (λ (q : Path). is_present c.set.new.self.nodes q) same ∙ ap (λ (t : Tree). is_present t p) c.set.ensures.nodes ∙ there_now p c.args.node c.reserve.new.self.nodes in
    (numbered_now c.regenerate.result c.regenerate.new.self c.set.new.self place n found c.regenerate.ensures.after).0
    ∙ ap (λ (q : Path). put path_cmp q n c.set.new.self.gens) same
    ∙ ap (put path_cmp p n) c.set.ensures.made.gens
    ∙ put_twice path_cmp path_total p (generation_of c.reserve.new.self.gens p) n c.reserve.new.self.gens
    ∙ ap (put path_cmp p n) c.reserve.ensures.made.gens

pub returns-clause-counter : goal.returns-clause-counter
returns-clause-counter c =
    let p = c.args.path in
    let place = c.in_ok-place.place in
    let n = c.args.generation in
    let same : place ≡ p = c.in_ok-place.ensures in
    let found = c.regenerate.ensures.found ∙ ap (λ (q : Path). is_present c.set.new.self.nodes q) same ∙ ap (λ (t : Tree). is_present t p) c.set.ensures.nodes ∙ there_now p c.args.node c.reserve.new.self.nodes in
    (numbered_now c.regenerate.result c.regenerate.new.self c.set.new.self place n found c.regenerate.ensures.after).1
    ∙ ap (λ k. greater k n) (c.set.ensures.made.counter ∙ c.reserve.ensures.made.counter)
