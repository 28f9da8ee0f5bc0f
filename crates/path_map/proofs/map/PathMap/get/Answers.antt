use Rattle.std.proofs.Common.{◌+◌, ap, subst, ◌∙◌}
use Rattle.std.specs.FinMap.{find}
use Rattle.xs_model.specs.Paths.{path_cmp}
use Rattle.path_map.specs.Map.{Map}
use Rattle.path_map.specs.Chunks.{IsRangeFor}
use Rattle.path_map.proofs.Chunked.{sorted_it, find_it}
use Rattle.path_map.proofs.map.PathMap.get.Goals as goal

pub get-requires : goal.get-requires
get-requires g c =
    let range = subst (λ l. IsRangeFor c.args.path.now l c.chunk_of-at.result (c.chunk_of-at.result + 1)) c.deref.ensures.value c.chunk_of-at.ensures in
    sorted_it c.args.path.now c.self.inside.chunks.items c.chunk_of-at.result c.index.result.now range c.index.ensures c.self.invariant.rising

pub returns-clause-value : goal.returns-clause-value
returns-clause-value g c =
    let range = subst (λ l. IsRangeFor c.args.path.now l c.chunk_of-at.result (c.chunk_of-at.result + 1)) c.deref.ensures.value c.chunk_of-at.ensures in
    c.get.ensures ∙ find_it c.args.path.now c.self.inside.chunks.items c.chunk_of-at.result c.index.result.now range c.index.ensures
    ∙ ap (λ (m : Map g.row.T.Denot). find path_cmp c.args.path.now m.entries) c.self.view_is
