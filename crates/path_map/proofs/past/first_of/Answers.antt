use Rattle.std.proofs.Common.{◌≡◌, true, [], sym, subst, ◌∙◌}
use Rattle.std.specs.FinMap.{is_sorted}
use Rattle.std.proofs.lemmas.List.{get_or_read}
use Rattle.xs_model.specs.Paths.{path_cmp}
use Rattle.path_map.specs.Map.{Entries}
use Rattle.path_map.proofs.Chunked.{sorted_at}
use Rattle.path_map.proofs.PastChunks.{first_of}
use Rattle.path_map.proofs.past.first_of.Goals as goal

pub first_past-requires : goal.first_past-requires
first_past-requires g c =
    let cs = c.args.chunks.now in
    let own = get_or_read cs c.args.at c.index-chunks-at.result c.if-at-chunks.true c.index-chunks-at.is [] in
    subst (λ (d : Entries g.row.T.Denot). is_sorted path_cmp d ≡ true) (sym own) (sorted_at cs c.args.at c.if-at-chunks.true c.requires.rising)

pub returns-then-at-chunks : goal.returns-then-at-chunks
returns-then-at-chunks g c =
    c.first_past.ensures
    ∙ first_of c.args.path.now c.args.leaf.now c.args.chunks.now c.args.at c.index-chunks-at.result c.requires.filled c.if-at-chunks.true c.index-chunks-at.is c.requires.behind
