use Rattle.std.proofs.Common.{◌≡◌, ◌<◌, true, [], length, sym, subst, ◌∙◌, arith}
use Rattle.std.specs.FinMap.{is_sorted}
use Rattle.std.proofs.lemmas.List.{get_or_read}
use Rattle.xs_model.specs.Paths.{path_cmp}
use Rattle.path_map.specs.Map.{Entries}
use Rattle.path_map.proofs.Chunked.{sorted_at}
use Rattle.path_map.proofs.PastChunks.{first_here, first_later}
use Rattle.path_map.proofs.past.first_past.Goals as goal

pub first_past-requires : goal.first_past-requires
first_past-requires g c =
    let cs = c.args.chunks.now in
    let i = c.chunk_past-at.result in
    let inside : i < length cs = omega (arith, c.chunk_past-at.ensures.within) in
    let own = get_or_read cs i c.index-chunks-at.result inside c.index-chunks-at.is [] in
    subst (λ (d : Entries g.row.T.Denot). is_sorted path_cmp d ≡ true) (sym own) (sorted_at cs i inside c.requires.rising)

pub returns-in-Some : goal.returns-in-Some
returns-in-Some g c =
    sym (first_here c.args.path.now c.args.leaf.now c.args.chunks.now c.chunk_past-at.result c.index-chunks-at.result c.chunk_past-at.ensures c.index-chunks-at.is c.in-Some.first.now (sym c.in-Some.ensures))

pub returns-in-None : goal.returns-in-None
returns-in-None g c =
    c.first_of.ensures
    ∙ sym (first_later c.args.path.now c.args.leaf.now c.args.chunks.now c.chunk_past-at.result c.index-chunks-at.result c.chunk_past-at.ensures c.index-chunks-at.is (sym c.in-None.ensures))
