use Rattle.std.proofs.Common.{◌≡◌, ℕ, ◌+◌, ◌<◌, List, [], length, set, sym, ap, subst, ◌∙◌, arith, length-set}
use Rattle.std.proofs.lemmas.List.{get_or_read}
use Rattle.xs_model.specs.Paths.{Path}
use Rattle.path_map.specs.Map.{Entries}
use Rattle.path_map.specs.Chunks.{joined, IsRangeFor}
use Rattle.path_map.proofs.Chunked.{sorted_it}
use Rattle.path_map.proofs.Removed.{removed_it, debt-removed, no_entry, dropped}
use Rattle.path_map.proofs.chunks.remove.Goals as goal

-- where the path belongs
range : {T : Type 0} → (p : Path) (given cs : List (Entries T)) (i : ℕ) → given ≡ cs → IsRangeFor p given i (i + 1) → IsRangeFor p cs i (i + 1)
range p given cs i same r = subst (λ l. IsRangeFor p l i (i + 1)) same r

pub remove-requires : goal.remove-requires
remove-requires g c =
    let p = c.args.path.now in
    let cs = c.args.chunks.now.items in
    let i = c.chunk_of-at.result in
    sorted_it p cs i c.index_mut.result.now (range p c.deref.result.now cs i c.deref.ensures.value c.chunk_of-at.ensures) c.index_mut.ensures.value c.requires.rising

pub returns-then-is_empty-clause-joined : goal.returns-then-is_empty-clause-joined
returns-then-is_empty-clause-joined g c =
    let p = c.args.path.now in
    let cs = c.args.chunks.now.items in
    let i = c.chunk_of-at.result in
    let ds = set cs i c.remove.new.self in
    let r = range p c.deref.result.now cs i c.deref.ensures.value c.chunk_of-at.ensures in
    let inside : i < length ds = omega (arith, r.within, length-set cs i c.remove.new.self) in
    let none = sym (get_or_read ds i c.index.result.now inside c.index.ensures []) ∙ no_entry c.index.result.now c.is_empty.result c.is_empty.ensures c.if-is_empty.true in
    ap joined c.remove-chunk.ensures.by_index.2 ∙ dropped ds i inside none
    ∙ removed_it p cs i c.index_mut.result.now r c.index_mut.ensures.value c.remove.new.self c.remove.ensures

pub returns-else-is_empty-clause-joined : goal.returns-else-is_empty-clause-joined
returns-else-is_empty-clause-joined g c =
    let p = c.args.path.now in
    let cs = c.args.chunks.now.items in
    let i = c.chunk_of-at.result in
    removed_it p cs i c.index_mut.result.now (range p c.deref.result.now cs i c.deref.ensures.value c.chunk_of-at.ensures) c.index_mut.ensures.value c.remove.new.self c.remove.ensures

pub returns-else-is_empty-clause-debt : goal.returns-else-is_empty-clause-debt
returns-else-is_empty-clause-debt g c =
    let p = c.args.path.now in
    let cs = c.args.chunks.now.items in
    let i = c.chunk_of-at.result in
    debt-removed p cs i c.index_mut.result.now (range p c.deref.result.now cs i c.deref.ensures.value c.chunk_of-at.ensures) c.index_mut.ensures.value c.remove.new.self c.remove.ensures
