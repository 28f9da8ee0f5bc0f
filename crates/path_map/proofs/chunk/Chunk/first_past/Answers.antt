use Rattle.std.proofs.Common.{◌≤◌, ◌<◌, length, ap, subst, ◌∙◌, arith}
use Rattle.path_map.specs.Map.{Entries}
use Rattle.path_map.specs.Marks.{IsPastFrom}
use Rattle.path_map.proofs.Marked.{first, first_there, first_nowhere}
use Rattle.path_map.proofs.chunk.Chunk.first_past.Goals as goal

pub returns-then-place-len : goal.returns-then-place-len
returns-then-place-len g c =
    let p = c.args.path.now in
    let leaf = c.args.leaf.now in
    let entries = c.self.inside.entries.items in
    let place = c.place_past-place.result in
    let there = subst (λ (es : Entries g.row.T.Denot). IsPastFrom p leaf es place) c.deref.ensures.value c.place_past-place.ensures in
    let inside : place < length entries = omega (arith, c.if-place-len.true, c.len.ensures, c.self.inside.entries.ok.0) in
    first_there p leaf entries place there c.index.result.now inside c.index.ensures ∙ ap (first p leaf) c.self.view_is

pub returns-else-place-len : goal.returns-else-place-len
returns-else-place-len g c =
    let p = c.args.path.now in
    let leaf = c.args.leaf.now in
    let entries = c.self.inside.entries.items in
    let place = c.place_past-place.result in
    let there = subst (λ (es : Entries g.row.T.Denot). IsPastFrom p leaf es place) c.deref.ensures.value c.place_past-place.ensures in
    let past : length entries ≤ place = omega (arith, c.if-place-len.false, c.len.ensures, c.self.inside.entries.ok.0) in
    first_nowhere p leaf entries place there past ∙ ap (first p leaf) c.self.view_is
