use Rattle.std.proofs.Common.{◌≡◌, ℕ, ◌+◌, ◌<◌, ◌≤◌, true, List, [], length, set, get_or, sym, ap, subst, ◌∙◌, arith, length-set}
use Rattle.std.specs.FinMap.{put, is_sorted}
use Rattle.std.proofs.lemmas.List.{get_or_read}
use Rattle.xs_model.specs.Paths.{Path, path_cmp}
use Rattle.xs_model.proofs.Maps.{sorted_put}
use Rattle.xs_model.proofs.PathLemmas.{path_total}
use Rattle.path_map.specs.Map.{Map, Entries}
use Rattle.path_map.specs.Chunks.{joined, debt, room, IsRangeFor}
use Rattle.path_map.proofs.Chunked.{sorted_it, put_it}
use Rattle.path_map.proofs.Halved.{debt-put, put_room}
use Rattle.path_map.proofs.Laid.{laid_out_set}
use Rattle.path_map.proofs.Rising.{length-put-some}
use Rattle.path_map.proofs.map.PathMap.put.Goals as goal

-- an edit of the path's chunk is the edit of the map
edited : {X : Type 0} (p : Path) (x : X) (cs : List (Entries X)) (i : ℕ) (c d t : Entries X) → IsRangeFor p cs i (i + 1) → c ≡ get_or cs i c → d ≡ put path_cmp p x c → joined cs ≡ t → joined (set cs i d) ≡ put path_cmp p x t
edited {X = X} p x cs i c d t range is new same =
    ap (λ (e : Entries X). joined (set cs i e)) new ∙ put_it p cs i c range is x ∙ ap (put path_cmp p x) same

pub put-requires-clause-rising : goal.put-requires-clause-rising
put-requires-clause-rising g c =
    sorted_it c.args.path c.make_room-at.new.chunks.items c.make_room-at.result c.index_mut.result.now c.make_room-at.ensures.range c.index_mut.ensures.value
    (subst (λ (t : Entries g.row.T.Denot). is_sorted path_cmp t ≡ true) (sym c.make_room-at.ensures.joined) c.self.invariant.rising)

pub invariant_of-self-2 : goal.invariant_of-self-2
invariant_of-self-2 g c =
    let cs = c.make_room-at.new.chunks.items in
    let i = c.make_room-at.result in
    let d = c.index_mut.result.now in
    let all = edited c.args.path c.args.item cs i d c.put.new.self (joined c.self.inside.chunks.items) c.make_room-at.ensures.range c.index_mut.ensures.value c.put.ensures c.make_room-at.ensures.joined in
    record {
      rising = subst (λ (t : Entries g.row.T.Denot). is_sorted path_cmp t ≡ true) (sym all) (sorted_put path_cmp path_total c.args.path c.args.item (joined c.self.inside.chunks.items) c.self.invariant.rising);
      laid_out = laid_out_set cs c.make_room-at.new.spare.items c.make_room-at.new.chunks.cap i c.put.new.self (subst (λ (t : Entries g.row.T.Denot). 0 < length t) (sym c.put.ensures) (length-put-some path_cmp c.args.path c.args.item d)) c.make_room-at.ensures.laid_out;
    }

pub returns-clause-entries : goal.returns-clause-entries
returns-clause-entries g c =
    edited c.args.path c.args.item c.make_room-at.new.chunks.items c.make_room-at.result c.index_mut.result.now c.put.new.self (joined c.self.inside.chunks.items) c.make_room-at.ensures.range c.index_mut.ensures.value c.put.ensures c.make_room-at.ensures.joined
    ∙ ap (λ (m : Map g.row.T.Denot). put path_cmp c.args.path c.args.item m.entries) c.self.view_is

pub returns-clause-spare : goal.returns-clause-spare
returns-clause-spare g c =
    let cs = c.make_room-at.new.chunks.items in
    let i = c.make_room-at.result in
    let inside : i < length cs = omega (arith, c.make_room-at.ensures.range.within) in
    let own = get_or_read cs i c.index_mut.result.now inside c.index_mut.ensures.value [] in
    let more = subst (λ (t : Entries g.row.T.Denot). debt (set cs i t) ≤ debt cs + 1) (sym c.put.ensures) (debt-put cs i inside c.args.path c.args.item c.index_mut.result.now own) in
    let some : 0 < length c.self.inside.chunks.items = grind (arith, c.if-is_empty.false, c.is_empty.ensures, c.self.inside.chunks.ok.0) in
    subst (λ n. n ≤ room c.make_room-at.new.spare.len (set cs i c.put.new.self) + 1) (ap (λ (m : Map g.row.T.Denot). m.spare) c.self.view_is)
    (put_room c.self.inside.spare.len c.make_room-at.new.spare.len c.self.inside.chunks.items (set cs i c.put.new.self) (debt cs) 0 some (omega (arith, inside, length-set cs i c.put.new.self)) c.make_room-at.ensures.spare c.make_room-at.ensures.debt more)
