use Rattle.std.proofs.Common.{◌≡◌, ℕ, true, nat_le, take, refl, ◌+◌, ◌-◌, ◌<◌, ◌≤◌, List, length, get_or, [], ap, sym, subst, ◌∙◌, arith}
use Rattle.std.specs.FinMap.{is_sorted}
use Rattle.std.specs.List.{HoldsAt}
use Rattle.std.proofs.lemmas.List.{get_or_read, length-take}
use Rattle.std.proofs.lemmas.List.Elements.{All-same}
use Rattle.xs_model.specs.Paths.{Path, path_cmp}
use Rattle.path_map.specs.Map.{Entries}
use Rattle.path_map.specs.Chunks.{half, full, joined, halved, debt, IsRangeFor, IsLaidOut}
use Rattle.path_map.proofs.Halved.{joined_halved, filled_halved, halves_range, halves_space, debt-halved, from_full}
use Rattle.path_map.proofs.Laid.{laid_out_halved}
use Rattle.path_map.proofs.chunks.make_room.Goals as goal

within : {T : Type 0} → (p : Path) (l cs : List (Entries T)) (i : ℕ) → l ≡ cs → IsRangeFor p l i (i + 1) → i < length cs
within p l cs i e r = omega (arith, r.within, ap length e)

long : {X : Type 0} → (cs : List (Entries X)) (i : ℕ) (c : Entries X) → i < length cs → c ≡ get_or cs i c → true ≡ nat_le full (length c) → full ≤ length (get_or cs i [])
long {X = X} cs i c h is e = subst (λ (d : Entries X). full ≤ length d) (get_or_read cs i c h is []) (from_full true (length c) e refl)

fewer : {T : Type 0} → (v w : List (Entries T)) (m n : ℕ) → w ≡ take (n - 1) v → m ≡ length w → n ≡ length v → 0 < n → m + 1 ≡ n
fewer v w m n e p q h = omega (arith, ap length e, length-take (n - 1) v)

pub chunk_between-requires-clause-rising : goal.chunk_between-requires-clause-rising
chunk_between-requires-clause-rising g c =
    let cs = c.args.chunks.now.items in
    let i = c.chunk_of-at.result in
    let h : i < length cs = within c.args.path.now c.deref.result.now cs i c.deref.ensures.value c.chunk_of-at.ensures in
    let new = c.deref-2.ensures.value ∙ c.split.ensures.halved in
    subst (λ l. is_sorted path_cmp l ≡ true) (sym (ap joined new ∙ joined_halved cs i h)) c.requires.rising

pub chunk_between-requires-clause-filled : goal.chunk_between-requires-clause-filled
chunk_between-requires-clause-filled g c =
    let cs = c.args.chunks.now.items in
    let i = c.chunk_of-at.result in
    let h : i < length cs = within c.args.path.now c.deref.result.now cs i c.deref.ensures.value c.chunk_of-at.ensures in
    let n : full ≤ length (get_or cs i []) = long cs i c.index.result.now h c.index.ensures c.if-not-is_full.ensures in
    let new = c.deref-2.ensures.value ∙ c.split.ensures.halved in
    All-same (λ (d : Entries g.row.T.Denot). 0 < length d) c.deref-2.result.now (halved cs i) new (filled_halved cs i h (omega (arith, n)) c.requires.laid_out.filled)

pub chunk_between-requires-clause-range : goal.chunk_between-requires-clause-range
chunk_between-requires-clause-range g c =
    let cs = c.args.chunks.now.items in
    let i = c.chunk_of-at.result in
    let h : i < length cs = within c.args.path.now c.deref.result.now cs i c.deref.ensures.value c.chunk_of-at.ensures in
    let new = c.deref-2.ensures.value ∙ c.split.ensures.halved in
    let range = subst (λ l. IsRangeFor c.args.path.now l i (i + 1)) c.deref.ensures.value c.chunk_of-at.ensures in
    subst (λ l. IsRangeFor c.args.path.now l i (i + 2)) (sym new) (halves_range cs i h c.args.path.now range)

pub returns-clause-joined : goal.returns-clause-joined
returns-clause-joined g c =
    let cs = c.args.chunks.now.items in
    let i = c.chunk_of-at.result in
    let h : i < length cs = within c.args.path.now c.deref.result.now cs i c.deref.ensures.value c.chunk_of-at.ensures in
    ap joined c.split.ensures.halved ∙ joined_halved cs i h

pub returns-clause-laid_out : goal.returns-clause-laid_out
returns-clause-laid_out g c =
    let cs = c.args.chunks.now.items in
    let i = c.chunk_of-at.result in
    let h : i < length cs = within c.args.path.now c.deref.result.now cs i c.deref.ensures.value c.chunk_of-at.ensures in
    let n : full ≤ length (get_or cs i []) = long cs i c.index.result.now h c.index.ensures c.if-not-is_full.ensures in
    subst (λ l. IsLaidOut l c.pop.new.self.items c.split.new.chunks.cap) (sym c.split.ensures.halved)
    (laid_out_halved cs c.args.spare.now.items c.pop.new.self.items c.args.chunks.now.cap c.split.new.chunks.cap i c.args.spare.now.len h (omega (arith, n)) c.pop.ensures.rest c.args.spare.now.ok.0 c.requires.spare c.split.ensures.capacity c.requires.laid_out)

pub returns-clause-space : goal.returns-clause-space
returns-clause-space g c =
    let cs = c.args.chunks.now.items in
    let i = c.chunk_of-at.result in
    let h : i < length cs = within c.args.path.now c.deref.result.now cs i c.deref.ensures.value c.chunk_of-at.ensures in
    subst (λ l. HoldsAt (λ (d : Entries g.row.T.Denot). length d < full) l c.chunk_between.result) (sym c.split.ensures.halved)
    (halves_space cs i h (subst (λ l. HoldsAt (λ (d : Entries g.row.T.Denot). length d ≤ half) l (i + 1)) c.split.ensures.halved c.split.ensures.len) c.chunk_between.result c.chunk_between.ensures.low c.chunk_between.ensures.high)

pub returns-clause-debt : goal.returns-clause-debt
returns-clause-debt g c =
    let cs = c.args.chunks.now.items in
    let i = c.chunk_of-at.result in
    let h : i < length cs = within c.args.path.now c.deref.result.now cs i c.deref.ensures.value c.chunk_of-at.ensures in
    let n : full ≤ length (get_or cs i []) = long cs i c.index.result.now h c.index.ensures c.if-not-is_full.ensures in
    let less = debt-halved cs i h n (subst (λ l. HoldsAt (λ (d : Entries g.row.T.Denot). length d ≤ half) l (i + 1)) c.split.ensures.halved c.split.ensures.len) in
    let one = fewer c.args.spare.now.items c.pop.new.self.items c.pop.new.self.len c.args.spare.now.len c.pop.ensures.rest c.pop.new.self.ok.0 c.args.spare.now.ok.0 c.requires.spare in
    omega (arith, less, one, ap debt c.split.ensures.halved)
