use borrow.Follows.Closed.{read_of}
use Rattle.std.proofs.Common.{◌≡◌, ℕ, ◌+◌, ◌<◌, true, cond, Option, Some, None, MutBor, List, [], length, get_or, set, inl, inr, is_some, refl, sym, ap, subst, ◌∙◌, arith}
use Rattle.std.specs.FinMap.{find, put, is_sorted}
use Rattle.std.specs.Option.{ghost_name_of, option_copied_mut}
use Rattle.std.proofs.lemmas.List.{get_or_read, set-get_or}
use Rattle.xs_model.specs.Paths.{Path, path_cmp}
use Rattle.xs_model.proofs.Maps.{sorted_put, length_put}
use Rattle.xs_model.proofs.PathLemmas.{path_total}
use Rattle.path_map.specs.Map.{Map, Entries}
use Rattle.path_map.specs.Chunks.{joined, room, IsRangeFor, IsLaidOut}
use Rattle.path_map.proofs.Chunked.{sorted_it, find_it, put_it}
use Rattle.path_map.proofs.Halved.{same_room}
use Rattle.path_map.proofs.Laid.{laid_out_set}
use Rattle.path_map.proofs.Rising.{length-put-some}
use Rattle.path_map.proofs.map.PathMap.get_mut.Goals as goal

-- what a loan leaves, where there is one and where there is none
loan : {W M : Type 0} (o : Option (MutBor W)) (f h : W → M) (v u : M) → ((x : W) → option_copied_mut o ≡ Some x → (w : W) → f w ≡ h w) → v ≡ u → read_of (ghost_name_of o) f v ≡ read_of (ghost_name_of o) h u
loan None f h v u same other = ap inr other
loan (Some x) f h v u same other = λ j. inl (x.ghost_name, λ w. same x.now refl w j)

module _ {X : Type 0} (p : Path) (cs : List (Entries X)) (i : ℕ) (c : Entries X) (r : IsRangeFor p cs i (i + 1)) (is : c ≡ get_or cs i c) (s : is_sorted path_cmp (joined cs) ≡ true) where
  inside : i < length cs
  inside = omega (arith, r.within)

  own : c ≡ get_or cs i []
  own = get_or_read cs i c inside is []

  itself : set cs i c ≡ cs
  itself = ap (set cs i) is ∙ set-get_or cs i c

  rising_put : (w : X) → is_sorted path_cmp (joined (set cs i (put path_cmp p w c))) ≡ true
  rising_put w = subst (λ (t : Entries X). is_sorted path_cmp t ≡ true) (sym (put_it p cs i c r is w)) (sorted_put path_cmp path_total p w (joined cs) s)

  -- an item in the place of the one that is there
  room_put : (n : ℕ) (x w : X) → find path_cmp p c ≡ Some x → room n (set cs i (put path_cmp p w c)) ≡ room n cs
  room_put n x w found =
      let len = length_put path_cmp path_total p w c (sorted_it p cs i c r is s) in
      same_room n cs i (put path_cmp p w c) inside
      (len ∙ ap (λ (o : Option X). cond (is_some o) (length c) (length c + 1)) found ∙ ap length own)

abbrev map_of : {X : Type 0} → Entries X → ℕ → ℕ → Map X
map_of entries spare kept = record { entries = entries; spare = spare; kept = kept }

pub get_mut-requires : goal.get_mut-requires
get_mut-requires g c =
    let range = subst (λ l. IsRangeFor c.args.path.now l c.chunk_of-at.result (c.chunk_of-at.result + 1)) c.deref.ensures.value c.chunk_of-at.ensures in
    sorted_it c.args.path.now c.self.inside.chunks.items c.chunk_of-at.result c.index_mut.result.now range c.index_mut.ensures.value c.self.invariant.rising

pub invariant_of-self-lent : goal.invariant_of-self-lent
invariant_of-self-lent g c = λ o.
    let p = c.args.path.now in
    let cs = c.self.inside.chunks.items in
    let i = c.chunk_of-at.result in
    let d = c.index_mut.result.now in
    let range = subst (λ l. IsRangeFor p l i (i + 1)) c.deref.ensures.value c.chunk_of-at.ensures in
    let is = c.index_mut.ensures.value in
    let laid = c.self.invariant.laid_out in (
      λ w. record {
        rising = rising_put p cs i d range is c.self.invariant.rising w;
        laid_out = laid_out_set cs c.self.inside.spare.items c.self.inside.chunks.cap i (put path_cmp p w d) (length-put-some path_cmp p w d) laid;
      },
      subst (λ (l : List (Entries g.row.T.Denot)). record { rising : is_sorted path_cmp (joined l) ≡ true; laid_out : IsLaidOut l c.self.inside.spare.items c.self.inside.chunks.cap }) (sym (itself p cs i d range is c.self.invariant.rising)) record { rising = c.self.invariant.rising; laid_out = laid },
    )

pub returns : goal.returns
returns g c =
    let p = c.args.path.now in
    let cs = c.self.inside.chunks.items in
    let i = c.chunk_of-at.result in
    let d = c.index_mut.result.now in
    let n = c.self.inside.spare.len in
    let range = subst (λ l. IsRangeFor p l i (i + 1)) c.deref.ensures.value c.chunk_of-at.ensures in
    let is = c.index_mut.ensures.value in
    let s = c.self.invariant.rising in
    let wrote : (x : g.row.T.Denot) → option_copied_mut c.get_mut.result ≡ Some x → (w : g.row.T.Denot) → map_of (joined (set cs i (put path_cmp p w d))) (room n (set cs i (put path_cmp p w d))) n ≡ record c.args.self.now { entries = put path_cmp p w c.args.self.now.entries } =
    λ x found w.
    ap (λ (t : Entries g.row.T.Denot). map_of t (room n (set cs i (put path_cmp p w d))) n) (put_it p cs i d range is w)
    ∙ ap (λ m. map_of (put path_cmp p w (joined cs)) m n) (room_put p cs i d range is s n x w (sym c.get_mut.ensures.value ∙ found))
    ∙ ap (λ (m : Map g.row.T.Denot). record m { entries = put path_cmp p w m.entries }) c.self.view_is
    in
    let kept : map_of (joined (set cs i d)) (room n (set cs i d)) n ≡ c.args.self.now =
    ap (λ (l : List (Entries g.row.T.Denot)). map_of (joined l) (room n l) n) (itself p cs i d range is s) ∙ c.self.view_is in (
      loan c.get_mut.result (λ w. map_of (joined (set cs i (put path_cmp p w d))) (room n (set cs i (put path_cmp p w d))) n) (λ w. record c.args.self.now { entries = put path_cmp p w c.args.self.now.entries }) _ c.args.self.now wrote kept,
      record {
        writes_back = tt;
        value = c.get_mut.ensures.value ∙ find_it p cs i d range is ∙ ap (λ (m : Map g.row.T.Denot). find path_cmp p m.entries) c.self.view_is;
        rising = subst (λ (m : Map g.row.T.Denot). is_sorted path_cmp m.entries ≡ true) c.self.view_is s;
      },
    )
