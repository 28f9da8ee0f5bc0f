-- That edits are written: nothing, edits after edits, and removals from the last to the first. Proofs alone, which stand
-- here since the overlay names them.
use Rattle.std.specs.Prelude.{◌≡◌, ◌≤◌, ◌⊎◌, false, cond, List, [], ◌∷◌, ◌++◌, Some, None}
use Rattle.std.specs.declared.cmp.Ordering.{Ordering}
use Rattle.std.specs.declared.cmp.Ordering.TheVariants.{Less, Equal, Greater}
use Rattle.std.specs.Ordering.{ordering_reverse, is_eq}
use Rattle.std.specs.Cmp.{IsTotalOrder}
use Rattle.std.specs.FinMap.{put}
use Rattle.std.specs.FinMap.Entries.{by_order}
use Rattle.std.proofs.Common.{inl, inr, sym, refl, ap, subst, ◌∙◌}
use Rattle.xs_model.specs.Paths.{Path, path_cmp}
use Rattle.xs_model.specs.Trees.{Edit}
use Rattle.xs_model.specs.Commands.{removals}
use Rattle.xs_model.proofs.Maps.{found_put}
use Rattle.xs_model.proofs.PathLemmas.{path_total, path_exact}
use Rattle.mark_model.specs.Marks.{Mark, Marks, mark_at, is_changed, written_mark, write, write_all}
use Rattle.txn_access.specs.declared.overlays.Overlay.{Overlay}
use Rattle.txn_access.specs.Overlays.{IsWritten}

write_append : (es fs : List Edit) (ms : Marks) → write_all (es ++ fs) ms ≡ write_all fs (write_all es ms)
write_append [] fs ms = refl
write_append (e ∷ es) fs ms = write_append es fs (write e.0 e.1 ms)

-- PUTS AT TWO KEYS, in either order
module _ {K : Type 0} (R : K → K → Ordering) (o : IsTotalOrder R) where
  turned : (k l : K) → R k l ≡ Less → R l k ≡ Greater
  turned k l h = o.antisymm l k ∙ ap ordering_reverse h

  risen : (k l m : K) (r : Ordering) → R k l ≡ Less → R k m ≡ r → (r ≡ Equal) ⊎ (r ≡ Greater) → R l m ≡ Greater
  risen k l m Less h g (inl e) = cc
  risen k l m Less h g (inr e) = cc
  risen k l m Equal h g q = turned m l (sym (o.congr k m l g) ∙ h)
  risen k l m Greater h g q = turned m l (o.trans m k l (o.antisymm m k ∙ ap ordering_reverse g) h)

module _ {K X : Type 0} (R : K → K → Ordering) (o : IsTotalOrder R) where
  place : (r : Ordering) (k : K) (x : X) (e : K × X) (es : List (K × X)) → R k e.0 ≡ r → put R k x (e ∷ es) ≡ by_order r ((k, x) ∷ e ∷ es) ((e.0, x) ∷ es) (e ∷ put R k x es)
  place r k x e es h = ap (λ s. by_order s ((k, x) ∷ e ∷ es) ((e.0, x) ∷ es) (e ∷ put R k x es)) h

  module _ (k l : K) (x y : X) (less : R k l ≡ Less) where
    before : (e : K × X) (es : List (K × X)) (r : Ordering) → R l e.0 ≡ r → R k e.0 ≡ Less → put R k x (put R l y (e ∷ es)) ≡ (k, x) ∷ put R l y (e ∷ es)
    before e es Less h g = ap (put R k x) (place Less l y e es h) ∙ place Less k x (l, y) (e ∷ es) less ∙ ap (λ t. (k, x) ∷ t) (sym (place Less l y e es h))
    before e es Equal h g = ap (put R k x) (place Equal l y e es h) ∙ place Less k x (e.0, y) es g ∙ ap (λ t. (k, x) ∷ t) (sym (place Equal l y e es h))
    before e es Greater h g = ap (put R k x) (place Greater l y e es h) ∙ place Less k x e (put R l y es) g ∙ ap (λ t. (k, x) ∷ t) (sym (place Greater l y e es h))

    either : (es : List (K × X)) → put R k x (put R l y es) ≡ put R l y (put R k x es)
    either [] = place Less k x (l, y) [] less ∙ sym (place Greater l y (k, x) [] (turned R o k l less))
    either (e ∷ es) = by (R k e.0) refl (either es)
      where
        by : (r : Ordering) → R k e.0 ≡ r → put R k x (put R l y es) ≡ put R l y (put R k x es) → put R k x (put R l y (e ∷ es)) ≡ put R l y (put R k x (e ∷ es))
        by Less g more = before e es (R l e.0) refl g ∙ sym (ap (put R l y) (place Less k x e es g) ∙ place Greater l y (k, x) (e ∷ es) (turned R o k l less))
        by Equal g more =
            let above = risen R o k l e.0 Equal less g (inl refl) in
            ap (put R k x) (place Greater l y e es above) ∙ place Equal k x e (put R l y es) g
            ∙ sym (ap (put R l y) (place Equal k x e es g) ∙ place Greater l y (e.0, x) es above)
        by Greater g more =
            let above = risen R o k l e.0 Greater less g (inr refl) in
            ap (put R k x) (place Greater l y e es above) ∙ place Greater k x e (put R l y es) g ∙ ap (λ t. e ∷ t) more
            ∙ sym (ap (put R l y) (place Greater k x e es g) ∙ place Greater l y e (put R k x es) above)

-- REMOVALS, in either order
abbrev gone : Path → Marks → Mark
gone p ms = written_mark None (is_changed (mark_at ms p))

other_stays : (p q : Path) (m : Mark) (ms : Marks) (r : Ordering) → path_cmp p q ≡ r → is_eq r ≡ false → mark_at (put path_cmp q m ms) p ≡ mark_at ms p
other_stays p q m ms r h e = found_put path_cmp path_total p q m ms ∙ ap (λ b. cond b (Some m) (mark_at ms p)) (ap is_eq h ∙ e)

write_less : (p q : Path) (ms : Marks) → path_cmp p q ≡ Less → write p None (write q None ms) ≡ write q None (write p None ms)
write_less p q ms h =
    ap (λ m. put path_cmp p (written_mark None (is_changed m)) (put path_cmp q (gone q ms) ms)) (other_stays p q (gone q ms) ms Less h refl)
    ∙ either path_cmp path_total p q (gone p ms) (gone q ms) h ms
    ∙ ap (λ m. put path_cmp q (written_mark None (is_changed m)) (put path_cmp p (gone p ms) ms)) (sym (other_stays q p (gone p ms) ms Greater (turned path_cmp path_total p q h) refl))

write_either : (p q : Path) (ms : Marks) (r : Ordering) → path_cmp p q ≡ r → write p None (write q None ms) ≡ write q None (write p None ms)
write_either p q ms Less h = write_less p q ms h
write_either p q ms Equal h = let same = path_exact p q h in λ i. write (same i) None (write (sym same i) None ms)
write_either p q ms Greater h = sym (write_less q p ms (path_total.antisymm q p ∙ ap ordering_reverse h))

write_first : (p : Path) (ps : List Path) (ms : Marks) → write p None (write_all (removals ps) ms) ≡ write_all (removals ps) (write p None ms)
write_first p [] ms = refl
write_first p (q ∷ ps) ms = write_first p ps (write q None ms) ∙ ap (write_all (removals ps)) (write_either p q ms (path_cmp p q) refl)

pub written_nothing : (v : Overlay) → IsWritten v [] v
written_nothing v = record { tree = refl; same_reference = refl; looks = refl; marks = refl; count = refl; room = λ h. h }

pub written_more : (u v w : Overlay) (es fs : List Edit) → IsWritten u es v → IsWritten v fs w → IsWritten u (es ++ fs) w
written_more u v w es fs g h = record {
  tree = h.tree ∙ g.tree;
  same_reference = h.same_reference ∙ g.same_reference;
  looks = h.looks ∙ g.looks;
  marks = h.marks ∙ ap (write_all fs) g.marks ∙ sym (write_append es fs u.txn.now.marks);
  count = h.count ∙ g.count;
  room = λ r. subst (λ n. n ≤ w.txn.now.spare) g.looks (h.room (subst (λ n. n ≤ v.txn.now.spare) (sym g.looks) (g.room r)));
}

pub written_backwards : (u v w : Overlay) (p : Path) (ps : List Path) → IsWritten u (removals ps) v → IsWritten v ((p, None) ∷ []) w → IsWritten u (removals (p ∷ ps)) w
written_backwards u v w p ps g h = record {
  tree = h.tree ∙ g.tree;
  same_reference = h.same_reference ∙ g.same_reference;
  looks = h.looks ∙ g.looks;
  marks = h.marks ∙ ap (write p None) g.marks ∙ write_first p ps u.txn.now.marks;
  count = h.count ∙ g.count;
  room = λ r. subst (λ n. n ≤ w.txn.now.spare) g.looks (h.room (subst (λ n. n ≤ v.txn.now.spare) (sym g.looks) (g.room r)));
}
