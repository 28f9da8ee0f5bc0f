-- The open transactions of one connection after the other.
use Rattle.std.proofs.Common.{◌≡◌, ℕ, ◌==◌, true, false, cond, List, [], ◌∷◌, ◌++◌, map, Some, None, is_some, refl, sym, ap, subst, ◌∙◌, append_assoc, append-nil}
use Rattle.std.specs.Option.{option_map}
use Rattle.std.specs.List.{AllByRecursion}
use Rattle.std.specs.Ordering.{nat_cmp, eq_by_cmp}
use Rattle.std.specs.Cmp.{nat_cmp_total, unsigned_tied}
use Rattle.std.specs.FinMap.{find, put, is_sorted}
use Rattle.xs_model.specs.Trees.{Tree}
use Rattle.mark_model.specs.Stores as store
use Rattle.kept_model.proofs.SaveLists as Lists
use Rattle.kept_model.proofs.SaveLists.{AreBefore, find_none, find_here, all_at}
use Rattle.conn_rows.specs.Rows.{Txns, opens_of}
use Rattle.conn_rows.proofs.IdEntries.{put_again}
use Rattle.mig_load.specs.Came.{Opens, Saids, or_no_opens, said_of}
use Rattle.mig_load.specs.Settled.{kept_opens, settled_opens}
use Rattle.mig_load.proofs.CameLemmas.{at_found, at_put, at_rising, put_alike, there_is}

-- what stands behind all others is found by its own id alone
found_but : {X : Type 0} (k : ℕ) (done : List (ℕ × X)) (e : ℕ × X) → (k == e.0) ≡ false → find nat_cmp k (done ++ e ∷ []) ≡ find nat_cmp k done
found_but k [] e h = ap (λ b. cond b (Some e.1) None) (unsigned_tied k e.0 ∙ h)
found_but k (d ∷ done) e h = ap (λ o. cond (eq_by_cmp nat_cmp k d.0) (Some d.1) o) (found_but k done e h)

-- the transactions of a connection of which these things are said
abbrev settled_at : Tree → Saids → ℕ → Txns → store.Opens
settled_at tree saids c txns = kept_opens tree (said_of c saids)

-- those of the connections before `left` are open
pub record AreSettledTo (tree : Tree) (all : Saids) (before now : List (ℕ × Txns)) (left : Saids) : Type 0 where
  pub done : Saids
  pub split : done ++ left ≡ all
  pub here : opens_of now ≡ settled_opens tree done before

module _ (tree : Tree) (all : Saids) (before now : List (ℕ × Txns)) where
  pub all_first : opens_of before ≡ map (λ e. (e.0, [])) before → AreSettledTo tree all before before all
  all_first quiet = record { done = []; split = refl; here = quiet }

  pub all_last : AreSettledTo tree all before now [] → opens_of now ≡ settled_opens tree all before
  all_last s = s.here ∙ ap (λ saids. settled_opens tree saids before) (sym (append-nil s.done) ∙ s.split)

  module _ (e : ℕ × Opens) (rest : Saids) (rising : is_sorted nat_cmp all ≡ true) (there : AllByRecursion (λ f. is_some (find nat_cmp f.0 before) ≡ true) all) (kept : is_sorted nat_cmp before ≡ true)
      (s : AreSettledTo tree all before now (e ∷ rest)) where
    below : AreBefore nat_cmp e.0 s.done
    below = Lists.before nat_cmp nat_cmp_total s.done e rest (ap (is_sorted nat_cmp) s.split ∙ rising)

    was : (txns : Txns) × (find nat_cmp e.0 before ≡ Some txns)
    was = there_is (find nat_cmp e.0 before) (all_at (λ (f : ℕ × Opens). is_some (find nat_cmp f.0 before) ≡ true) s.done e rest (subst (λ (es : Saids). AllByRecursion (λ f. is_some (find nat_cmp f.0 before) ≡ true) es) (sym s.split) there))

    pub next_rising : is_sorted nat_cmp (opens_of now) ≡ true
    next_rising = ap (is_sorted nat_cmp) s.here ∙ at_rising (settled_at tree s.done) before ∙ kept

    pub next_quiet : find nat_cmp e.0 (opens_of now) ≡ Some []
    next_quiet =
        ap (find nat_cmp e.0) s.here ∙ at_found (settled_at tree s.done) e.0 before ∙ ap (option_map (settled_at tree s.done e.0)) was.1
        ∙ ap (λ o. Some (kept_opens tree (or_no_opens o))) (find_none nat_cmp e.0 s.done below)

    pub next_settled : (new : List (ℕ × Txns)) → opens_of new ≡ put nat_cmp e.0 (kept_opens tree e.1) (opens_of now) → AreSettledTo tree all before new rest
    next_settled new is =
        let more : Saids = s.done ++ e ∷ [] in
        record {
          done = more;
          split = append_assoc s.done (e ∷ []) rest ∙ s.split;
          here = is ∙ ap (put nat_cmp e.0 (kept_opens tree e.1)) s.here
              ∙ put_alike (settled_at tree more) (settled_at tree s.done) e.0 (λ k txns h. ap (λ o. kept_opens tree (or_no_opens o)) (sym (found_but k s.done e h))) (kept_opens tree e.1) before kept
              ∙ ap (λ v. put nat_cmp e.0 v (settled_opens tree more before)) (ap (λ o. kept_opens tree (or_no_opens o)) (sym (find_here nat_cmp nat_cmp_total e.0 e.1 s.done [] below)))
              ∙ sym (at_put (settled_at tree more) e.0 was.0 before)
              ∙ ap (λ txns. settled_opens tree more txns) (put_again e.0 was.0 before kept was.1);
        }
