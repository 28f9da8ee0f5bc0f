-- Lists of entries that are filled from the front: what stands before a place, and what is put there or found. These are
-- facts of lists, and belong to a lower crate.
use Rattle.std.specs.Prelude.{◌≡◌, true, cond, List, [], ◌∷◌, ◌++◌, map, Some, None}
use Rattle.std.specs.List.{AllByRecursion, flat_map}
use Rattle.std.specs.Ordering.{is_lt, is_eq, ordering_reverse}
use Rattle.std.specs.declared.cmp.Ordering.{Ordering}
use Rattle.std.specs.declared.cmp.Ordering.TheVariants.{Less, Equal, Greater}
use Rattle.std.specs.Cmp.{IsTotalOrder, tied_itself}
use Rattle.std.specs.FinMap.{find, put, is_sorted}
use Rattle.std.specs.FinMap.Entries.{by_order, below_all}
use Rattle.std.proofs.Common.{sym, refl, ap, subst, ◌∙◌, append_assoc, append-nil}
use Rattle.std.proofs.lemmas.Bool.{and_parts}
use Rattle.std.proofs.lemmas.List.Concat.{flat_map_single}
use Rattle.xs_model.proofs.Maps.{not_both}
use Rattle.mark_model.proofs.StoreMaps.{keys_entries}

-- entries whose keys stand before k
abbrev pub AreBefore : {K X : Type 0} → (K → K → Ordering) → K → List (K × X) → Type 0
AreBefore {K} {X} R k es = AllByRecursion (λ (e : K × X). R k e.0 ≡ Greater) es

-- the same keys with values that come of the entries
abbrev pub keyed : {K X Y : Type 0} → (K × X → Y) → List (K × X) → List (K × Y)
keyed g es = map (λ e. (e.0, g e)) es

pub less_is : (r : Ordering) → is_lt r ≡ true → r ≡ Less
less_is Less h = refl
less_is Equal h = not_both h refl
less_is Greater h = not_both h refl

module _ {K X : Type 0} (R : K → K → Ordering) where
  pub below_at : (k : K) (done : List (K × X)) (e : K × X) (todo : List (K × X)) → below_all R k (done ++ e ∷ todo) ≡ true → R k e.0 ≡ Less
  below_at k [] e todo h = less_is (R k e.0) (and_parts (is_lt (R k e.0)) (below_all R k todo) h).0
  below_at k (f ∷ done) e todo h = below_at k done e todo (and_parts (is_lt (R k f.0)) (below_all R k (done ++ e ∷ todo)) h).1

  -- of entries in order, those before a place stand before its key
  pub before : IsTotalOrder R → (done : List (K × X)) (e : K × X) (todo : List (K × X)) → is_sorted R (done ++ e ∷ todo) ≡ true → AreBefore R e.0 done
  before o [] e todo h = tt
  before o (f ∷ done) e todo h =
      let parts = and_parts (below_all R f.0 (done ++ e ∷ todo)) (is_sorted R (done ++ e ∷ todo)) h in
      (o.antisymm e.0 f.0 ∙ ap ordering_reverse (below_at f.0 done e todo parts.0), before o done e todo parts.1)

  put_behind : (k : K) (v : X) (done todo : List (K × X)) → AreBefore R k done → put R k v (done ++ todo) ≡ done ++ put R k v todo
  put_behind k v [] todo h = refl
  put_behind k v (e ∷ done) todo h =
      ap (λ r. by_order r ((k, v) ∷ e ∷ (done ++ todo)) ((e.0, v) ∷ (done ++ todo)) (e ∷ put R k v (done ++ todo))) h.0
      ∙ ap (λ es. e ∷ es) (put_behind k v done todo h.1)

  pub find_behind : (k : K) (done todo : List (K × X)) → AreBefore R k done → find R k (done ++ todo) ≡ find R k todo
  find_behind k [] todo h = refl
  find_behind k (e ∷ done) todo h = ap (λ r. cond (is_eq r) (Some e.1) (find R k (done ++ todo))) h.0 ∙ find_behind k done todo h.1

  pub put_last : (k : K) (v : X) (done : List (K × X)) → AreBefore R k done → put R k v done ≡ done ++ (k, v) ∷ []
  put_last k v [] h = refl
  put_last k v (e ∷ done) h =
      ap (λ r. by_order r ((k, v) ∷ e ∷ done) ((e.0, v) ∷ done) (e ∷ put R k v done)) h.0
      ∙ ap (λ es. e ∷ es) (put_last k v done h.1)

  pub find_none : (k : K) (done : List (K × X)) → AreBefore R k done → find R k done ≡ None
  find_none k [] h = refl
  find_none k (e ∷ done) h = ap (λ r. cond (is_eq r) (Some e.1) (find R k done)) h.0 ∙ find_none k done h.1

  -- what stands behind a place stands behind its key
  pub behind_all : (done : List (K × X)) (e : K × X) (todo : List (K × X)) → is_sorted R (done ++ e ∷ todo) ≡ true → below_all R e.0 todo ≡ true
  behind_all [] e todo h = (and_parts (below_all R e.0 todo) (is_sorted R todo) h).0
  behind_all (f ∷ done) e todo h = behind_all done e todo (and_parts (below_all R f.0 (done ++ e ∷ todo)) (is_sorted R (done ++ e ∷ todo)) h).1

  module _ (o : IsTotalOrder R) where
    pub below_none : (q k : K) (es : List (K × X)) → R q k ≡ Less → below_all R k es ≡ true → find R q es ≡ None
    below_none q k [] less h = refl
    below_none q k (e ∷ es) less h =
        let parts = and_parts (is_lt (R k e.0)) (below_all R k es) h in
        ap (λ r. cond (is_eq r) (Some e.1) (find R q es)) (o.trans q k e.0 less (less_is (R k e.0) parts.0)) ∙ below_none q k es less parts.1

    -- a key before that of a place is found before the place, if anywhere
    pub find_front : (q : K) (done : List (K × X)) (e : K × X) (todo : List (K × X)) → R q e.0 ≡ Less → below_all R e.0 todo ≡ true → find R q (done ++ e ∷ todo) ≡ find R q done
    find_front q [] e todo less h = ap (λ r. cond (is_eq r) (Some e.1) (find R q todo)) less ∙ below_none q e.0 todo less h
    find_front q (d ∷ done) e todo less h = ap (λ found. cond (is_eq (R q d.0)) (Some d.1) found) (find_front q done e todo less h)

    pub put_here : (k : K) (v w : X) (done todo : List (K × X)) → AreBefore R k done → put R k v (done ++ (k, w) ∷ todo) ≡ done ++ (k, v) ∷ todo
    put_here k v w done todo h =
        put_behind k v done ((k, w) ∷ todo) h
        ∙ ap (λ r. done ++ by_order r ((k, v) ∷ (k, w) ∷ todo) ((k, v) ∷ todo) ((k, w) ∷ put R k v todo)) (tied_itself o k)

    pub find_here : (k : K) (w : X) (done todo : List (K × X)) → AreBefore R k done → find R k (done ++ (k, w) ∷ todo) ≡ Some w
    find_here k w done todo h = find_behind k done ((k, w) ∷ todo) h ∙ ap (λ r. cond (is_eq r) (Some w) (find R k todo)) (tied_itself o k)

module _ {K X Y : Type 0} (R : K → K → Ordering) (g : K × X → Y) where
  pub before_keyed : (k : K) (es : List (K × X)) → AreBefore R k es → AreBefore R k (keyed g es)
  before_keyed k es h = keys_entries (λ q. R k q ≡ Greater) g es h

-- one more is done
pub more_done : {K X Y : Type 0} (g : K × X → Y) (done : List (K × X)) (e : K × X) (rest : List (K × Y)) → keyed g (done ++ e ∷ []) ++ rest ≡ keyed g done ++ (e.0, g e) ∷ rest
more_done g [] e rest = refl
more_done g (d ∷ done) e rest = ap (λ es. (d.0, g d) ∷ es) (more_done g done e rest)

pub one_more : {K X Y : Type 0} (g : K × X → Y) (done : List (K × X)) (e : K × X) → keyed g (done ++ e ∷ []) ≡ keyed g done ++ (e.0, g e) ∷ []
one_more g [] e = refl
one_more g (d ∷ done) e = ap (λ es. (d.0, g d) ∷ es) (one_more g done e)

-- what holds of each holds at a place
pub all_at : {X : Type 0} (P : X → Type 0) (done : List X) (x : X) (todo : List X) → AllByRecursion P (done ++ x ∷ todo) → P x
all_at P [] x todo h = h.0
all_at P (y ∷ done) x todo h = all_at P done x todo h.1

-- A WALK over a list, one by one, with what each of them adds to the records in front
module _ {X R : Type 0} (Leads : List X → List X → List R → Type 0) (records : X → List R) (all : List X)
    (each : (done : List X) (x : X) (todo : List X) (more : List R) → done ++ x ∷ todo ≡ all → Leads (done ++ x ∷ []) todo more → Leads done (x ∷ todo) (records x ++ more)) where
  walk_from : (done todo : List X) (more : List R) → done ++ todo ≡ all → Leads all [] more → Leads done todo (flat_map records todo ++ more)
  walk_from done [] more is last = subst (λ xs. Leads xs [] more) (sym is ∙ append-nil done) last
  walk_from done (x ∷ todo) more is last =
      subst (λ rs. Leads done (x ∷ todo) rs) (sym (append_assoc (records x) (flat_map records todo) more))
      (each done x todo (flat_map records todo ++ more) is (walk_from (done ++ x ∷ []) todo more (append_assoc done (x ∷ []) todo ∙ is) last))

  pub walk : (more : List R) → Leads all [] more → Leads [] all (flat_map records all ++ more)
  walk more last = walk_from [] all more refl last

module _ {X R : Type 0} (Leads : List X → List X → List R → Type 0) (record_of : X → R) (all : List X)
    (each : (done : List X) (x : X) (todo : List X) (more : List R) → done ++ x ∷ todo ≡ all → Leads (done ++ x ∷ []) todo more → Leads done (x ∷ todo) (record_of x ∷ more)) where
  pub walk_map : (more : List R) → Leads all [] more → Leads [] all (map record_of all ++ more)
  walk_map more last = subst (λ rs. Leads [] all (rs ++ more)) (flat_map_single record_of all) (walk Leads (λ x. record_of x ∷ []) all each more last)
