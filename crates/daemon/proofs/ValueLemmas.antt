-- Lists that have a value for each id of a table, after an edit of the table.
use Rattle.std.proofs.Common.{◌≡◌, ℕ, ◌<◌, ◌==◌, Bool, true, false, cond, List, [], ◌∷◌, map, Option, Some, None, is_some, refl, sym, ap, ◌∙◌, arith, eqb-true, eq-eqb, ne_eqb}
use Rattle.std.specs.Ordering.{nat_cmp, eq_by_cmp, is_lt}
use Rattle.std.specs.Cmp.{nat_cmp_total, unsigned_tied}
use Rattle.std.specs.FinMap.{find, put, is_sorted}
use Rattle.std.specs.FinMap.Entries.{where_key, below_all}
use Rattle.std.proofs.lemmas.Bool.{and_parts}
use Rattle.std.proofs.lemmas.Bool.Decides.{nat_tests}
use Rattle.xs_model.proofs.Maps.{sorted_put}
use Rattle.conn_rows.proofs.IdEntries.{same_put, same_there, same_rising, none_there, found_at}

-- BY THEIR IDS: a value for each entry
abbrev pub by_id : {X V : Type 0} → (ℕ → V) → List (ℕ × X) → List (ℕ × V)
by_id g es = map (λ e. (e.0, g e.0)) es

by_keys : {X V : Type 0} (g : ℕ → V) (es : List (ℕ × X)) → by_id g es ≡ map (λ k. (k, g k)) (map (λ e. e.0) es)
by_keys g [] = refl
by_keys g (e ∷ es) = ap (λ l. (e.0, g e.0) ∷ l) (by_keys g es)

pub same_ids : {X Y V : Type 0} (g : ℕ → V) (es : List (ℕ × X)) (fs : List (ℕ × Y)) → map (λ e. e.0) es ≡ map (λ e. e.0) fs → by_id g es ≡ by_id g fs
same_ids g es fs same = by_keys g es ∙ ap (map (λ k. (k, g k))) same ∙ sym (by_keys g fs)

ids_where : {X V : Type 0} (g : ℕ → V) (p : ℕ → Bool) (es : List (ℕ × X)) → by_id g (where_key nat_cmp p es) ≡ where_key nat_cmp p (by_id g es)
ids_where g p [] = refl
ids_where g p (e ∷ es) =
    elim (p e.0) as (λ b. by_id g (cond b (e ∷ where_key nat_cmp p es) (where_key nat_cmp p es)) ≡ cond b ((e.0, g e.0) ∷ where_key nat_cmp p (by_id g es)) (where_key nat_cmp p (by_id g es))) [
      | true ↦ ap (λ l. (e.0, g e.0) ∷ l) (ids_where g p es)
      | false ↦ ids_where g p es
    ]

less_nat : (x y : ℕ) → is_lt (nat_cmp x y) ≡ true → x < y
less_nat x y h = grind (arith, nat_tests)

-- VALUES THAT ARE THERE, or one in their place
module _ {V : Type 0} (or_none : Option V → V) (itself : (v : V) → or_none (Some v) ≡ v) where
  abbrev value_at : List (ℕ × V) → ℕ → V
  value_at vs k = or_none (find nat_cmp k vs)

  -- an entry before all others is none of theirs
  past_first : (k : ℕ) (v : V) (vs es : List (ℕ × V)) → below_all nat_cmp k es ≡ true → by_id (value_at ((k, v) ∷ vs)) es ≡ by_id (value_at vs) es
  past_first k v vs [] h = refl
  past_first k v vs (e ∷ es) h =
      let parts = and_parts (is_lt (nat_cmp k e.0)) (below_all nat_cmp k es) h in
      let lower : k < e.0 = less_nat k e.0 parts.0 in
      let apart : eq_by_cmp nat_cmp e.0 k ≡ false = unsigned_tied e.0 k ∙ ne_eqb e.0 k (λ same. omega arith) in
      ap (λ b. (e.0, or_none (cond b (Some v) (find nat_cmp e.0 vs))) ∷ by_id (value_at ((k, v) ∷ vs)) es) apart
      ∙ ap (λ l. (e.0, value_at vs e.0) ∷ l) (past_first k v vs es parts.1)

  same_values : (vs : List (ℕ × V)) → is_sorted nat_cmp vs ≡ true → by_id (value_at vs) vs ≡ vs
  same_values [] h = refl
  same_values (e ∷ es) h =
      let parts = and_parts (below_all nat_cmp e.0 es) (is_sorted nat_cmp es) h in
      let tied : eq_by_cmp nat_cmp e.0 e.0 ≡ true = unsigned_tied e.0 e.0 ∙ eq-eqb e.0 e.0 refl in
      ap (λ b. (e.0, or_none (cond b (Some e.1) (find nat_cmp e.0 es))) ∷ by_id (value_at (e ∷ es)) es) tied
      ∙ (λ i. (e.0, itself e.1 i) ∷ past_first e.0 e.1 es es parts.0 i)
      ∙ ap (λ l. e ∷ l) (same_values es parts.1)

  -- the one in its place, where none was there
  same_at : (k : ℕ) (vs : List (ℕ × V)) → find nat_cmp k vs ≡ None → (i : ℕ) → value_at vs i ≡ value_at (put nat_cmp k (or_none None) vs) i
  same_at k vs absent i = by (i == k) refl ∙ sym (ap or_none (found_at i k (or_none None) vs))
    where
      by : (b : Bool) → (i == k) ≡ b → value_at vs i ≡ or_none (cond b (Some (or_none None)) (find nat_cmp i vs))
      by true t = ap (value_at vs) (eqb-true i k t) ∙ ap or_none absent ∙ sym (itself (or_none None))
      by false t = refl

  -- AFTER AN EDIT of the table: the same ids, one more or some less
  module _ {X : Type 0} (vs : List (ℕ × V)) (es : List (ℕ × X)) (ids : map (λ e. e.0) vs ≡ map (λ e. e.0) es) (sorted : is_sorted nat_cmp es ≡ true) where
    rising : is_sorted nat_cmp vs ≡ true
    rising = same_rising vs es ids ∙ sorted

    pub values_same : {Y : Type 0} (fs : List (ℕ × Y)) → map (λ e. e.0) fs ≡ map (λ e. e.0) es → vs ≡ by_id (value_at vs) fs
    values_same fs same = sym (same_values vs rising) ∙ same_ids (value_at vs) vs fs (ids ∙ sym same)

    pub values_more : (k : ℕ) (x : X) → find nat_cmp k es ≡ None → put nat_cmp k (or_none None) vs ≡ by_id (value_at vs) (put nat_cmp k x es)
    values_more k x absent =
        let more : List (ℕ × V) = put nat_cmp k (or_none None) vs in
        let nowhere : find nat_cmp k vs ≡ None = none_there _ (same_there vs es ids k ∙ ap is_some absent) in
        sym (same_values more (sorted_put nat_cmp nat_cmp_total k (or_none None) vs rising))
        ∙ sym (ap (λ (g : ℕ → V). by_id g more) (λ j i. same_at k vs nowhere i j))
        ∙ same_ids (value_at vs) more (put nat_cmp k x es) (same_put vs es ids k (or_none None) x)

    pub values_less : (p : ℕ → Bool) → where_key nat_cmp p vs ≡ by_id (value_at vs) (where_key nat_cmp p es)
    values_less p = ap (where_key nat_cmp p) (values_same es refl) ∙ sym (ids_where (value_at vs) p es)
