-- The walk over those that are sent something by a request, the one that asked and those that are owed something.
use Rattle.std.proofs.Common.{◌≡◌, ◌≢◌, ◌⊎◌, ℕ, ◌+◌, ◌<◌, ◌≤◌, ◌==◌, Bool, true, false, cond, List, [], ◌++◌, length, nat_lt, Option, Some, None, IfSome, inl, inr, refl, ap, ap₂, arith, ne_eqb}
use Rattle.machine_model.specs.History.{Unsent, unsent_to, bytes_or_none}
use Rattle.id_map.specs.Ids.{above, first_id}
use Rattle.conn_rows.specs.Sending.{sent_by, count_by}
use Rattle.conn_rows.specs.Receivers.{GetsNothing, IsNextReceiver}
use Rattle.conn_rows.proofs.WalkLemmas.{none_above, none_beyond}
use Rattle.conn_rows.proofs.NoteLemmas.{is_lower, is_not_lower}

module _ (asker : ℕ) (owed : Unsent) where
  apart_from : (c : ℕ) → c ≢ asker → (c == asker) ≡ false
  apart_from c apart = ne_eqb c asker apart

  -- NOTHING is sent to anyone above the last
  owed_nothing : (at c : ℕ) → first_id (above at owed) ≡ None → at < c → unsent_to c owed ≡ []
  owed_nothing at c none lt = ap bytes_or_none (none_beyond at c lt owed (none_above at owed none))

  pub asker_next : (at : ℕ) (r : Option ℕ) → first_id (above at owed) ≡ None → IfSome r (λ next. (next ≡ asker) × (at < asker)) → IfSome r (IsNextReceiver asker owed at)
  asker_next at None none h = tt
  asker_next at (Some next) none h =
      let is : next ≡ asker = h.0 in
      let lt : at < asker = h.1 in
      record {
        above = omega (arith, is, lt);
        between = λ c gt less. record { apart = apart_from c (λ same. omega (arith, is, same, less)); nothing = owed_nothing at c none gt };
      }

  pub none_next : (at : ℕ) (r : Option ℕ) → first_id (above at owed) ≡ None → (r ≡ None → asker ≤ at) → r ≡ None → (c : ℕ) → at < c → GetsNothing asker owed c
  none_next at r none h is c gt =
      let le : asker ≤ at = h is in
      record { apart = apart_from c (λ same. omega (arith, le, same, gt)); nothing = owed_nothing at c none gt }

  pub nothing_counted : (n c : ℕ) → GetsNothing asker owed c → count_by asker n owed c ≡ 0
  nothing_counted n c h = ap₂ ◌+◌ (ap (λ b. cond b n 0) h.apart) (ap length h.nothing)

  pub nothing_sent : (reply : List ℕ) (c : ℕ) → GetsNothing asker owed c → sent_by asker reply owed c ≡ []
  nothing_sent reply c h = ap₂ ◌++◌ (ap (λ b. cond b reply []) h.apart) h.nothing

  -- WHO IS BESIDE the next one
  pub beside : (at next c : ℕ) → IsNextReceiver asker owed at next → c ≢ next → (c ≤ at) ⊎ ((next < c) ⊎ GetsNothing asker owed c)
  beside at next c is apart = by (nat_lt at c) (nat_lt next c) refl refl
    where
      by : (a b : Bool) → nat_lt at c ≡ a → nat_lt next c ≡ b → (c ≤ at) ⊎ ((next < c) ⊎ GetsNothing asker owed c)
      by false b s t = inl (is_not_lower at c s)
      by true true s t = inr (inl (is_lower next c t))
      by true false s t = let le : c ≤ next = is_not_lower next c t in inr (inr (is.between c (is_lower at c s) (omega (arith, le, apart))))

  -- who is up to an id, or gets nothing
  pub up_to : (at c : ℕ) → ((k : ℕ) → at < k → GetsNothing asker owed k) → (c ≤ at) ⊎ GetsNothing asker owed c
  up_to at c none = by (nat_lt at c) refl
    where
      by : (b : Bool) → nat_lt at c ≡ b → (c ≤ at) ⊎ GetsNothing asker owed c
      by false t = inl (is_not_lower at c t)
      by true t = inr (none c (is_lower at c t))
