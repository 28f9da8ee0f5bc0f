-- One open transaction more in the rows, and all of a connection.
use Rattle.std.proofs.Common.{◌≡◌, ℕ, true, List, [], ◌∷◌, ◌++◌, Option, Some, None, is_some, option_map, refl, sym, ap, ◌∙◌, append_assoc, append-nil}
use Rattle.std.specs.Ordering.{nat_cmp}
use Rattle.std.specs.Cmp.{nat_cmp_total}
use Rattle.std.specs.FinMap.{find, put, is_sorted}
use Rattle.xs_model.specs.Trees.{Tree}
use Rattle.xs_model.proofs.Maps.{found_map, not_Some}
use Rattle.mark_model.specs.Stores.{Opens, KeptTransaction, no_marks}
use Rattle.kept_model.specs.States.{TransactionOf}
use Rattle.kept_model.specs.Said.{Said as Told}
use Rattle.kept_model.proofs.SaveLists as Lists
use Rattle.kept_model.proofs.SaveLists.{AreBefore, put_last, find_none, before_keyed, one_more}
use Rattle.txn_access.specs.Txns.{Txn}
use Rattle.conn_rows.specs.Rows.{Txns, or_no_txns, txns_of, kept_txn, opens_in, opens_of}
use Rattle.conn_rows.proofs.IdEntries.{put_map, found_itself, put_again}
use Rattle.mig_load.specs.Came.{Opens as Saids}
use Rattle.mig_load.specs.Settled.{kept_of, kept_opens}
use Rattle.mig_load.proofs.NodeLemmas.{put_twice}

abbrev or_none : Option Opens → Opens
or_none None = []
or_none (Some opens) = opens

opens_or_none : (o : Option Txns) → opens_in (or_no_txns o) ≡ or_none (option_map opens_in o)
opens_or_none None = refl
opens_or_none (Some txns) = refl

-- those of a connection, among those of all
opens_at : (c : ℕ) (txns : List (ℕ × Txns)) → opens_in (txns_of c txns) ≡ or_none (find nat_cmp c (opens_of txns))
opens_at c txns = opens_or_none (find nat_cmp c txns) ∙ ap or_none (sym (found_map nat_cmp opens_in c txns))

module _ (c tx : ℕ) (old new : List (ℕ × Txns)) (opened : opens_of new ≡ put nat_cmp c (put nat_cmp tx no_marks (opens_in (txns_of c old))) (opens_of old)) where
  opens_now : opens_in (txns_of c new) ≡ put nat_cmp tx no_marks (opens_in (txns_of c old))
  opens_now = opens_at c new ∙ ap (λ es. or_none (find nat_cmp c es)) opened ∙ ap or_none (found_itself c (put nat_cmp tx no_marks (opens_in (txns_of c old))) (opens_of old))

  -- the one that was opened is there
  pub opened_there : {A : Type 0} → find nat_cmp tx (txns_of c new) ≡ None → A
  opened_there none = not_Some (sym (ap (option_map kept_txn) none)
      ∙ sym (found_map nat_cmp kept_txn tx (txns_of c new)) ∙ ap (find nat_cmp tx) opens_now ∙ found_itself tx no_marks (opens_in (txns_of c old)))

  -- and another one takes its place
  pub opened_changed : (t : Txn) → opens_of (put nat_cmp c (put nat_cmp tx t (txns_of c new)) new) ≡ put nat_cmp c (put nat_cmp tx (kept_txn t) (opens_in (txns_of c old))) (opens_of old)
  opened_changed t =
      put_map opens_in c (put nat_cmp tx t (txns_of c new)) new
      ∙ ap (λ opens. put nat_cmp c opens (opens_of new))
      (put_map kept_txn tx t (txns_of c new) ∙ ap (put nat_cmp tx (kept_txn t)) opens_now ∙ put_twice nat_cmp nat_cmp_total tx no_marks (kept_txn t) (opens_in (txns_of c old)))
      ∙ ap (put nat_cmp c (put nat_cmp tx (kept_txn t) (opens_in (txns_of c old)))) opened
      ∙ put_twice nat_cmp nat_cmp_total c (put nat_cmp tx no_marks (opens_in (txns_of c old))) (put nat_cmp tx (kept_txn t) (opens_in (txns_of c old))) (opens_of old)

is_mapped : {A B : Type 0} (f : A → B) (o : Option A) → is_some (option_map f o) ≡ is_some o
is_mapped f None = refl
is_mapped f (Some x) = refl

none_from : {A B : Type 0} (f : A → B) (o : Option A) → option_map f o ≡ None → o ≡ None
none_from f None e = refl
none_from f (Some x) e = not_Some (sym e)

-- THE TRANSACTIONS OF A CONNECTION, one after the other: those before `left` are open
pub record IsSettledTo (tree : Tree) (c : ℕ) (all : Saids) (before now : List (ℕ × Txns)) (left : Saids) : Type 0 where
  pub done : Saids
  pub split : done ++ left ≡ all
  pub here : opens_of now ≡ put nat_cmp c (kept_opens tree done) (opens_of before)

module _ (tree : Tree) (c : ℕ) (all : Saids) (before now : List (ℕ × Txns)) where
  pub settled_first : is_sorted nat_cmp (opens_of before) ≡ true → find nat_cmp c (opens_of before) ≡ Some [] → IsSettledTo tree c all before before all
  settled_first rising quiet = record { done = []; split = refl; here = sym (put_again c [] (opens_of before) rising quiet) }

  pub settled_last : IsSettledTo tree c all before now [] → opens_of now ≡ put nat_cmp c (kept_opens tree all) (opens_of before)
  settled_last s = s.here ∙ ap (λ es. put nat_cmp c (kept_opens tree es) (opens_of before)) (sym (append-nil s.done) ∙ s.split)

  module _ (e : ℕ × TransactionOf Told) (rest : Saids) (rising : is_sorted nat_cmp all ≡ true) (s : IsSettledTo tree c all before now (e ∷ rest)) where
    open_now : opens_in (txns_of c now) ≡ kept_opens tree s.done
    open_now = opens_at c now ∙ ap (λ es. or_none (find nat_cmp c es)) s.here ∙ ap or_none (found_itself c (kept_opens tree s.done) (opens_of before))

    below : AreBefore nat_cmp e.0 (kept_opens tree s.done)
    below = before_keyed nat_cmp (λ (f : ℕ × TransactionOf Told). kept_of tree f.1) e.0 s.done
        (Lists.before nat_cmp nat_cmp_total s.done e rest (ap (is_sorted nat_cmp) s.split ∙ rising))

    pub settled_there : is_some (find nat_cmp c now) ≡ true
    settled_there = sym (is_mapped opens_in (find nat_cmp c now)) ∙ ap is_some (sym (found_map nat_cmp opens_in c now)) ∙ ap (λ es. is_some (find nat_cmp c es)) s.here ∙ ap is_some (found_itself c (kept_opens tree s.done) (opens_of before))

    pub settled_free : find nat_cmp e.0 (txns_of c now) ≡ None
    settled_free = none_from kept_txn (find nat_cmp e.0 (txns_of c now))
        (sym (found_map nat_cmp kept_txn e.0 (txns_of c now)) ∙ ap (find nat_cmp e.0) open_now ∙ find_none nat_cmp e.0 (kept_opens tree s.done) below)

    pub settled_next : (new : List (ℕ × Txns)) (k : KeptTransaction) → k ≡ kept_of tree e.1 → opens_of new ≡ put nat_cmp c (put nat_cmp e.0 k (opens_in (txns_of c now))) (opens_of now) → IsSettledTo tree c all before new rest
    settled_next new k k_is new_is = record {
      done = s.done ++ e ∷ [];
      split = append_assoc s.done (e ∷ []) rest ∙ s.split;
      here = new_is ∙ (λ i. put nat_cmp c (put nat_cmp e.0 (k_is i) (open_now i)) (s.here i))
          ∙ put_twice nat_cmp nat_cmp_total c (kept_opens tree s.done) (put nat_cmp e.0 (kept_of tree e.1) (kept_opens tree s.done)) (opens_of before)
          ∙ ap (λ es. put nat_cmp c es (opens_of before))
          (put_last nat_cmp e.0 (kept_of tree e.1) (kept_opens tree s.done) below ∙ sym (one_more (λ (f : ℕ × TransactionOf Told). kept_of tree f.1) s.done e));
    }
