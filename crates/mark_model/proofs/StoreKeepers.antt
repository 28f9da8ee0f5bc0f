-- Stores that are kept: what is kept of the stores of a run, and the sequential stores with which kept ones go on.
use Rattle.std.specs.Prelude.{◌≡◌, ℕ, ◌+◌, ◌≤◌, Bool, true, false, cond, nat_lt, [], ◌∷◌, map, Option, Some, None}
use Rattle.std.specs.List.{AllByRecursion}
use Rattle.std.specs.Ordering.{nat_cmp}
use Rattle.std.specs.FinMap.{find, is_sorted}
use Rattle.std.proofs.Common.{sym, refl, ap, ◌∙◌, le_of_lt, le_refl, ltb-true}
use Rattle.xs_model.specs.Trees.{Tree}
use Rattle.xs_model.proofs.Maps.{all_found, all_map, sorted_map, keys_map}
use Rattle.machine_model.specs.Connections.{Connection, Connections}
use Rattle.machine_model.specs.Transactions.{count_max, within_count, run_on}
use Rattle.machine_model.specs.Machine.{Machine}
use Rattle.machine_model.specs.Serial.{EachOpen, IsOpenOver, IsFollowed}
use Rattle.machine_model.specs.Limits.{HasIds}
use Rattle.machine_model.proofs.Lists.{all_weaker}
use Rattle.machine_model.proofs.KeepLemmas.{EachOf}
use Rattle.mark_model.specs.Stores.{KeptTransaction, KeptStore, Opens, kept_transaction, opens_in, without_transactions, kept_of, opens_of, or_no_opens, begun_transaction, begun_conn, begun_machine, IsKeptTransaction, IsKeptStore}
use Rattle.mark_model.specs.Laws.{IsBegun}
use Rattle.mark_model.proofs.MarkLaws.{MarkLaws}
use Rattle.mark_model.proofs.StoreMaps.{with_values, keys_values, sorted_entries, keys_entries, map_map, map_itself, all_of_any, all_with, sorted_keys, each_found}

within_max : (n : ℕ) → within_count n ≤ count_max
within_max n = by (nat_lt n count_max) refl
  where
    by : (b : Bool) → nat_lt n count_max ≡ b → cond b n count_max ≤ count_max
    by true t = le_of_lt (ltb-true n count_max t)
    by false t = le_refl count_max

pub bare_ids : (conns : Connections) → HasIds conns → HasIds (with_values without_transactions conns)
bare_ids conns ids = record {
  rising = sorted_map nat_cmp without_transactions conns ∙ ids.rising;
  positive = keys_map (λ i. 1 ≤ i) without_transactions conns ids.positive;
}

-- each of the open transactions of a connection is kept
abbrev AreKept : Tree → Opens → Type 0
AreKept tree ts = AllByRecursion (λ f. IsKeptTransaction tree f.1) ts

module _ (laws : MarkLaws) where
  -- WHAT IS KEPT
  pub followed_kept : (m : Machine) → IsFollowed m → HasIds m.conns → IsKeptStore (kept_of m)
  followed_kept m is ids = record {
    tree = is.tree;
    ids = bare_ids m.conns ids;
    none_open = all_map (λ conn. Unit {0}) (λ conn. conn.transactions ≡ []) without_transactions (λ conn u. refl) m.conns (all_of_any (λ e. Unit {0}) (λ e. tt) m.conns);
    keys = keys_values opens_in without_transactions m.conns;
    each = all_map (EachOf (IsOpenOver m.tree)) (AreKept m.tree) opens_in (λ conn h. each_kept conn h) m.conns is.transactions;
  }
    where
      each_kept : (conn : Connection) → EachOf (IsOpenOver m.tree) conn → AreKept m.tree (opens_in conn)
      each_kept conn = all_map (IsOpenOver m.tree) (IsKeptTransaction m.tree) kept_transaction (λ t o. record { marks = laws.over m.tree t is.tree o; count = within_max (t.prior.count + (run_on t.copy t).changes) }) conn.transactions

  -- THE OTHER WAY
  module _ (k : KeptStore) (is : IsKeptStore k) where
    abbrev tree : Tree
    tree = k.machine.tree

    there : (c : ℕ) (found : Option Opens) → find nat_cmp c k.opens ≡ found → AreKept tree (or_no_opens found)
    there c None e = tt
    there c (Some ts) e = all_found nat_cmp (AreKept tree) c k.opens ts is.each e

    each_begun : (conns : Connections) → EachOpen (IsOpenOver tree) (map (λ e. (e.0, begun_conn tree (opens_of e.0 k.opens) e.1)) conns)
    each_begun [] = tt
    each_begun (e ∷ conns) =
        (all_map (IsKeptTransaction tree) (IsOpenOver tree) (begun_transaction tree) (λ t h. laws.«open» tree t.marks t.count h.marks) (opens_of e.0 k.opens) (there e.0 (find nat_cmp e.0 k.opens) refl), each_begun conns)

    pub begun_followed : IsBegun (begun_machine k)
    begun_followed = record {
      followed = record { tree = is.tree; transactions = each_begun k.machine.conns };
      ids = record {
        rising = sorted_entries nat_cmp (λ e. begun_conn tree (opens_of e.0 k.opens) e.1) k.machine.conns ∙ is.ids.rising;
        positive = keys_entries (λ i. 1 ≤ i) (λ e. begun_conn tree (opens_of e.0 k.opens) e.1) k.machine.conns is.ids.positive;
      };
    }

    -- what is kept of transactions that were begun
    abbrev again : Opens → Opens
    again ts = with_values kept_transaction (with_values (begun_transaction tree) ts)

    again_same : (ts : Opens) → AreKept tree ts → again ts ≡ ts
    again_same ts h =
        map_map (λ (f : ℕ × KeptTransaction). (f.0, begun_transaction tree f.1)) (λ f. (f.0, kept_transaction f.1)) ts
        ∙ map_itself (λ (f : ℕ × KeptTransaction). (f.0, kept_transaction (begun_transaction tree f.1))) ts
        (all_weaker (λ f. IsKeptTransaction tree f.1) (λ f. (f.0, kept_transaction (begun_transaction tree f.1)) ≡ f)
        (λ f h i. (f.0, record { marks = laws.marks tree f.1.marks f.1.count h.marks.rising i; count = laws.count tree f.1.marks f.1.count h.count i })) ts h)

    opens_again : with_values opens_in (begun_machine k).conns ≡ k.opens
    opens_again =
        map_map (λ e. (e.0, begun_conn tree (opens_of e.0 k.opens) e.1)) (λ e. (e.0, opens_in e.1)) k.machine.conns
        ∙ sym (map_map (λ (e : ℕ × Connection). e.0) at_key k.machine.conns)
        ∙ ap (map at_key) (sym is.keys)
        ∙ map_map (λ (e : ℕ × Opens). e.0) at_key k.opens
        ∙ map_itself (λ (e : ℕ × Opens). at_key e.0) k.opens
        (all_with (λ e. find nat_cmp e.0 k.opens ≡ Some e.1) (λ e. AreKept tree e.1) (λ e. at_key e.0 ≡ e) (λ e f h i. (e.0, (ap (λ o. again (or_no_opens o)) f ∙ again_same e.1 h) i)) k.opens (each_found k.opens rising) is.each)
      where
        at_key : ℕ → ℕ × Opens
        at_key c = (c, again (opens_of c k.opens))

        rising : is_sorted nat_cmp k.opens ≡ true
        rising = sorted_keys nat_cmp k.opens k.machine.conns is.keys ∙ is.ids.rising

    conns_again : with_values without_transactions (begun_machine k).conns ≡ k.machine.conns
    conns_again =
        map_map (λ e. (e.0, begun_conn tree (opens_of e.0 k.opens) e.1)) (λ e. (e.0, without_transactions e.1)) k.machine.conns
        ∙ map_itself (λ (e : ℕ × Connection). (e.0, without_transactions e.1)) k.machine.conns
        (all_weaker (λ e. e.1.transactions ≡ []) (λ e. (e.0, without_transactions e.1) ≡ e)
        (λ e h i. (e.0, record { spec = e.1.spec; watches = e.1.watches; transactions = sym h i })) k.machine.conns is.none_open)

    pub begun_kept : kept_of (begun_machine k) ≡ k
    begun_kept = λ i. record { machine = record { tree = tree; gens = k.machine.gens; conns = conns_again i }; opens = opens_again i }
