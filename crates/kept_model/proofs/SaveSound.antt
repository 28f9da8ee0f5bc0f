-- What a sound state has, connection by connection and transaction by transaction.
use Rattle.std.specs.Prelude.{◌≡◌, ℕ, ◌^◌, ◌<◌, ◌≤◌, true, List, [], ◌∷◌}
use Rattle.std.specs.List.{AllByRecursion}
use Rattle.std.specs.Ordering.{nat_cmp}
use Rattle.std.specs.FinMap.{is_sorted}
use Rattle.std.proofs.Common.{sym, ◌∙◌}
use Rattle.xs_model.specs.Trees.{Tree}
use Rattle.xs_model.proofs.Maps.{sorted_map}
use Rattle.machine_model.specs.Connections.{caller_of}
use Rattle.machine_model.specs.Transactions.{count_max}
use Rattle.mark_model.specs.Marks.{Mark, AreOver}
use Rattle.mark_model.specs.Stores.{IsKeptTransaction}
use Rattle.mark_model.proofs.StoreMaps.{with_values}
use Rattle.kept_model.specs.States.{State, TransactionOf, ConnectionOf, kept_transaction, opens_in, connection_in}
use Rattle.kept_model.specs.Sound.{IsSound, MarksFit, SpecFits, AreWatches, OpensFit, BytesFit}

pub record TransactionFits (tree : Tree) (e : ℕ × TransactionOf Mark) : Type 0 where
  pub positive : 1 ≤ e.0
  pub small : e.0 < 2 ^ 32
  pub count : e.1.count ≤ count_max
  pub marks : MarksFit e.1.marks
  pub over : AreOver tree e.1.marks

pub record ConnectionFits (tree : Tree) (e : ℕ × ConnectionOf Mark) : Type 0 where
  pub positive : 1 ≤ e.0
  pub small : e.0 < 2 ^ 32
  pub spec : SpecFits e.1.spec
  pub watches : AreWatches (caller_of e.1.spec).domid e.1.watches
  pub bytes : BytesFit e.1
  pub rising : is_sorted nat_cmp e.1.opens ≡ true
  pub opens : AllByRecursion (TransactionFits tree) e.1.opens

module _ (tree : Tree) where
  transactions_fit : (ts : List (ℕ × TransactionOf Mark)) → AllByRecursion (λ f. IsKeptTransaction tree f.1) (with_values kept_transaction ts)
      → AllByRecursion (λ f. (1 ≤ f.0) × (f.0 < 2 ^ 32)) (with_values kept_transaction ts) → AllByRecursion (λ f. MarksFit f.1.marks) (with_values kept_transaction ts)
      → AllByRecursion (TransactionFits tree) ts
  transactions_fit [] k n m = tt
  transactions_fit (t ∷ ts) k n m =
      (record { positive = n.0.0; small = n.0.1; count = k.0.count; marks = m.0; over = k.0.marks }, transactions_fit ts k.1 n.1 m.1)

  connections_fit : (cs : List (ℕ × ConnectionOf Mark)) → AllByRecursion (λ e. 1 ≤ e.0) (with_values connection_in cs) → AllByRecursion (λ e. e.0 < 2 ^ 32) (with_values connection_in cs)
      → AllByRecursion (λ e. SpecFits e.1.spec) (with_values connection_in cs) → AllByRecursion (λ e. AreWatches (caller_of e.1.spec).domid e.1.watches) (with_values connection_in cs)
      → AllByRecursion (λ e. AllByRecursion (λ f. IsKeptTransaction tree f.1) e.1) (with_values opens_in cs) → AllByRecursion (λ e. OpensFit e.1) (with_values opens_in cs)
      → AllByRecursion (λ e. BytesFit e.1) cs → AllByRecursion (ConnectionFits tree) cs
  connections_fit [] p i s w k o b = tt
  connections_fit (c ∷ cs) p i s w k o b = (
    record {
      positive = p.0;
      small = i.0;
      spec = s.0;
      watches = w.0;
      bytes = b.0;
      rising = sym (sorted_map nat_cmp kept_transaction c.1.opens) ∙ o.0.rising;
      opens = transactions_fit c.1.opens k.0 o.0.numbers o.0.marks;
    },
    connections_fit cs p.1 i.1 s.1 w.1 k.1 o.1 b.1,
  )

module _ (s : State) (sound : IsSound s) where
  pub all_fit : AllByRecursion (ConnectionFits s.tree) s.conns
  all_fit =
      connections_fit s.tree s.conns sound.store.kept.ids.positive sound.store.ids sound.store.ends sound.store.watches sound.store.kept.each sound.store.opens sound.bytes

  pub conns_rising : is_sorted nat_cmp s.conns ≡ true
  conns_rising = sym (sorted_map nat_cmp connection_in s.conns) ∙ sound.store.kept.ids.rising
