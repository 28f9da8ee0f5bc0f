use Rattle.std.proofs.Common.{◌≡◌, ◌≤◌, ℕ, List, [], ◌∷◌, ◌++◌, reverse, length, vec_len, eqb-true, arith, sym, ap, subst, ◌∙◌}
use Rattle.std.proofs.lemmas.List.{reverse-reverse, reverse-append}
use Rattle.std.specs.Option.{option_to_list}
use Rattle.std.specs.List.{AllByRecursion}
use Rattle.kept_model.specs.States.{TransactionOf}
use Rattle.kept_model.specs.Said.{Said}
use Rattle.kept_model.proofs.SaveLists.{all_at}
use Rattle.mig_load.specs.Came.{Opens}
use Rattle.conn_rows.specs.Rows.{kept_txn}
use Rattle.mig_load.proofs.SettleLemmas.{IsSettledTo, settled_first, settled_last, settled_there, settled_free, settled_next}
use Rattle.mig_load.proofs.settling.settle_conn.Goals as goal

-- what was popped stood first
popped : (left rest : Opens) (o : Rattle.std.specs.Prelude.Option (ℕ × TransactionOf Said)) (e : ℕ × TransactionOf Said) → left ≡ rest ++ option_to_list o → o ≡ Rattle.std.specs.Prelude.Some e → reverse left ≡ e ∷ reverse rest
popped left rest o e is some = ap reverse (is ∙ ap (λ o. rest ++ option_to_list o) some) ∙ reverse-append rest (e ∷ [])

pub left-init : goal.left-init
left-init c = record {
  settled = subst (λ (left : Opens). IsSettledTo c.args.tree.now.nodes c.args.conn c.args.opens c.args.rows.now.txns c.args.rows.now.txns left)
      (sym (ap reverse (c.reverse.ensures.items ∙ ap reverse c.into_entries-left.ensures.entries) ∙ reverse-reverse c.args.opens))
      (settled_first c.args.tree.now.nodes c.args.conn c.args.opens c.args.rows.now.txns c.args.rows.now.txns c.requires.rising c.requires.quiet);
  queues = Rattle.std.proofs.Common.refl;
}

pub put_txn-requires-clause-there : goal.put_txn-requires-clause-there
put_txn-requires-clause-there c =
    let e = c.unwrap-tx.result in
    let rest = reverse c.pop.new.self.items in
    let s = subst (λ (left : Opens). IsSettledTo c.args.tree.now.nodes c.args.conn c.args.opens c.args.rows.now.txns c.left.rows.txns left)
    (popped c.left.left.items c.pop.new.self.items c.pop.result e c.pop.ensures.items c.unwrap-tx.ensures) c.left.invariant.settled in
    settled_there c.args.tree.now.nodes c.args.conn c.args.opens c.args.rows.now.txns c.left.rows.txns e rest c.into_entries-left.ensures.rising s

pub put_txn-requires-clause-positive : goal.put_txn-requires-clause-positive
put_txn-requires-clause-positive c =
    let e = c.unwrap-tx.result in
    let rest = reverse c.pop.new.self.items in
    let s = subst (λ (left : Opens). IsSettledTo c.args.tree.now.nodes c.args.conn c.args.opens c.args.rows.now.txns c.left.rows.txns left)
    (popped c.left.left.items c.pop.new.self.items c.pop.result e c.pop.ensures.items c.unwrap-tx.ensures) c.left.invariant.settled in
    all_at (λ (f : ℕ × TransactionOf Said). 1 ≤ f.0) s.done e rest (subst (λ (es : Opens). AllByRecursion (λ f. 1 ≤ f.0) es) (sym s.split) c.into_entries-left.ensures.positive)

pub put_txn-requires-clause-free : goal.put_txn-requires-clause-free
put_txn-requires-clause-free c =
    let e = c.unwrap-tx.result in
    let rest = reverse c.pop.new.self.items in
    let s = subst (λ (left : Opens). IsSettledTo c.args.tree.now.nodes c.args.conn c.args.opens c.args.rows.now.txns c.left.rows.txns left)
    (popped c.left.left.items c.pop.new.self.items c.pop.result e c.pop.ensures.items c.unwrap-tx.ensures) c.left.invariant.settled in
    settled_free c.args.tree.now.nodes c.args.conn c.args.opens c.args.rows.now.txns c.left.rows.txns e rest c.into_entries-left.ensures.rising s

pub left-preserved : goal.left-preserved
left-preserved c =
    let e = c.unwrap-tx.result in
    let rest = reverse c.pop.new.self.items in
    let s = subst (λ (left : Opens). IsSettledTo c.args.tree.now.nodes c.args.conn c.args.opens c.args.rows.now.txns c.left.rows.txns left)
    (popped c.left.left.items c.pop.new.self.items c.pop.result e c.pop.ensures.items c.unwrap-tx.ensures) c.left.invariant.settled in
    record {
      settled = settled_next c.args.tree.now.nodes c.args.conn c.args.opens c.args.rows.now.txns c.left.rows.txns e rest c.into_entries-left.ensures.rising s c.put_txn.new.rows.txns (kept_txn c.in_ok-txn.txn)
          c.in_ok-txn.ensures c.in_ok-put_txn.ensures.ok;
      queues = c.put_txn.ensures.queues ∙ c.left.invariant.queues;
    }

no_items : (xs : Opens) → length xs ≡ 0 → xs ≡ []
no_items [] e = Rattle.std.proofs.Common.refl
no_items (x ∷ xs) e = absurd (omega (arith, e))

pub returns-clause-ok : goal.returns-clause-ok
returns-clause-ok c =
    let none = eqb-true (vec_len c.left.left) 0 (sym c.left-test.ensures) in
    let empty : length c.left.left.items ≡ 0 = omega (arith, c.left.left.ok.0, none) in
    settled_last c.args.tree.now.nodes c.args.conn c.args.opens c.args.rows.now.txns c.left.rows.txns
    (subst (λ (left : Opens). IsSettledTo c.args.tree.now.nodes c.args.conn c.args.opens c.args.rows.now.txns c.left.rows.txns left) (ap reverse (no_items c.left.left.items empty)) c.left.invariant.settled)
