use Rattle.std.proofs.Common.{◌≡◌, ℕ, [], ◌∷◌, ◌++◌, reverse, length, vec_len, Option, Some, eqb-true, arith, refl, sym, ap, subst, ◌∙◌}
use Rattle.std.proofs.lemmas.List.{reverse-reverse, reverse-append}
use Rattle.std.specs.Option.{option_to_list}
use Rattle.mig_load.specs.Came.{Opens, Saids}
use Rattle.mig_load.proofs.SettleConnsLemmas.{AreSettledTo, all_first, all_last, next_rising, next_quiet, next_settled}
use Rattle.mig_load.proofs.settling.settle_conns.Goals as goal

-- what was popped stood first
popped : (left rest : Saids) (o : Option (ℕ × Opens)) (e : ℕ × Opens) → left ≡ rest ++ option_to_list o → o ≡ Some e → reverse left ≡ e ∷ reverse rest
popped left rest o e is some = ap reverse (is ∙ ap (λ o. rest ++ option_to_list o) some) ∙ reverse-append rest (e ∷ [])

pub left-init : goal.left-init
left-init c = record {
  settled = subst (λ (left : Saids). AreSettledTo c.args.tree.now.nodes c.args.saids.items c.args.rows.now.txns c.args.rows.now.txns left)
      (sym (ap reverse c.reverse.ensures.items ∙ reverse-reverse c.args.saids.items))
      (all_first c.args.tree.now.nodes c.args.saids.items c.args.rows.now.txns c.args.rows.now.txns c.requires.quiet);
  queues = refl;
}

pub settle_conn-requires-clause-rising : goal.settle_conn-requires-clause-rising
settle_conn-requires-clause-rising c =
    let e = c.unwrap-conn.result in
    let rest = reverse c.pop.new.self.items in
    let s = subst (λ (left : Saids). AreSettledTo c.args.tree.now.nodes c.args.saids.items c.args.rows.now.txns c.left.rows.txns left)
    (popped c.left.left.items c.pop.new.self.items c.pop.result e c.pop.ensures.items c.unwrap-conn.ensures) c.left.invariant.settled in
    next_rising c.args.tree.now.nodes c.args.saids.items c.args.rows.now.txns c.left.rows.txns e rest c.requires.rising c.requires.there c.requires.kept s

pub settle_conn-requires-clause-quiet : goal.settle_conn-requires-clause-quiet
settle_conn-requires-clause-quiet c =
    let e = c.unwrap-conn.result in
    let rest = reverse c.pop.new.self.items in
    let s = subst (λ (left : Saids). AreSettledTo c.args.tree.now.nodes c.args.saids.items c.args.rows.now.txns c.left.rows.txns left)
    (popped c.left.left.items c.pop.new.self.items c.pop.result e c.pop.ensures.items c.unwrap-conn.ensures) c.left.invariant.settled in
    next_quiet c.args.tree.now.nodes c.args.saids.items c.args.rows.now.txns c.left.rows.txns e rest c.requires.rising c.requires.there c.requires.kept s

pub left-preserved : goal.left-preserved
left-preserved c =
    let e = c.unwrap-conn.result in
    let rest = reverse c.pop.new.self.items in
    let s = subst (λ (left : Saids). AreSettledTo c.args.tree.now.nodes c.args.saids.items c.args.rows.now.txns c.left.rows.txns left)
    (popped c.left.left.items c.pop.new.self.items c.pop.result e c.pop.ensures.items c.unwrap-conn.ensures) c.left.invariant.settled in
    record {
      settled = next_settled c.args.tree.now.nodes c.args.saids.items c.args.rows.now.txns c.left.rows.txns e rest c.requires.rising c.requires.there c.requires.kept s c.settle_conn.new.rows.txns
          c.in_ok-settle_conn.ensures.ok;
      queues = c.settle_conn.ensures.queues ∙ c.left.invariant.queues;
    }

no_items : (xs : Saids) → length xs ≡ 0 → xs ≡ []
no_items [] e = refl
no_items (x ∷ xs) e = absurd (omega (arith, e))

pub returns-clause-ok : goal.returns-clause-ok
returns-clause-ok c =
    let none = eqb-true (vec_len c.left.left) 0 (sym c.left-test.ensures) in
    let empty : length c.left.left.items ≡ 0 = omega (arith, c.left.left.ok.0, none) in
    all_last c.args.tree.now.nodes c.args.saids.items c.args.rows.now.txns c.left.rows.txns
    (subst (λ (left : Saids). AreSettledTo c.args.tree.now.nodes c.args.saids.items c.args.rows.now.txns c.left.rows.txns left) (ap reverse (no_items c.left.left.items empty)) c.left.invariant.settled)
