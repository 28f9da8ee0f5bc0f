use Rattle.std.proofs.Common.{◌≡◌, ◌≤◌, ℕ, ◌+◌, length, refl, sym, ap, subst, ◌∙◌, arith}
use Rattle.machine_model.specs.Transactions.{count_max, within_count, if_any}
use Rattle.mark_model.specs.Marks.{Marks, access_all}
use Rattle.txn_access.specs.Txns.{Txn}
use Rattle.wire_codec.specs.Codec.{operation_of}
use Rattle.daemon.proofs.CommandLemmas.{few_touched, is_inside, some_counted, none_counted}
use Rattle.daemon.proofs.commands.run_inside.Goals as goal
use Rattle.daemon.proofs.commands.run_inside.Goals.{then-not-is_empty, else-not-is_empty}

pub look-requires : goal.look-requires
look-requires c =
    let touched = c.in_ok-did.did.touched in
    let ran = c.run_over.new.txn in
    let is_number = c.from-number.ensures ∙ c.count.ensures ∙ c.reserve_change.ensures.count in
    let few : length touched ≤ length c.args.command.now.path + 2 =
    few_touched c.args.asker.spec (operation_of c.args.command.now.op) c.args.command.now.path c.args.tree.now.nodes c.args.txn.now c.reserve_change.new.self ran c.from-number.result c.in_ok-looks.looks c.in_ok-did.did c.in_ok-did.ensures.ok
    is_number c.reserve_change.ensures.marks c.reserve_change.ensures.count
    in
    let room : c.in_ok-looks.looks ≤ ran.spare = c.in_ok-did.ensures.ok.room c.in_ok-reserve_change.ensures.ok in
    let most : c.in_ok-looks.looks ≡ length c.args.command.now.path + 2 = c.in_ok-looks.ensures in
    let fits : length touched ≤ ran.spare = omega (arith, few, room, most) in
    elim c.if-not-is_empty.branch [
      | then-not-is_empty w ↦ subst (λ (n : ℕ). length touched ≤ n) (sym (ap (λ (t : Txn). t.spare) w.txn-is ∙ w.tally.ensures.spare)) fits
      | else-not-is_empty w ↦ subst (λ (n : ℕ). length touched ≤ n) (sym (ap (λ (t : Txn). t.spare) w.txn-is)) fits
    ]

pub returns-clause-ok : goal.returns-clause-ok
returns-clause-ok c =
    let did = c.in_ok-did.did in
    let ran = c.run_over.new.txn in
    let run = c.in_ok-did.ensures.ok in
    let new = c.look.new.self in
    let is_number = c.from-number.ensures ∙ c.count.ensures ∙ c.reserve_change.ensures.count in
    let small = c.count.type_inv in
    let counted = c.count.ensures in
    let ran_count = run.count in
    let fits : ran.count ≤ count_max = omega (arith, small, counted, ran_count) in
    is_inside c.args.asker.spec (operation_of c.args.command.now.op) c.args.command.now.path c.args.tree.now.nodes c.args.txn.now c.reserve_change.new.self ran c.from-number.result c.in_ok-looks.looks did run
    is_number c.reserve_change.ensures.marks c.reserve_change.ensures.count did.reply new refl
    (c.look.ensures.marks ∙ ap (λ (ms : Marks). access_all did.touched ms) (elim c.if-not-is_empty.branch as (λ _. c.if-not-is_empty.txn.marks ≡ ran.marks) [
      | then-not-is_empty w ↦ ap (λ (t : Txn). t.marks) w.txn-is ∙ w.tally.ensures.marks
      | else-not-is_empty w ↦ ap (λ (t : Txn). t.marks) w.txn-is
    ]))
    (c.look.ensures.count ∙ (elim c.if-not-is_empty.branch as (λ _. c.if-not-is_empty.txn.count ≡ within_count (if_any did.written ran.count)) [
      | then-not-is_empty w ↦ ap (λ (t : Txn). t.count) w.txn-is ∙ w.tally.ensures.count ∙ some_counted did.written ran.count (sym c.is_empty.ensures ∙ w.if-not-is_empty.true)
      | else-not-is_empty w ↦ ap (λ (t : Txn). t.count) w.txn-is ∙ none_counted did.written ran.count fits (sym c.is_empty.ensures ∙ w.if-not-is_empty.false)
    ]))
