use Rattle.std.proofs.Common.{ℕ, [], ◌++◌, cond, ◌==◌, refl, sym, ap, ◌∙◌}
use Rattle.std.proofs.lemmas.Result.{on_ok_weaker, on_err_weaker}
use Rattle.machine_model.specs.History.{Unsent, unsent_to, bytes_or_none}
use Rattle.owed_bytes.proofs.OwedLemmas.{whole_there, whole_put, whole_pushed, whole_added, owed_more, put_again}
use Rattle.owed_bytes.proofs.owed.Owed.append.Goals as goal

pub invariant_of-self : goal.invariant_of-self
invariant_of-self c =
    let owed = c.self.inside.messages.entries in
    let old = c.in-Some.bytes.now in
    let new = c.push.new.self in
    whole_put c.args.conn new owed
    (whole_pushed c.push.result old new c.args.messages
    (on_ok_weaker c.push.result (λ is. is ∙ ap (λ m. old ++ m) c.as_slice.ensures) c.push.ensures.ok) c.push.ensures.err
    (whole_there c.args.conn old owed c.self.invariant c.in-Some.ensures.value) c.requires.whole) c.self.invariant

pub invariant_of-self-in-None : goal.invariant_of-self-in-None
invariant_of-self-in-None c =
    whole_added c.add.result c.args.conn c.args.messages c.self.inside.messages.entries c.add.new.self.entries c.add.ensures.ok c.add.ensures.err c.requires.whole c.self.invariant

pub returns-in-Some-clause-ok : goal.returns-in-Some-clause-ok
returns-in-Some-clause-ok c =
    let owed = c.self.inside.messages.entries in
    let old = c.in-Some.bytes.now in
    on_ok_weaker c.push.result (λ is (k : ℕ).
    owed_more c.args.conn k old c.push.new.self c.args.messages owed (ap bytes_or_none (sym c.in-Some.ensures.value)) (is ∙ ap (λ m. old ++ m) c.as_slice.ensures)
    ∙ ap (λ (o : Unsent). unsent_to k o ++ cond (k == c.args.conn) c.args.messages []) c.self.view_is) c.push.ensures.ok

pub returns-in-Some-clause-err : goal.returns-in-Some-clause-err
returns-in-Some-clause-err c =
    on_err_weaker c.push.result (λ is. put_again c.args.conn c.in-Some.bytes.now c.push.new.self c.self.inside.messages.entries c.get_mut.ensures.rising c.in-Some.ensures.value is ∙ c.self.view_is) c.push.ensures.err

pub returns-in-None-clause-ok : goal.returns-in-None-clause-ok
returns-in-None-clause-ok c =
    let owed = c.self.inside.messages.entries in
    on_ok_weaker c.add.result (λ is (k : ℕ).
    ap (unsent_to k) is ∙ owed_more c.args.conn k [] c.args.messages c.args.messages owed (ap bytes_or_none (sym c.in-None.ensures.value)) refl
    ∙ ap (λ (o : Unsent). unsent_to k o ++ cond (k == c.args.conn) c.args.messages []) c.self.view_is) c.add.ensures.ok
