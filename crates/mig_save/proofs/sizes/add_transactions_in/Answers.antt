use Rattle.std.proofs.Common.{◌≡◌, ℕ, ◌+◌, ◌*◌, length, sym, ap, ◌∙◌}
use Rattle.std.proofs.lemmas.Result.{IfOk-weaker}
use Rattle.mig_save.specs.Texts.{transactions_text}
use Rattle.mig_save.proofs.RecordSizes.{transactions_size}
use Rattle.mig_save.proofs.sizes.add_transactions_in.Goals as goal

pub returns : goal.returns
returns c =
    let more : c.in_ok-more.more ≡ length c.args.txns.now * 24 = c.in_ok-more.ensures in
    IfOk-weaker c.add.result (λ (n : ℕ). n ≡ c.args.count + c.in_ok-more.more) (λ (n : ℕ). (k : ℕ) → n ≡ c.args.count + length (transactions_text k c.args.txns.now))
    (λ n h k. h ∙ ap (λ (m : ℕ). c.args.count + m) (more ∙ sym (transactions_size k c.args.txns.now))) c.add.ensures
