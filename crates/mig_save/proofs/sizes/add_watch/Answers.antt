use Rattle.std.proofs.Common.{◌≡◌, ℕ, ◌+◌, length, sym, ap, ◌∙◌}
use Rattle.std.proofs.lemmas.Result.{IfOk-weaker}
use Rattle.xs_model.specs.Watches.{Watch}
use Rattle.stream_model.specs.Spelling.{canonical_record}
use Rattle.kept_model.specs.Images.{watch_record}
use Rattle.watch_table.specs.Tables.{watch_of}
use Rattle.mig_save.proofs.RecordSizes.{watch_size}
use Rattle.mig_save.proofs.sizes.add_watch.Goals as goal

pub returns : goal.returns
returns c =
    let w : Watch = watch_of c.args.wpath.now c.args.token.now in
    IfOk-weaker c.add.result (λ (n : ℕ). n ≡ c.args.count + c.whole_size.result) (λ (n : ℕ). (k : ℕ) → n ≡ c.args.count + length (canonical_record (watch_record k w)))
    (λ n h k. h ∙ ap (λ (m : ℕ). c.args.count + m) (c.whole_size.ensures ∙ sym (watch_size k w))) c.add.ensures
