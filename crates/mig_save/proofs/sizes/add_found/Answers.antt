use Rattle.std.proofs.Common.{◌≡◌, ℕ, ◌+◌, ◌*◌, length, sym, ap, ◌∙◌, arith}
use Rattle.std.proofs.lemmas.Result.{IfOk-weaker}
use Rattle.std.specs.Option.{option_copied}
use Rattle.xs_model.proofs.LengthLemmas.{spelled-short}
use Rattle.stream_model.specs.Spelling.{whole_size, canonical_record}
use Rattle.kept_model.specs.Images.{found_record}
use Rattle.mig_save.proofs.RecordSizes.{found_size, perms_small, value_small}
use Rattle.mig_save.proofs.sizes.add_found.Goals as goal

pub whole_size-requires : goal.whole_size-requires
whole_size-requires c =
    let found = option_copied c.args.node in
    omega (
      arith,
      ap length c.perms_in-perms.ensures,
      ap length c.value_in.ensures,
      ap length c.bytes.ensures.text,
      perms_small found c.requires,
      value_small found c.requires,
      spelled-short c.bytes.result.now 0 c.args.path.now (c.bytes.ensures.read 0),
    )

pub returns : goal.returns
returns c =
    let found = option_copied c.args.node in
    let p = c.args.path.now in
    IfOk-weaker c.add.result (λ (n : ℕ). n ≡ c.args.count + c.whole_size.result) (λ (n : ℕ). (k tx access : ℕ) → n ≡ c.args.count + length (canonical_record (found_record k tx access p found)))
    (λ n h k tx access. h ∙ ap (λ (m : ℕ). c.args.count + m) (
    c.whole_size.ensures
    ∙ (λ i. whole_size (16 + 4 * length (c.perms_in-perms.ensures i) + (length (c.bytes.ensures.text i) + 1) + length (c.value_in.ensures i)))
    ∙ sym (found_size k tx access p found)
    )) c.add.ensures
