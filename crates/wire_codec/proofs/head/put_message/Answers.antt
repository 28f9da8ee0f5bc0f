use Rattle.std.proofs.Common.{◌≡◌, ℕ, List, ◌+◌, ◌++◌, length, drop, ap, ◌∙◌}
use Rattle.wire_codec.proofs.PutLemmas.{both_put}
use Rattle.wire_codec.proofs.head.put_message.Goals as goal

pub returns-clause-bytes : goal.returns-clause-bytes
returns-clause-bytes c =
    let sixteen : length c.head_bytes.result ≡ 16 = ap (λ (l : List ℕ). length l) c.head_bytes.ensures in
    both_put c.head_bytes.result c.args.payload.now (drop (0 + length c.head_bytes.result) c.args.into.now) c.overwrite.new.into c.overwrite-2.new.into sixteen c.overwrite.ensures _ c.overwrite-2.ensures
    ∙ ap (λ (h : List ℕ). h ++ c.args.payload.now) c.head_bytes.ensures
