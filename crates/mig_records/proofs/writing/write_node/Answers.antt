use Rattle.std.proofs.Common.{ℕ, ◌+◌, ◌*◌, length, List, ◌++◌, sym, ap, ◌∙◌, append-nil, arith}
use Rattle.std.specs.List.{concat}
use Rattle.std.proofs.lemmas.Result.{on_ok_weaker}
use Rattle.stream_model.specs.Fields.{u16_bytes}
use Rattle.stream_model.specs.Record.{StreamRecord, node_data}
use Rattle.stream_model.specs.Spelling.{fields}
use Rattle.mig_records.proofs.Written.{is_record}
use Rattle.mig_records.proofs.writing.write_node.Goals as goal

pub returns-clause-text : goal.returns-clause-text
returns-clause-text c =
    let r : StreamRecord = node_data (record { conn = c.args.conn; tx = c.args.tx; access = c.args.access; perms = c.args.perms.now; path = c.args.path.now; value = c.args.value.now }) in
    let len : ℕ = 16 + (4 * length c.args.perms.now + length c.args.path.now + length c.args.value.now) in
    on_ok_weaker c.push_padding.result
    (is_record r len c.args.out.now c.push_head.new.out c.push_node.new.out c.push_padding.new.out (omega arith) c.in_ok-push_head.ensures (c.in_ok-push_node.ensures.text ∙ ap (λ (x : List ℕ). c.push_head.new.out ++ x) (sym (append-nil (concat (fields (u16_bytes 0) r))))))
    c.push_padding.ensures
