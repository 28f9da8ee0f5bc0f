use Rattle.std.proofs.Common.{ℕ, ◌+◌, length, List, ◌++◌, sym, ap, ◌∙◌, append-nil, arith}
use Rattle.std.specs.List.{concat}
use Rattle.std.proofs.lemmas.Result.{on_ok_weaker}
use Rattle.stream_model.specs.Fields.{u16_bytes}
use Rattle.stream_model.specs.Record.{StreamRecord, connection_data}
use Rattle.stream_model.specs.Spelling.{fields}
use Rattle.mig_records.proofs.Written.{is_record}
use Rattle.mig_records.proofs.writing.write_connection.Goals as goal

pub returns-clause-text : goal.returns-clause-text
returns-clause-text c =
    let r : StreamRecord = connection_data (record { conn = c.args.conn; kind = c.args.kind; spec = c.args.spec.now; rest = c.args.rest; inbox = c.args.inbox.now; unsent = c.args.unsent.now }) in
    let len : ℕ = 28 + (length c.args.inbox.now + length c.args.unsent.now) in
    on_ok_weaker c.push_padding.result
    (is_record r len c.args.out.now c.push_head.new.out c.push_connection.new.out c.push_padding.new.out (omega arith) c.in_ok-push_head.ensures (c.in_ok-push_connection.ensures.text ∙ ap (λ (x : List ℕ). c.push_head.new.out ++ x) (sym (append-nil (concat (fields (u16_bytes 0) r))))))
    c.push_padding.ensures
