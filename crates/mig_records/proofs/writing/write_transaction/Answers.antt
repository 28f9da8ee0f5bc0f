use Rattle.std.proofs.Common.{ℕ, List, ◌++◌, sym, ap, ◌∙◌, append-nil, arith}
use Rattle.std.proofs.lemmas.Result.{on_ok_weaker}
use Rattle.stream_model.proofs.FieldLemmas.{length-u32_bytes}
use Rattle.stream_model.specs.Record.{StreamRecord, transaction_data}
use Rattle.mig_records.proofs.Written.{is_record}
use Rattle.mig_records.proofs.writing.write_transaction.Goals as goal

pub returns-clause-text : goal.returns-clause-text
returns-clause-text c =
    let r : StreamRecord = transaction_data (record { conn = c.args.conn; tx = c.args.tx; count = c.args.count }) in
    let len : ℕ = 12 in
    on_ok_weaker c.push_padding.result
    (is_record r len c.args.out.now c.push_head.new.out c.push_transaction.new.out c.push_padding.new.out (omega (arith, length-u32_bytes c.args.count)) c.in_ok-push_head.ensures c.in_ok-push_transaction.ensures)
    c.push_padding.ensures
