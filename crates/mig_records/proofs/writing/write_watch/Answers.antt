use Rattle.std.proofs.Common.{ℕ, ◌+◌, length, List, ◌++◌, sym, ap, ◌∙◌, append-nil, arith}
use Rattle.std.specs.List.{concat}
use Rattle.std.proofs.lemmas.Result.{on_ok_weaker}
use Rattle.stream_model.specs.Fields.{u16_bytes}
use Rattle.stream_model.specs.Record.{StreamRecord, watch_data}
use Rattle.stream_model.specs.Spelling.{fields}
use Rattle.mig_records.proofs.Written.{is_record}
use Rattle.mig_records.proofs.writing.write_watch.Goals as goal

pub returns-clause-text : goal.returns-clause-text
returns-clause-text c =
    let r : StreamRecord = watch_data (record { conn = c.args.conn; wpath = c.args.wpath.now; token = c.args.token.now }) in
    let len : ℕ = 8 + (length c.args.wpath.now + length c.args.token.now) in
    on_ok_weaker c.push_padding.result
    (is_record r len c.args.out.now c.push_head.new.out c.push_watch.new.out c.push_padding.new.out (omega arith) c.in_ok-push_head.ensures (c.in_ok-push_watch.ensures ∙ ap (λ (x : List ℕ). c.push_head.new.out ++ x) (sym (append-nil (concat (fields (u16_bytes 0) r))))))
    c.push_padding.ensures
