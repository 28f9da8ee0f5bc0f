use Rattle.std.proofs.Common.{◌≡◌, ℕ, ◌+◌, length, sym, ap, ◌∙◌, arith}
use Rattle.std.proofs.lemmas.Result.{IfOk-weaker}
use Rattle.std.specs.Option.{option_copied}
use Rattle.stream_model.specs.Record.{ConnectionData, connection_data}
use Rattle.stream_model.specs.Spelling.{whole_size, canonical_record}
use Rattle.machine_model.specs.History.{bytes_or_none}
use Rattle.kept_model.proofs.SaveFields.{spec_length}
use Rattle.mig_save.specs.Texts.{connection_data_of, connection_text}
use Rattle.mig_save.proofs.Rows.{crowd, unsent_told}
use Rattle.mig_save.proofs.RecordSizes.{connection_size}
use Rattle.mig_save.proofs.sizes.add_connection.Goals as goal

pub whole_size-requires : goal.whole_size-requires
whole_size-requires c =
    let d : ConnectionData = connection_data_of c.args.rows.now.queues c.args.ins.now.entries (c.args.id, c.args.spec) in
    let inbox : c.bytes_in-inbox.result.now ≡ d.inbox = c.bytes_in-inbox.ensures ∙ ap bytes_or_none c.get.ensures.value in
    let unsent : c.unsent_in-unsent.result.now ≡ d.unsent = c.unsent_in-unsent.ensures ∙ unsent_told c.args.id c.args.rows.now.queues (option_copied c.row.result) c.row.ensures.queue in
    omega (arith, crowd, ap length inbox, ap length unsent, c.requires.unsent, c.requires.inbox)

pub returns : goal.returns
unfolding connection_text
returns c =
    let d : ConnectionData = connection_data_of c.args.rows.now.queues c.args.ins.now.entries (c.args.id, c.args.spec) in
    let inbox : c.bytes_in-inbox.result.now ≡ d.inbox = c.bytes_in-inbox.ensures ∙ ap bytes_or_none c.get.ensures.value in
    let unsent : c.unsent_in-unsent.result.now ≡ d.unsent = c.unsent_in-unsent.ensures ∙ unsent_told c.args.id c.args.rows.now.queues (option_copied c.row.result) c.row.ensures.queue in
    IfOk-weaker c.add.result (λ (n : ℕ). n ≡ c.args.count + c.whole_size.result) (λ (n : ℕ). n ≡ c.args.count + length (canonical_record (connection_data d)))
    (λ n h. h ∙ ap (λ (m : ℕ). c.args.count + m) (c.whole_size.ensures ∙ (λ i. whole_size (28 + length (inbox i) + length (unsent i))) ∙ sym (connection_size d (spec_length c.args.spec)))) c.add.ensures
