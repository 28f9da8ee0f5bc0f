use Rattle.std.proofs.Common.{◌≡◌, ◌++◌, ap, ◌∙◌, arith, length}
use Rattle.std.proofs.lemmas.Result.{on_ok_weaker}
use Rattle.std.specs.Option.{option_copied}
use Rattle.stream_model.specs.Record.{ConnectionData, connection_data}
use Rattle.stream_model.specs.Spelling.{canonical_record}
use Rattle.machine_model.specs.History.{bytes_or_none}
use Rattle.mig_save.specs.Texts.{connection_data_of, connection_text}
use Rattle.mig_save.proofs.Rows.{crowd, unsent_told, rest_told, rest_within}
use Rattle.mig_save.proofs.connections.write_one.Goals as goal

pub overflow_cast-rest : goal.overflow_cast-rest
overflow_cast-rest c =
    let d : ConnectionData = connection_data_of c.args.rows.now.queues c.args.ins.now.entries (c.args.id, c.args.spec) in
    let is : c.rest_in-rest.result ≡ d.rest = c.rest_in-rest.ensures ∙ rest_told c.args.id c.args.rows.now.queues (option_copied c.row-row.result) c.row-row.ensures.queue in
    omega (arith, rest_within d.rest d.unsent c.requires.whole, crowd, is, c.requires.unsent)

pub write_connection-requires : goal.write_connection-requires
write_connection-requires c =
    let d : ConnectionData = connection_data_of c.args.rows.now.queues c.args.ins.now.entries (c.args.id, c.args.spec) in
    let inbox : c.bytes_in-inbox.result.now ≡ d.inbox = c.bytes_in-inbox.ensures ∙ ap bytes_or_none c.get.ensures.value in
    let unsent : c.unsent_in.result.now ≡ d.unsent = c.unsent_in.ensures ∙ unsent_told c.args.id c.args.rows.now.queues (option_copied c.row-row.result) c.row-row.ensures.queue in
    omega (arith, crowd, ap length inbox, ap length unsent, c.requires.unsent, c.requires.inbox)

pub returns : goal.returns
unfolding connection_text
returns c =
    let d : ConnectionData = connection_data_of c.args.rows.now.queues c.args.ins.now.entries (c.args.id, c.args.spec) in
    let rest : c.rest_in-rest.result ≡ d.rest = c.rest_in-rest.ensures ∙ rest_told c.args.id c.args.rows.now.queues (option_copied c.row-row.result) c.row-row.ensures.queue in
    let inbox : c.bytes_in-inbox.result.now ≡ d.inbox = c.bytes_in-inbox.ensures ∙ ap bytes_or_none c.get.ensures.value in
    let unsent : c.unsent_in.result.now ≡ d.unsent = c.unsent_in.ensures ∙ unsent_told c.args.id c.args.rows.now.queues (option_copied c.row-row.result) c.row-row.ensures.queue in
    let given : ConnectionData = record { conn = c.args.id; kind = c.kind_number.result; spec = c.spec_bytes-spec_cells.result; rest = c.rest_in-rest.result; inbox = c.bytes_in-inbox.result.now; unsent = c.unsent_in.result.now } in
    let same : given ≡ d = λ i. record { conn = c.args.id; kind = c.kind_number.ensures i; spec = c.spec_bytes-spec_cells.ensures i; rest = rest i; inbox = inbox i; unsent = unsent i } in
    on_ok_weaker c.write_connection.result
    (λ (h : c.write_connection.new.out ≡ c.args.out.now ++ canonical_record (connection_data given)). h ∙ ap (λ (x : ConnectionData). c.args.out.now ++ canonical_record (connection_data x)) same)
    c.write_connection.ensures.text
