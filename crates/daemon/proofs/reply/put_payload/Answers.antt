use Rattle.std.proofs.Common.{refl, length}
use Rattle.xs_model.specs.declared.message.Header.{Header}
use Rattle.daemon.proofs.ReplyLemmas.{written_is_reply}
use Rattle.daemon.proofs.reply.put_payload.Goals as goal

pub returns-clause-whole : goal.returns-clause-whole
returns-clause-whole c =
    let head : Header = record { kind = c.args.head.kind; req_id = c.args.head.req_id; tx_id = c.args.head.tx_id; len = length c.args.payload.now } in
    written_is_reply head c.args.payload.now refl c.requires _ c.put_message.ensures.bytes
