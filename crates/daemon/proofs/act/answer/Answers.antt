use Rattle.std.proofs.Common.{◌≡◌, ◌≤◌, ℕ, Ok, Err, sym, ap, subst, ◌∙◌}
use Rattle.std.proofs.lemmas.Result.{IfOk-weaker}
use Rattle.xs_model.specs.declared.message.WireErr.TheVariants.{Enosys, Einval}
use Rattle.xs_model.specs.Requests.{request_of, all_types}
use Rattle.machine_model.specs.Connections.{caller_of}
use Rattle.mark_model.specs.Stores.{KeptStore, kept_act_or_refuse}
use Rattle.wire_codec.specs.declared.request.RequestErr.{RequestErr}
use Rattle.wire_codec.specs.Codec.{IsRequest, request_view}
use Rattle.daemon.specs.Asks.{WatchesInForm}
use Rattle.daemon.specs.Peers.{conn_in}
use Rattle.daemon.specs.Acts.{IsAnswered, store_in}
use Rattle.daemon.proofs.ActLemmas.{asker_bound, refused_request}
use Rattle.daemon.proofs.AskLemmas.{read_in_form}
use Rattle.daemon.proofs.act.answer.Goals as goal

pub read_request-requires : goal.read_request-requires
read_request-requires c =
    subst (λ (d : ℕ). d ≤ 32751) (sym c.domid.ensures) (asker_bound c.args.asker.conn c.args.asker.spec c.args.peers.now c.requires.whole.sound c.requires.there)

pub returns-in-Err-Enosys-clause-ok : goal.returns-in-Err-Enosys-clause-ok
returns-in-Err-Enosys-clause-ok c =
    let head = c.args.head in
    let payload = c.args.payload.now in
    let domid = c.domid.result in
    let asked : request_of all_types head.kind payload domid ≡ Err Enosys =
    subst (λ (e : RequestErr). IsRequest (Err e) (request_of all_types head.kind payload domid)) c.in-Err-Enosys.field-0-is c.in-Err-Enosys.ensures.asked
    in
    refused_request c.args.asker.conn c.args.asker.spec head.tx_id head.kind payload domid Enosys c.args.tree.now c.args.peers.now c.refused.result
    c.requires.whole.counter c.requires.whole.sound c.requires.may c.refused.ensures.reply c.refused.ensures.door c.refused.ensures.owed c.domid.ensures asked

pub returns-in-Err-Einval-clause-ok : goal.returns-in-Err-Einval-clause-ok
returns-in-Err-Einval-clause-ok c =
    let head = c.args.head in
    let payload = c.args.payload.now in
    let domid = c.domid.result in
    let asked : request_of all_types head.kind payload domid ≡ Err Einval =
    subst (λ (e : RequestErr). IsRequest (Err e) (request_of all_types head.kind payload domid)) c.in-Err-Einval.field-0-is c.in-Err-Einval.ensures.asked
    in
    refused_request c.args.asker.conn c.args.asker.spec head.tx_id head.kind payload domid Einval c.args.tree.now c.args.peers.now c.refused-in-Err-Einval.result
    c.requires.whole.counter c.requires.whole.sound c.requires.may c.refused-in-Err-Einval.ensures.reply c.refused-in-Err-Einval.ensures.door c.refused-in-Err-Einval.ensures.owed c.domid.ensures asked

pub act-requires-clause-watch : goal.act-requires-clause-watch
act-requires-clause-watch c =
    subst (λ (d : ℕ). WatchesInForm d (request_view c.in-Ok.request)) c.domid.ensures
    (read_in_form c.domid.result c.args.head.kind c.args.payload.now (request_view c.in-Ok.request) c.in-Ok.ensures.asked)

pub returns-in-Ok-clause-ok : goal.returns-in-Ok-clause-ok
returns-in-Ok-clause-ok c =
    let tree = c.args.tree.now in
    let peers = c.args.peers.now in
    let head = c.args.head in
    let payload = c.args.payload.now in
    let asker = c.args.asker in
    let k : KeptStore = store_in tree peers in
    let asked : request_of all_types head.kind payload (caller_of asker.spec).domid ≡ Ok (request_view c.in-Ok.request) =
    ap (request_of all_types head.kind payload) (sym c.domid.ensures) ∙ c.in-Ok.ensures.asked
    in
    IfOk-weaker c.act.result _ _ (λ answered did.
    subst (λ done. IsAnswered asker.conn tree peers done answered c.act.new.tree c.act.new.peers)
    (sym (ap (kept_act_or_refuse k asker.conn (conn_in peers asker.conn asker.spec) head.tx_id) asked)) did)
    c.act.ensures.ok
