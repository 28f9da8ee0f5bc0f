use Rattle.std.proofs.Common.{◌≡◌, ℕ, ◌+◌, length}
use Rattle.std.proofs.lemmas.Result.{IfOk-weaker}
use Rattle.kept_model.specs.Images.{image}
use Rattle.store_parts.specs.Kept.{kept_lent}
use Rattle.store_parts.specs.States.{state_of}
use Rattle.mig_save.specs.Texts.{all_marks_text}
use Rattle.mig_save.proofs.SoundParts.{all_txns_fit, conns_fit}
use Rattle.mig_save.proofs.Phases.{image_size}
use Rattle.mig_save.proofs.image.image_len.Goals as goal

pub add_connections-requires : goal.add_connections-requires
add_connections-requires c =
    let p = c.args.parts.now in
    conns_fit p.watchers.now p.rows.now p.tree.now p.globals c.args.ins.now.entries p.conns.now p.conns.now c.requires.sound.bytes

pub add_marks-requires-clause-marks : goal.add_marks-requires-clause-marks
add_marks-requires-clause-marks c =
    let p = c.args.parts.now in
    all_txns_fit p.watchers.now p.rows.now p.tree.now p.globals c.args.ins.now.entries p.conns.now p.conns.now c.requires.sound.store.opens

pub returns : goal.returns
returns c =
    let p = c.args.parts.now in
    IfOk-weaker c.add_marks.result (λ (n : ℕ). n ≡ c.in_ok-nodes.nodes + length (all_marks_text p.conns.now p.tree.now.nodes p.rows.now.txns))
    (λ (n : ℕ). n ≡ length (image (state_of (kept_lent p) c.args.ins.now.entries)))
    (λ n h. image_size p.watchers.now p.rows.now p.tree.now p.globals c.args.ins.now.entries p.conns.now c.in_ok-conns.conns c.in_ok-watches.watches
    c.in_ok-transactions.transactions c.in_ok-nodes.nodes n c.in_ok-conns.ensures c.in_ok-watches.ensures c.in_ok-transactions.ensures c.in_ok-nodes.ensures h)
    c.add_marks.ensures
