use Rattle.std.proofs.Common.{ℕ, List, ◌++◌, ap, ◌∙◌}
use Rattle.stream_model.specs.Spelling.{header}
use Rattle.mig_save.proofs.SoundParts.{all_txns_fit, conns_fit}
use Rattle.mig_save.proofs.Phases.{image_is}
use Rattle.mig_save.proofs.image.image_of.Goals as goal

pub write_connections-requires : goal.write_connections-requires
write_connections-requires c =
    let p = c.args.parts.now in
    conns_fit p.watchers.now p.rows.now p.tree.now p.globals c.args.ins.now.entries p.conns.now p.conns.now c.requires.sound.bytes

pub write_marks-requires-clause-marks : goal.write_marks-requires-clause-marks
write_marks-requires-clause-marks c =
    let p = c.args.parts.now in
    all_txns_fit p.watchers.now p.rows.now p.tree.now p.globals c.args.ins.now.entries p.conns.now p.conns.now c.requires.sound.store.opens

pub returns : goal.returns
returns c =
    let p = c.args.parts.now in
    image_is p.watchers.now p.rows.now p.tree.now p.globals c.args.ins.now.entries p.conns.now c.write_header.new.out c.write_globals.new.out c.write_connections.new.out
    c.write_watches.new.out c.write_transactions.new.out c.write_nodes.new.out c.write_marks.new.out c.write_end.new.out
    (c.in_ok-write_header.ensures ∙ ap (λ (x : List ℕ). x ++ header) (c.from_vec-out.ensures ∙ c.in_ok-with_capacity.ensures.items)) c.in_ok-write_globals.ensures c.in_ok-write_connections.ensures
    c.in_ok-write_watches.ensures c.in_ok-write_transactions.ensures c.in_ok-write_nodes.ensures c.in_ok-write_marks.ensures c.in_ok-write_end.ensures
