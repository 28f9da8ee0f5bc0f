use Rattle.std.proofs.Common.{sym, ◌∙◌, arith, ◌+◌, ◌-◌, ◌/◌}
use Rattle.path_map.proofs.PastChunks.{front_half, back_half}
use Rattle.path_map.proofs.past.chunk_past.Goals as goal

pub halves-preserved-then-begins_past : goal.halves-preserved-then-begins_past
halves-preserved-then-begins_past g c =
    front_half c.args.path.now c.args.leaf.now c.args.chunks.now c.halves.from (c.halves.from + (c.halves.to - c.halves.from) / 2) c.halves.to c.index-chunks-middle.result c.halves.invariant c.requires.rising c.requires.filled (omega arith) (omega arith) c.index-chunks-middle.is (sym c.begins_past.ensures ∙ c.if-begins_past.true)

pub halves-preserved : goal.halves-preserved
halves-preserved g c =
    back_half c.args.path.now c.args.leaf.now c.args.chunks.now c.halves.from (c.halves.from + (c.halves.to - c.halves.from) / 2) c.halves.to c.index-chunks-middle.result c.halves.invariant c.requires.rising c.requires.filled (omega arith) (omega arith) c.index-chunks-middle.is (sym c.begins_past.ensures ∙ c.if-begins_past.false)
