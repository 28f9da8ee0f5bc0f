use Rattle.std.proofs.Common.{ℕ, ◌≡◌, sym, subst, ◌∙◌, arith, ◌+◌, ◌-◌, ◌/◌}
use Rattle.path_map.specs.Chunks.{IsRangeFor}
use Rattle.path_map.proofs.Chunked.{front_half, back_half}
use Rattle.path_map.proofs.chunks.chunk_between.Goals as goal

pub halves-preserved-then-begins_behind : goal.halves-preserved-then-begins_behind
halves-preserved-then-begins_behind g c = record {
  low = c.halves.invariant.low;
  high = omega arith;
  range = front_half c.args.path.now c.args.chunks.now c.halves.from (c.halves.from + (c.halves.to - c.halves.from) / 2) c.halves.to c.index-chunks-middle.result c.halves.invariant.range c.requires.rising c.requires.filled (omega arith) (omega arith) c.index-chunks-middle.is (sym c.begins_behind-in-halves.ensures ∙ c.if-begins_behind.true);
}

pub halves-preserved : goal.halves-preserved
halves-preserved g c = record {
  low = omega arith;
  high = c.halves.invariant.high;
  range = back_half c.args.path.now c.args.chunks.now c.halves.from (c.halves.from + (c.halves.to - c.halves.from) / 2) c.halves.to c.index-chunks-middle.result c.halves.invariant.range c.requires.rising c.requires.filled (omega arith) (omega arith) c.index-chunks-middle.is (sym c.begins_behind-in-halves.ensures ∙ c.if-begins_behind.false);
}

pub returns-then-not-begins_behind-clause-range : goal.returns-then-not-begins_behind-clause-range
returns-then-not-begins_behind-clause-range g c =
    let next : c.args.high ≡ c.args.high - 1 + 1 = omega arith in
    subst (λ (high : ℕ). IsRangeFor c.args.path.now c.args.chunks.now (c.args.high - 1) high) next
    (back_half c.args.path.now c.args.chunks.now c.args.low (c.args.high - 1) c.args.high c.index-chunks-high.result c.requires.range c.requires.rising c.requires.filled (omega arith) (omega arith) c.index-chunks-high.is (sym c.begins_behind.ensures ∙ c.if-not-begins_behind.true))
