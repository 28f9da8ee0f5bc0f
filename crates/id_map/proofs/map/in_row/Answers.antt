use Rattle.std.proofs.Common.{ℕ, arith, sym, ap, ◌∙◌}
use Rattle.id_map.proofs.FreeLemmas.{stops_at}
use Rattle.id_map.proofs.map.in_row.Goals as goal

pub loop-low-preserved : goal.loop-low-preserved
loop-low-preserved g c = record {
  in_order = omega arith;
  within = omega arith;
  ends = c.loop-low.invariant.ends;
  stops = λ lt d.
      stops_at c.args.entries.now c.requires.rising c.requires.positive _ c.index-entries-middle.result c.index-entries-middle.is
      (λ same. c.if-entries-middle.false (sym (ap (λ (e : ℕ × g.row.T.Denot). e.0) c.index-entries-middle.is) ∙ same)) lt d;
}
