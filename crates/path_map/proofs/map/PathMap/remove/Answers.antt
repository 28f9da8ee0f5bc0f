use Rattle.std.proofs.Common.{◌≡◌, true, not, sym, subst, arith}
use Rattle.std.specs.FinMap.{is_sorted}
use Rattle.xs_model.specs.Paths.{path_cmp, same_path}
use Rattle.xs_model.proofs.Maps.{sorted_where}
use Rattle.path_map.specs.Map.{Entries}
use Rattle.path_map.specs.Chunks.{joined}
use Rattle.path_map.proofs.map.PathMap.remove.Goals as goal

pub invariant_of-self : goal.invariant_of-self
invariant_of-self g c =
    let laid = c.self.invariant.laid_out in
    record {
      rising = subst (λ (t : Entries g.row.T.Denot). is_sorted path_cmp t ≡ true) (sym c.remove.ensures.joined) (sorted_where path_cmp (λ q. not (same_path c.args.path.now q)) (joined c.self.inside.chunks.items) c.self.invariant.rising);
      laid_out = record {
        filled = c.remove.ensures.filled;
        unused = laid.unused;
        space = omega (arith, laid.space, c.remove.ensures.len, c.remove.ensures.capacity, c.self.inside.chunks.ok.0, c.remove.new.chunks.ok.0);
      };
    }
