use Rattle.std.proofs.Common.{◌≡◌, [], rules, arith}
use Rattle.program_io.proofs.EndLemmas.{front_so_far, front_then, but_then, all_then}
use Rattle.stream_view.proofs.ShowLemmas.{still_but, none_left}
use Rattle.stream_view.proofs.show.write_lines.Goals as goal

pub returns-in_err-push_next-clause-front : goal.returns-in_err-push_next-clause-front
returns-in_err-push_next-clause-front g c = front_so_far _ _ _ _ c.loop-lines.invariant.all

pub returns-in_err-write_if_many-clause-front : goal.returns-in_err-write_if_many-clause-front
returns-in_err-write_if_many-clause-front g c =
    front_then _ _ _ _ c.push_next.new.lines _ (still_but _ _ _ _ _ c.in_ok-push_next.ensures.same c.loop-lines.invariant.all) c.in_err-write_if_many.ensures.front

pub loop-lines-preserved : goal.loop-lines-preserved
loop-lines-preserved g c =
    record {
      all = but_then _ _ _ _ c.push_next.new.lines _ _ (still_but _ _ _ _ _ c.in_ok-push_next.ensures.same c.loop-lines.invariant.all) c.in_ok-write_if_many.ensures.ok;
      counts = omega (arith, c.in_ok-write_if_many.ensures.counts);
    }

pub returns-in_err-write_all-clause-front : goal.returns-in_err-write_all-clause-front
returns-in_err-write_all-clause-front g c =
    front_then _ _ _ _ c.push_next.new.lines _ (still_but _ _ _ _ _ c.in_ok-push_next.ensures.same c.loop-lines.invariant.all) (rw c.as_slice.ensures at c.write_all.ensures.front)

pub returns-clause-ok : goal.returns-clause-ok
returns-clause-ok g c =
    let none : c.push_next.new.reader.records ≡ [] = search rules in
    all_then _ _ _ _ c.push_next.new.lines (none_left _ _ _ c.push_next.new.lines _ _ _ none (still_but _ _ _ _ _ c.in_ok-push_next.ensures.same c.loop-lines.invariant.all)) (rw c.as_slice.ensures at c.in_ok-write_all.ensures.ok)

pub returns-clause-front : goal.returns-clause-front
returns-clause-front g c =
    front_then _ _ _ _ c.push_next.new.lines _ (still_but _ _ _ _ _ c.in_ok-push_next.ensures.same c.loop-lines.invariant.all) (rw c.as_slice.ensures at c.write_all.ensures.front)
