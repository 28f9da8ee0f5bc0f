use Rattle.std.proofs.Common.{◌≡◌, take, ap, sym, arith}
use Rattle.std.proofs.lemmas.List.{take_all}
use Rattle.xs_model.specs.Paths.{absolute_path}
use Rattle.xs_path.proofs.Splitting.{slashes}
use Rattle.xs_path.proofs.Cuts.{absolute_path-take, IsPathText-take, slashes-at_slash, slashes-at_other, names_at_most}
use Rattle.xs_path.proofs.text.prefix_of.Goals as goal
use Rattle.xs_path.proofs.text.prefix_of.Goals.{then-text-place-eq47+else-left-eq0, else-text-place-eq47}

pub returns-then-left-eq0-clause-path : goal.returns-then-left-eq0-clause-path
returns-then-left-eq0-clause-path c =
    absolute_path-take c.args.text.now c.loop-place.place c.args.names c.requires (omega arith) c.loop-place-test.true c.if-text-place-eq47.true (omega arith)

pub returns-then-left-eq0-clause-text : goal.returns-then-left-eq0-clause-text
returns-then-left-eq0-clause-text c =
    IsPathText-take c.args.text.now c.loop-place.place c.requires (omega arith) c.loop-place-test.true c.if-text-place-eq47.true

pub loop-place-preserved : goal.loop-place-preserved
loop-place-preserved c =
    elim c.if-text-place-eq47.branch [
      | then-text-place-eq47+else-left-eq0 w ↦ record {
        more = omega arith;
        counted = omega (arith, slashes-at_slash c.args.text.now c.loop-place.place c.loop-place-test.true w.if-text-place-eq47.true);
      }
      | else-text-place-eq47 w ↦ record {
        more = omega arith;
        counted = omega (arith, slashes-at_other c.args.text.now c.loop-place.place c.loop-place-test.true w.if-text-place-eq47.false);
      }
    ]

pub returns-clause-path : goal.returns-clause-path
returns-clause-path c =
    let text = c.args.text.now in
    let all : slashes (take c.loop-place.place text) ≡ slashes text = ap slashes (take_all c.loop-place.place text c.loop-place-test.false) in
    sym (take_all c.args.names (absolute_path text) (omega (arith, names_at_most text c.requires.absolute)))
