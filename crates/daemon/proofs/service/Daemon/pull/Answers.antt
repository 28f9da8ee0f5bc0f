use Rattle.std.proofs.Common.{sym, subst}
use Rattle.daemon.specs.declared.answer.Pull.{Pull}
use Rattle.store_parts.specs.Kept.{Kept}
use Rattle.daemon.specs.Acts.{kept_by}
use Rattle.daemon.specs.Submits.{Pulled}
use Rattle.daemon.proofs.SubmitLemmas.{positive, pulled_none, pulled_nothing, pulled_some}
use Rattle.daemon.proofs.service.Daemon.pull.Goals as goal
use Rattle.daemon.proofs.service.Daemon.pull.Goals.{in-None, in-Some-eq0, in-Some}

pub returns : goal.returns
returns c =
    let tree = c.self.inside.tree in
    let old = c.self.inside.peers in
    let globals = c.self.inside.globals in
    let new = c.pull.new.self in
    let conn = c.args.conn in
    let into = c.args.into.now in
    let into_new = c.pull.new.into in
    subst (λ (k : Kept). Pulled k conn into (kept_by tree new globals) into_new c.match-pull.result) c.self.view_is
    (elim c.match-pull.branch [
      | in-None w ↦ subst (λ (r : Pull). Pulled (kept_by tree old globals) conn into (kept_by tree new globals) into_new r) (sym w.result-is)
          (pulled_none tree globals old new conn into into_new w.in-None.ensures.specs c.pull.ensures.watched c.pull.ensures.txns w.in-None.ensures.pulled)
      | in-Some-eq0 w ↦ subst (λ (r : Pull). Pulled (kept_by tree old globals) conn into (kept_by tree new globals) into_new r) (sym w.result-is)
          (pulled_nothing tree globals old new conn into into_new w.in-Some-eq0.field-0 c.self.invariant.sound c.requires w.in-Some-eq0.field-0-test w.in-Some-eq0.ensures.specs c.pull.ensures.watched c.pull.ensures.txns w.in-Some-eq0.ensures.pulled)
      | in-Some w ↦ subst (λ (r : Pull). Pulled (kept_by tree old globals) conn into (kept_by tree new globals) into_new r) (sym w.result-is)
          (pulled_some tree globals old new conn into into_new w.in-Some.count (c.pull.ensures.sound c.self.invariant.sound) (positive w.in-Some.count w.in-Some.count-test.1) w.in-Some.ensures.specs c.pull.ensures.watched c.pull.ensures.txns w.in-Some.ensures.pulled)
    ])
