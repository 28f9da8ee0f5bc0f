use Rattle.std.proofs.Common.{sym, ◌∙◌}
use Rattle.machine_model.specs.declared.bounds.TheConstants.{CROWD_LIMIT}
use Rattle.conn_rows.proofs.NoteLemmas.{is_not_lower}
use Rattle.conn_rows.proofs.CrowdLemmas.{sum_at, fit_first, fit_more, fit_past, crowding_next, crowding_none}
use Rattle.conn_rows.proofs.sending.crowding.Goals as goal

pub walk-init : goal.walk-init
walk-init c = record { fits = fit_first c.args.conn c.args.reply c.args.owed.now c.args.rows.now.entries c.requires.positive }

pub returns-then-is_crowded : goal.returns-then-is_crowded
returns-then-is_crowded c =
    sym (crowding_next c.args.conn c.args.reply c.args.owed.now c.walk.at c.in-Some.receiver c.in-Some.ensures.some c.args.rows.now.entries c.requires.short c.walk.invariant.fits
    c.in-Some-get.row.now c.get.ensures.rising c.in-Some-get.ensures.value (sym c.is_crowded.ensures ∙ c.if-is_crowded.true))

pub walk-preserved-else-is_crowded : goal.walk-preserved-else-is_crowded
walk-preserved-else-is_crowded c = record {
  fits = fit_more c.args.conn c.args.reply c.args.owed.now c.walk.at c.in-Some.receiver c.in-Some.ensures.some c.args.rows.now.entries c.requires.short c.walk.invariant.fits
      c.in-Some-get.row.now c.get.ensures.rising c.in-Some-get.ensures.value
      (is_not_lower CROWD_LIMIT (sum_at c.args.conn c.args.reply c.args.owed.now (c.in-Some.receiver, c.in-Some-get.row.now)) (sym c.is_crowded.ensures ∙ c.if-is_crowded.false));
}

pub walk-preserved : goal.walk-preserved
walk-preserved c = record {
  fits = fit_past c.args.conn c.args.reply c.args.owed.now c.walk.at c.in-Some.receiver c.in-Some.ensures.some c.args.rows.now.entries c.requires.short c.walk.invariant.fits c.in_default-get.ensures.value;
}

pub returns : goal.returns
returns c =
    sym (crowding_none c.args.conn c.args.reply c.args.owed.now c.walk.at c.args.rows.now.entries (c.next_receiver.ensures.none c.in_default.is) c.requires.short c.walk.invariant.fits)
