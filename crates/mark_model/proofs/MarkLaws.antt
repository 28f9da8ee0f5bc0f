-- The laws of marks on which the laws of stores stand, in one record.
use Rattle.std.specs.Prelude.{◌≡◌, ℕ, ◌≤◌, Bool, true, false, cond, nat_lt}
use Rattle.std.proofs.Common.{refl, ap, ◌∙◌, add-zero, le_antisymm, ltb-false}
use Rattle.machine_model.specs.Transactions.{count_max, within_count}
use Rattle.mark_model.proofs.MarkOpenLemmas.{command_marks, others_noted}
use Rattle.mark_model.proofs.MarkOverLemmas.{open_over}
use Rattle.mark_model.proofs.MarkTellLemmas.{seen_through, conflicts_agree, commits_agree, written_known}
use Rattle.mark_model.proofs.MarkBegunLemmas.{begun_marks, begun_open}
use Rattle.mark_model.specs.Laws.{StartKeepsNothing, CommandsMark, OthersAreNoted, OpenIsOver, MarksShowWhatIsSeen, ConflictsAgree, CommitsAgree, MarksKnowWhatWasWritten, BegunKeepsMarks, BegunKeepsCount, BegunIsOpen}

pub record MarkLaws : Type 0 where
  pub start : StartKeepsNothing
  pub command : CommandsMark
  pub others : OthersAreNoted
  pub over : OpenIsOver
  pub seen : MarksShowWhatIsSeen
  pub conflict : ConflictsAgree
  pub commit : CommitsAgree
  pub written : MarksKnowWhatWasWritten
  pub marks : BegunKeepsMarks
  pub count : BegunKeepsCount
  pub «open» : BegunIsOpen

-- a count within its bits is the count
within : (n : ℕ) (b : Bool) → nat_lt n count_max ≡ b → n ≤ count_max → cond b n count_max ≡ n
within n true e h = refl
within n false e h = le_antisymm (ltb-false n count_max e) h

pub laws : MarkLaws
laws = record {
  start = λ tree. refl;
  command = command_marks;
  others = λ tree t paths o. others_noted tree t o paths;
  over = open_over;
  seen = seen_through;
  conflict = conflicts_agree;
  commit = commits_agree;
  written = written_known;
  marks = begun_marks;
  count = λ tree marks n h. ap within_count (add-zero n) ∙ within n (nat_lt n count_max) refl h;
  «open» = begun_open;
}
