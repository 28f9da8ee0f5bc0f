use Rattle.std.proofs.Common.{[], ◌∙◌, sym}
use Rattle.wire_codec.proofs.EntryLemmas.{none_uncut, none_bad, some_more, some_last, behind_shorter}
use Rattle.wire_codec.proofs.payload.are_perms.Goals as goal

pub returns-in_default : goal.returns-in_default
returns-in_default c = sym (none_uncut [] c.entries.rest.now (sym c.in_default.ensures)) ∙ c.entries.invariant

pub returns-in_default-read_perm : goal.returns-in_default-read_perm
returns-in_default-read_perm c =
    sym (none_bad [] c.entries.rest.now c.in-Some.string.now c.in-Some.behind.now c.in_default-read_perm.field-0 (sym c.in-Some.ensures) (sym c.in_default-read_perm.ensures)) ∙ c.entries.invariant

pub returns-then-is_empty : goal.returns-then-is_empty
returns-then-is_empty c =
    sym (some_last c.in-Ok._perm c.entries.rest.now c.in-Some.string.now c.in-Some.behind.now (sym c.in-Some.ensures) (sym c.in-Ok.ensures) (sym c.if-is_empty.ensures)) ∙ c.entries.invariant

pub entries-smaller : goal.entries-smaller
entries-smaller c = behind_shorter c.entries.rest.now c.in-Some.string.now c.in-Some.behind.now (sym c.in-Some.ensures)

pub entries-preserved : goal.entries-preserved
entries-preserved c =
    some_more c.in-Ok._perm c.entries.rest.now c.in-Some.string.now c.in-Some.behind.now (sym c.in-Some.ensures) (sym c.in-Ok.ensures) (sym c.if-is_empty.ensures) ∙ c.entries.invariant
