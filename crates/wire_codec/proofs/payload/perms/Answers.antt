use Rattle.std.proofs.Common.{◌∙◌, sym, []}
use Rattle.xs_model.specs.Requests.{perms_of}
use Rattle.wire_codec.proofs.EntryLemmas.{none_uncut, none_bad, none_left, perms_more, perms_last, behind_shorter}
use Rattle.wire_codec.proofs.payload.perms.Goals as goal

pub unreachable-requires : goal.unreachable-requires
unreachable-requires c =
    none_left c.entries.perms (perms_of [] c.entries.rest.now) (perms_of [] c.args.bytes.now) c.entries.invariant c.requires (none_uncut c.entries.perms c.entries.rest.now (sym c.in_default.ensures))

pub unreachable-requires-in_default-read_perm : goal.unreachable-requires-in_default-read_perm
unreachable-requires-in_default-read_perm c =
    none_left c.entries.perms (perms_of [] c.entries.rest.now) (perms_of [] c.args.bytes.now) c.entries.invariant c.requires
    (none_bad c.entries.perms c.entries.rest.now c.in-Some.string.now c.in-Some.behind.now c.in_default-read_perm.field-0 (sym c.in-Some.ensures) (sym c.in_default-read_perm.ensures))

pub returns-then-is_empty : goal.returns-then-is_empty
returns-then-is_empty c =
    let last = perms_last c.entries.perms c.in-Ok.perm c.entries.rest.now c.in-Some.string.now c.in-Some.behind.now (sym c.in-Some.ensures) (sym c.in-Ok.ensures) (sym c.if-is_empty.ensures) in
    rw c.in_ok-push.ensures.ok (sym c.entries.invariant ∙ last)

pub entries-smaller : goal.entries-smaller
entries-smaller c = behind_shorter c.entries.rest.now c.in-Some.string.now c.in-Some.behind.now (sym c.in-Some.ensures)

pub entries-preserved : goal.entries-preserved
entries-preserved c =
    let more = perms_more c.entries.perms c.in-Ok.perm c.entries.rest.now c.in-Some.string.now c.in-Some.behind.now (sym c.in-Some.ensures) (sym c.in-Ok.ensures) (sym c.if-is_empty.ensures) in
    rw c.in_ok-push.ensures.ok (sym more ∙ c.entries.invariant)
