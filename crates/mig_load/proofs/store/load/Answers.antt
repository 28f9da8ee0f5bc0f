use Rattle.std.proofs.Common.{map, sym, ap, ◌∙◌}
use Rattle.out_queues.specs.Queues.{Queue}
use Rattle.conn_rows.proofs.IdEntries.{keys_map}
use Rattle.kept_model.proofs.LoadSound.{loaded_is_sound}
use Rattle.store_parts.specs.Kept.{Kept, kept_in}
use Rattle.store_parts.specs.States.{state_of}
use Rattle.mig_load.proofs.SoundLemmas.{sound_unread, all_short}
use Rattle.mig_load.proofs.store.load.Goals as goal

pub of-requires-clause-sound : goal.of-requires-clause-sound
of-requires-clause-sound c =
    let kept = kept_in c.in_ok-parts.parts in
    let ins = c.in_ok-parts.ins.entries in
    sound_unread kept ins (loaded_is_sound c.args.bytes.now (state_of kept ins) c.are_bytes.ensures c.in_ok-parts.ensures.told)

pub returns-clause-named : goal.returns-clause-named
returns-clause-named c =
    c.in_ok-parts.ensures.read ∙ sym c.in_ok-parts.ensures.queues ∙ sym (keys_map (λ (queue : Queue). queue.bytes) c.in_ok-parts.parts.rows.queues)
    ∙ ap (λ (kept : Kept). map (λ e. e.0) kept.unsent) (sym c.of.ensures)

pub returns-clause-short : goal.returns-clause-short
returns-clause-short c =
    let kept = kept_in c.in_ok-parts.parts in
    let ins = c.in_ok-parts.ins.entries in
    all_short kept ins (loaded_is_sound c.args.bytes.now (state_of kept ins) c.are_bytes.ensures c.in_ok-parts.ensures.told) c.in_ok-parts.ensures.read
