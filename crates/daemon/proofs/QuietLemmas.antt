-- A request that owes nothing beside its reply crowds nobody.
use Rattle.std.proofs.Common.{◌≡◌, ℕ, ◌<◌, ◌≤◌, List, [], length, Option, Some, None, Result, Ok, Err, IfOk, refl, sym, ap, subst, ◌∙◌, arith}
use Rattle.std.specs.Option.{option_map}
use Rattle.std.specs.Ordering.{nat_cmp}
use Rattle.std.specs.FinMap.{find}
use Rattle.xs_model.specs.declared.message.WireErr.{WireErr}
use Rattle.xs_model.specs.declared.message.WireErr.TheVariants.{Einval, Eacces, Eexist, Enoent, Enospc, Ebusy, Eagain, E2big, Enosys}
use Rattle.xs_model.specs.Messages.{string, error_name}
use Rattle.xs_model.proofs.Maps.{from_Some, not_Some}
use Rattle.machine_model.specs.declared.bounds.TheConstants.{HELD_LIMIT}
use Rattle.machine_model.specs.Machine.{Send}
use Rattle.machine_model.specs.History.{Unsent, sent_to, unsent_to}
use Rattle.out_queues.specs.Queues.{Queue}
use Rattle.conn_rows.specs.Queued.{unsent_of}
use Rattle.conn_rows.specs.Sending.{HasRoomFor, crowding}
use Rattle.conn_rows.proofs.UnsentBytes.{unsent_found}
use Rattle.daemon.specs.Acts.{reply_length}
use Rattle.daemon.specs.Peers.{Connected, IsSound, MayAsk, message_limit}
use Rattle.daemon.specs.Changes.{IsSendable}
use Rattle.daemon.proofs.PeerLemmas.{ids_positive, rising_unsent, short_unsent}
use Rattle.daemon.proofs.SendLemmas.{nobody_crowded, few_and_reply, room_alone}

-- a reply fits in a message
name_short : (error : WireErr) → length (string (error_name error)) ≤ 8
name_short Einval = omega arith
name_short Eacces = omega arith
name_short Eexist = omega arith
name_short Enoent = omega arith
name_short Enospc = omega arith
name_short Ebusy = omega arith
name_short Eagain = omega arith
name_short E2big = omega arith
name_short Enosys = omega arith

pub reply_fits : (reply : Result (List ℕ) WireErr) → IfOk reply (λ payload. length payload ≤ 4096) → reply_length reply ≤ message_limit
reply_fits (Ok payload) h = omega arith
reply_fits (Err error) h = omega (arith, name_short error)

-- few bytes are unsent to whoever may ask
pub few_unsent : (c : ℕ) (peers : Connected) → MayAsk c peers → (bytes : List ℕ) → find nat_cmp c (unsent_of peers.queues) ≡ Some bytes → length bytes < HELD_LIMIT
few_unsent c peers may bytes found = by (find nat_cmp c peers.queues) refl (sym (unsent_found c peers.queues) ∙ found)
  where
    by : (o : Option Queue) → find nat_cmp c peers.queues ≡ o → option_map (λ (q : Queue). q.bytes) o ≡ Some bytes → length bytes < HELD_LIMIT
    by None e is = not_Some is
    by (Some queue) e is = subst (λ b. length b < HELD_LIMIT) (from_Some is) (may.few queue e)

-- NOTHING IS OWED
pub quiet_sends : (owed : Unsent) (sends : List Send) → owed ≡ [] → sends ≡ [] → (d : ℕ) → sent_to d sends ≡ unsent_to d owed
quiet_sends owed sends owes none d = ap (sent_to d) none ∙ sym (ap (unsent_to d) owes)

module _ (c : ℕ) (peers : Connected) (may : MayAsk c peers) (owed : Unsent) (owes : owed ≡ []) where
  pub quiet_room : HasRoomFor c message_limit owed peers.queues
  quiet_room = subst (λ o. HasRoomFor c message_limit o peers.queues) (sym owes) (room_alone c message_limit peers.queues may.room)

  pub quiet_crowding : IsSound peers → (n : ℕ) → n ≤ message_limit → crowding c n owed (unsent_of peers.queues) ≡ None
  quiet_crowding sound n fits =
      ap (λ o. crowding c n o (unsent_of peers.queues)) owes
      ∙ nobody_crowded c n (unsent_of peers.queues) (rising_unsent peers sound) (short_unsent peers.queues sound.short)
      (λ bytes found. few_and_reply (length bytes) n (few_unsent c peers may bytes found) fits)

-- and a reply may be sent to whoever may ask
pub sendable : (c : ℕ) (peers : Connected) → IsSound peers → MayAsk c peers → (n : ℕ) → n ≤ message_limit → IsSendable c n peers.queues
sendable c peers sound may n fits = record {
  positive = ids_positive peers sound;
  short = sound.short;
  few = λ queue found. few_and_reply (length queue.bytes) n (may.few queue found) fits;
}
