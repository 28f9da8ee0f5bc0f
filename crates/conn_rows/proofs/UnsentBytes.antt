-- The bytes in queues, and the rests of messages in front of them, by connection.
use Rattle.std.proofs.Common.{◌≡◌, ℕ, ◌≤◌, true, List, [], ◌∷◌, ◌++◌, Some, None, sym, ap, subst, ◌∙◌}
use Rattle.std.specs.List.{AllByRecursion}
use Rattle.std.specs.Option.{option_map}
use Rattle.std.specs.Ordering.{nat_cmp}
use Rattle.std.specs.FinMap.{find, put, is_sorted}
use Rattle.xs_model.proofs.Maps.{from_Some, found_map, sorted_map}
use Rattle.out_queues.specs.Queues.{Queue}
use Rattle.conn_rows.specs.Queued.{unsent_of, rests_of, HasRoom}
use Rattle.conn_rows.proofs.IdEntries.{put_map, found_itself, put_again}

pub unsent_put : (c : ℕ) (queue : Queue) (queues : List (ℕ × Queue)) (bytes : List ℕ) → queue.bytes ≡ bytes → unsent_of (put nat_cmp c queue queues) ≡ put nat_cmp c bytes (unsent_of queues)
unsent_put c queue queues bytes is = put_map (λ q. q.bytes) c queue queues ∙ ap (λ b. put nat_cmp c b (unsent_of queues)) is

pub unsent_found : (c : ℕ) (queues : List (ℕ × Queue)) → find nat_cmp c (unsent_of queues) ≡ option_map (λ q. q.bytes) (find nat_cmp c queues)
unsent_found c queues = found_map nat_cmp (λ (q : Queue). q.bytes) c queues

pub unsent_rising : (queues : List (ℕ × Queue)) → is_sorted nat_cmp (unsent_of queues) ≡ is_sorted nat_cmp queues
unsent_rising queues = sorted_map nat_cmp (λ (q : Queue). q.bytes) queues

-- a queue with the bytes of the one that is there
pub unsent_kept : (c : ℕ) (old new : Queue) (queues : List (ℕ × Queue)) → is_sorted nat_cmp queues ≡ true → find nat_cmp c queues ≡ Some old → new.bytes ≡ old.bytes → unsent_of (put nat_cmp c new queues) ≡ unsent_of queues
unsent_kept c old new queues rising there is =
    unsent_put c new queues old.bytes is
    ∙ put_again c old.bytes (unsent_of queues) (unsent_rising queues ∙ rising) (unsent_found c queues ∙ ap (option_map (λ q. q.bytes)) there)

-- the same of the rests
pub rests_put : (c : ℕ) (queue : Queue) (queues : List (ℕ × Queue)) (rest : ℕ) → queue.rest ≡ rest → rests_of (put nat_cmp c queue queues) ≡ put nat_cmp c rest (rests_of queues)
rests_put c queue queues rest is = put_map (λ q. q.rest) c queue queues ∙ ap (λ r. put nat_cmp c r (rests_of queues)) is

pub rests_found : (c : ℕ) (queues : List (ℕ × Queue)) → find nat_cmp c (rests_of queues) ≡ option_map (λ q. q.rest) (find nat_cmp c queues)
rests_found c queues = found_map nat_cmp (λ (q : Queue). q.rest) c queues

pub rests_kept : (c : ℕ) (old new : Queue) (queues : List (ℕ × Queue)) → is_sorted nat_cmp queues ≡ true → find nat_cmp c queues ≡ Some old → new.rest ≡ old.rest → rests_of (put nat_cmp c new queues) ≡ rests_of queues
rests_kept c old new queues rising there is =
    rests_put c new queues old.rest is
    ∙ put_again c old.rest (rests_of queues) (sorted_map nat_cmp (λ (q : Queue). q.rest) queues ∙ rising) (rests_found c queues ∙ ap (option_map (λ q. q.rest)) there)

-- a message more
pub unsent_pushed : (c : ℕ) (old new : Queue) (message : List ℕ) (queues : List (ℕ × Queue)) → Some old ≡ find nat_cmp c queues → new.bytes ≡ old.bytes ++ message
    → (bytes : List ℕ) → find nat_cmp c (unsent_of queues) ≡ Some bytes → unsent_of (put nat_cmp c new queues) ≡ put nat_cmp c (bytes ++ message) (unsent_of queues)
unsent_pushed c old new message queues there is bytes found =
    let had : old.bytes ≡ bytes = from_Some (ap (option_map (λ (q : Queue). q.bytes)) there ∙ sym (unsent_found c queues) ∙ found) in
    unsent_put c new queues (bytes ++ message) (is ∙ ap (λ b. b ++ message) had)

pub unsent_absent : (c : ℕ) (queues : List (ℕ × Queue)) → None ≡ find nat_cmp c queues → find nat_cmp c (unsent_of queues) ≡ None
unsent_absent c queues absent = unsent_found c queues ∙ ap (option_map (λ (q : Queue). q.bytes)) (sym absent)

-- room that was taken
pub room_put : (c n : ℕ) (new : Queue) (queues : List (ℕ × Queue)) → n ≤ new.spare → HasRoom c n (put nat_cmp c new queues)
room_put c n new queues room = λ queue there. subst (λ (q : Queue). n ≤ q.spare) (from_Some (sym (found_itself c new queues) ∙ there)) room

-- what holds of what is unsent to each holds of the queues
pub all_unsent : (P : ℕ × List ℕ → Type 0) (queues : List (ℕ × Queue)) → AllByRecursion P (unsent_of queues) → AllByRecursion (λ e. P (e.0, e.1.bytes)) queues
all_unsent P [] h = tt
all_unsent P (e ∷ queues) h = (h.0, all_unsent P queues h.1)
