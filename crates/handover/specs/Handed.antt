-- What a handover answers. This project's own.
use Rattle.std.specs.Prelude.{◌≡◌, ℕ, List, map, Result, Ok, Err}
use Rattle.kept_model.specs.Images.{image}
use Rattle.id_map.specs.Maps.{Map}
use Rattle.store_parts.specs.Kept.{Kept}
use Rattle.store_parts.specs.States.{Inboxes, state_of}
use Rattle.daemon.specs.Ids.{IsSameStore}
use Rattle.handover.specs.declared.handed.Refusal.{Refusal}
use Rattle.handover.specs.declared.handed.Handed.{Handed}
use Rattle.handover.specs.declared.handed.Handed.TheVariants as handed
use Rattle.handover.specs.Hands.{Told, HasHanded, IsRefused}

-- A NEW STORE in the state of the old one: all that it keeps is the same. It has an inbox for each of its connections, and
-- no other; so they are the old ones, where these were named so too.
pub record GoesOn (old : Kept) (old_ins : Inboxes) (new : Kept) (ins : Inboxes) : Type 0 where
  pub same : state_of new ins ≡ state_of old old_ins
  pub store : IsSameStore old new
  pub named : map (λ e. e.0) ins ≡ map (λ e. e.0) new.specs
  pub inboxes : map (λ e. e.0) old_ins ≡ map (λ e. e.0) old.specs → ins ≡ old_ins

-- THE ANSWER where the old store is lent: a new one, made of the image that the vault gave back, or why there is none
abbrev pub Succeeds : Kept → Inboxes → Told → Result (Kept × Map (List ℕ)) Refusal → Told → Type 0
Succeeds old ins vault (Ok next) vault_new =
    GoesOn old ins next.0 next.1.entries × HasHanded (image (state_of old ins)) vault vault_new
Succeeds old ins vault (Err refusal) vault_new = IsRefused (image (state_of old ins)) vault refusal vault_new

-- the old store is given back as it was
pub record IsKept (old : Kept) (old_ins : Inboxes) (kept : Kept) (ins : Inboxes) : Type 0 where
  pub store : kept ≡ old
  pub inboxes : ins ≡ old_ins

-- and where it is given away
abbrev pub Hands : Kept → Inboxes → Told → Handed → Told → Type 0
Hands old ins vault (handed.New daemon new) vault_new =
    GoesOn old ins daemon new.entries × HasHanded (image (state_of old ins)) vault vault_new
Hands old ins vault (handed.Kept daemon same refusal) vault_new =
    IsKept old ins daemon same.entries × IsRefused (image (state_of old ins)) vault refusal vault_new
