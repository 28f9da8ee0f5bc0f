-- What each kind of step does to the view of the end that makes it. A step changes no other view.
use Rattle.std.specs.Prelude.{ℕ, ◌+◌, ◌-◌, Bool, true, false, ◌||◌, [], ◌∷◌, ◌++◌, length, nat_lt, Option, Some, None, if◌then◌else◌}
use Rattle.ring_words.specs.declared.index.BadIndex.{BadIndex}
use Rattle.ring_words.specs.declared.view.View.{View}
use Rattle.ring_words.specs.Indices.{held, is_bad, bad_index}
use Rattle.ring_words.specs.Views.{put_index, take_index}

-- the first bad indices that were found stay
abbrev pub first_bad : Option BadIndex → ℕ → ℕ → Option BadIndex
first_bad (Some bad) prod cons = Some bad
first_bad None prod cons = if is_bad prod cons then Some (bad_index prod cons) else None

-- CONS leaves fewer free bytes than the producer had seen: more of what it sent is not freed
abbrev pub is_short : ℕ → View → Bool
is_short cons view = if is_bad (put_index view) cons then false else nat_lt (length view.sent - view.seen) (held (put_index view) cons)

-- THE PRODUCER loads CONS: what is not freed of what it sent is what the ring holds. At bad indices it sees nothing new
abbrev pub after_load_cons : ℕ → View → View
after_load_cons cons view = record view {
  seen = if is_bad (put_index view) cons then view.seen else length view.sent - held (put_index view) cons;
  looks = view.looks + 1;
  short = view.short || is_short cons view;
  bad_put = first_bad view.bad_put (put_index view) cons;
}

-- it stores a byte
abbrev pub after_store_byte : ℕ → View → View
after_store_byte byte view = record view { staged = view.staged ++ byte ∷ [] }

-- it stores PROD
abbrev pub after_store_prod : View → View
after_store_prod view = record view { sent = view.sent ++ view.staged; staged = [] }

-- it stores NOTE
abbrev pub after_store_note : ℕ → View → View
after_store_note value view = record view { notes = view.notes ++ (value, length view.sent) ∷ [] }

-- THE CONSUMER loads PROD: beyond what it read, what the ring holds was sent. At bad indices it sees nothing new
abbrev pub after_load_prod : ℕ → View → View
after_load_prod prod view = record view {
  seen = if is_bad prod (take_index view) then view.seen else length view.read + held prod (take_index view);
  whole = view.heard;
  looks = view.looks + 1;
  bad_take = first_bad view.bad_take prod (take_index view);
}

-- it loads a byte
abbrev pub after_load_byte : ℕ → View → View
after_load_byte byte view = record view { read = view.read ++ byte ∷ [] }

-- it stores CONS
abbrev pub after_store_cons : View → View
after_store_cons view = record view { freed = length view.read }

-- it loads NOTE
abbrev pub after_load_note : ℕ → View → View
after_load_note value view = record view { heard = value; looks = view.looks + 1 }

-- EITHER END pokes PROD or CONS
abbrev pub after_poke : View → View
after_poke view = record view { poked = true }
