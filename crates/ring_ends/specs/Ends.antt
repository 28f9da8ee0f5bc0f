-- What contracts see of the ends of a ring, what a put and a take do to a view, and what is left of a closed ring.
use Rattle.std.specs.Prelude.{◌≡◌, ℕ, ◌-◌, ◌++◌, Bool, List, [], length, Option}
use Rattle.atomic_table.specs.Seated.{TableId}
use Rattle.atomic_table.specs.declared.shared.Seat.{Seat}
use Rattle.ring_words.specs.declared.index.BadIndex.{BadIndex}
use Rattle.ring_words.specs.declared.view.View.{View}
use Rattle.ring_words.specs.declared.view.Role.TheVariants.{Producer, Consumer}
use Rattle.ring_words.specs.Indices.{held}
use Rattle.ring_words.specs.Seats.{IsSeatOf}
use Rattle.ring_words.specs.Views.{put_index, take_index}

-- an end: the ring that it is of, and what it did and found
pub record End : Type 0 where
  pub table : TableId
  pub view : View

abbrev pub end_of : Seat Unit View → End
end_of seat = record { table = seat.table_id; view = seat.me.0 }

-- the free bytes, and the filled ones, by the end's own index and by the other one's that it found
abbrev pub free : ℕ → View → ℕ
free cons view = 1024 - held (put_index view) cons

abbrev pub filled : ℕ → View → ℕ
filled prod view = held prod (take_index view)

-- these bytes were given over, and none is staged
abbrev pub after_put : List ℕ → View → View
after_put bytes view = record view { sent = view.sent ++ bytes; staged = [] }

-- these bytes were read, and all that was read is freed
abbrev pub after_take : List ℕ → View → View
after_take bytes view = record view { read = view.read ++ bytes; freed = length (view.read ++ bytes) }

-- BETWEEN CALLS a producer has staged nothing, a consumer has freed all that it read, and each knows its own index
pub record IsProducer (own : ℕ) (seat : Seat Unit View) : Type 0 where
  pub seated : IsSeatOf Producer seat.table_id seat
  pub own_index : own ≡ put_index seat.me.0
  pub staged : seat.me.0.staged ≡ []
  pub bare : seat.me.1 ≡ []

pub record IsConsumer (own : ℕ) (seat : Seat Unit View) : Type 0 where
  pub seated : IsSeatOf Consumer seat.table_id seat
  pub own_index : own ≡ take_index seat.me.0
  pub freed : seat.me.0.freed ≡ length seat.me.0.read
  pub bare : seat.me.1 ≡ []

-- what is left of a closed ring
pub record ClosedLists : Type 0 where
  pub sent : List ℕ
  pub got : List ℕ
  -- whether either end poked an index
  pub poked : Bool
  -- the indices at the first load of the producer, and of the consumer, that found bad ones
  pub bad_put : Option BadIndex
  pub bad_take : Option BadIndex

abbrev pub lists_of : View → ClosedLists
lists_of view = record { sent = view.sent; got = view.read; poked = view.poked; bad_put = view.bad_put; bad_take = view.bad_take }
