-- The views of the ends of a ring, at its beginning and at its end.
use Rattle.std.specs.Prelude.{ℕ, [], false, ◌||◌, length, None}
use Rattle.ring_words.specs.declared.view.View.{View}
use Rattle.ring_words.specs.declared.view.Role.{Role}
use Rattle.ring_words.specs.declared.view.Role.TheVariants.{Fresh, Closed, Spent}
use Rattle.ring_words.specs.Indices.{index_of}

-- an end that did nothing, at a ring that begins at this index
abbrev pub fresh : ℕ → View
fresh start = record {
  role = Fresh;
  start = start;
  sent = [];
  staged = [];
  notes = [];
  read = [];
  freed = 0;
  seen = 0;
  heard = 0;
  whole = 0;
  looks = 0;
  poked = false;
  short = false;
  bad_put = None;
  bad_take = None;
}

abbrev pub with_role : Role → View → View
with_role role view = record view { role = role }

-- what the two ends of a ring did, in one view. What only the other end has is left out of each
abbrev pub closed : View → View → View
closed producer consumer = record {
  role = Closed;
  start = producer.start;
  sent = producer.sent;
  staged = producer.staged;
  notes = producer.notes;
  read = consumer.read;
  freed = consumer.freed;
  seen = consumer.seen;
  heard = consumer.heard;
  whole = consumer.whole;
  looks = consumer.looks;
  poked = producer.poked || consumer.poked;
  short = producer.short;
  bad_put = producer.bad_put;
  bad_take = consumer.bad_take;
}

-- what is left of a view that was joined to another
abbrev pub spent : View
spent = with_role Spent (fresh 0)

-- the producer's own index, and the consumer's
abbrev pub put_index : View → ℕ
put_index view = index_of view.start (length view.sent)

abbrev pub take_index : View → ℕ
take_index view = index_of view.start (length view.read)
