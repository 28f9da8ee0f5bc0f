-- The world: the sequential store, and per domain and connection the bytes that are under way. Its events and their
-- answers are this project's own; what they move follows xenstore-ring.txt. It has no daemon to replace.
use Rattle.std.specs.Prelude.{ℕ, ℤ, negsuc, ◌==◌, not, List, [], ◌∷◌, ◌++◌, length, take, drop, min, map, filter_map, nat_lt, nat_le, if◌then◌else◌, Option, Some, None, is_some}
use Rattle.std.specs.Ordering.{nat_cmp}
use Rattle.std.specs.FinMap.{find, put}
use Rattle.std.specs.FinMap.Entries.{where_key}
use Rattle.machine_model.specs.declared.bounds.TheConstants.{HELD_LIMIT}
use Rattle.machine_model.specs.declared.Globals.{Globals}
use Rattle.machine_model.specs.declared.ConnSpec.{ConnSpec}
use Rattle.machine_model.specs.declared.ConnSpec.TheVariants.{Ring as RingSpec, Socket}
use Rattle.machine_model.specs.Connections.{Connection, Connections, fresh, ring_of, least_free}
use Rattle.machine_model.specs.Machine.{Machine, Item, Asked, Lost, Send as StoreSend, Step, step_with, new_machine, with_conn}
use Rattle.machine_model.specs.History.{Unsent, sent_to, crowded}
use Rattle.xs_model.specs.Wholes.{rest_after}
use Rattle.world_model.specs.declared.Which.{Which}
use Rattle.world_model.specs.declared.Said.{Said}
use Rattle.world_model.specs.declared.Said.TheVariants as said
use Rattle.world_model.specs.Rings.{Ring, Page, is_bad, free, filled, held, put_all, take_some, fresh_page, with_request, with_reply, with_error, poked}
use Rattle.world_model.specs.Fronts.{Front, Whole, TooLong, Part, front, intake}

-- a domain's page, and the bytes that its guest has still to put
pub record Guest : Type 0 where
  pub page : Page
  pub outbox : List ℕ

abbrev pub fresh_guest : ℕ → Guest
fresh_guest start = record { page = fresh_page start; outbox = [] }

-- the bytes that the store took from a connection and has not answered, and those that it has not sent
pub record Channel : Type 0 where
  pub inbox : List ℕ
  pub unsent : List ℕ
  -- so many of the unsent bytes are the rest of a message that was sent in part
  pub rest : ℕ

abbrev pub empty_channel : Channel
empty_channel = record { inbox = []; unsent = []; rest = 0 }

abbrev pub no_globals : Globals
no_globals = record { rw_socket_fd = negsuc 0; evtchn_fd = negsuc 0 }

pub record World : Type 0 where
  pub machine : Machine
  pub globals : Globals
  -- by domid, for each domain that ever had a ring connection
  pub guests : List (ℕ × Guest)
  -- by connection id
  pub channels : List (ℕ × Channel)

-- a new store, and domain 0's page
abbrev pub new_world : World
new_world = record {
  machine = new_machine;
  globals = no_globals;
  guests = (0, fresh_guest 0) ∷ [];
  channels = (1, empty_channel) ∷ [];
}

-- EVENTS
pub data Event : Type 0 where
  Send : ℕ → List ℕ → Event
  Put : ℕ → ℕ → Event
  Intake : ℕ → ℕ → Event
  Do : ℕ → Event
  Out : ℕ → ℕ → Event
  Take : ℕ → ℕ → Event
  Poke : ℕ → Which → ℕ → Event
  ShowPage : ℕ → Event
  Handover : Event

-- what an event leaves and answers; the bytes that a guest put into its request ring, and those that it took from its
-- reply ring; and what happened to the store, if anything
pub record Told : Type 0 where
  pub world : World
  pub said : Said
  pub given : List ℕ
  pub taken : List ℕ
  pub items : List Item

abbrev pub told : World → Said → Told
told w s = record { world = w; said = s; given = []; taken = []; items = [] }

-- PARTS OF A WORLD
abbrev pub with_guest : ℕ → Guest → World → World
with_guest d guest w =
    record { machine = w.machine; globals = w.globals; guests = put nat_cmp d guest w.guests; channels = w.channels }

abbrev pub with_page : ℕ → Page → Guest → World → World
with_page d page guest w = with_guest d (record { page = page; outbox = guest.outbox }) w

abbrev pub with_channel : ℕ → Channel → World → World
with_channel c channel w =
    record { machine = w.machine; globals = w.globals; guests = w.guests; channels = put nat_cmp c channel w.channels }

-- GUESTS: a guest's own events want its page alone
abbrev pub queued : ℕ → List ℕ → World → Guest → Told
queued d bytes w guest =
    told (with_guest d (record { page = guest.page; outbox = guest.outbox ++ bytes }) w) (said.Queued (length bytes))

abbrev pub put_some : ℕ → ℕ → World → Guest → Told
put_some d n w guest = record {
  world = with_guest d (record {
    page = with_request (put_all (take n guest.outbox) guest.page.request) guest.page;
    outbox = drop n guest.outbox;
  }) w;
  said = said.Put n;
  given = take n guest.outbox;
  taken = [];
  items = [];
}

-- as many as it may, has, and finds room for
abbrev pub put_at_most : ℕ → ℕ → World → Guest → Told
put_at_most d max w guest = put_some d (min max (min (length guest.outbox) (free guest.page.request))) w guest

abbrev pub got_some : ℕ → ℕ → World → Guest → Told
got_some d n w guest = record {
  world = with_page d (with_reply (take_some n guest.page.reply) guest.page) guest w;
  said = said.Got n;
  given = [];
  taken = take n (held guest.page.reply);
  items = [];
}

abbrev pub got_at_most : ℕ → ℕ → World → Guest → Told
got_at_most d max w guest = got_some d (min max (filled guest.page.reply)) w guest

abbrev pub page_words : Page → Said
page_words page = said.Page page.request.cons page.request.prod page.reply.cons page.reply.prod page.error

abbrev pub for_guest : (World → Guest → Told) → World → Option Guest → Told
for_guest act w None = told w said.Gone
for_guest act w (Some guest) = act w guest

abbrev pub guest_event : ℕ → (World → Guest → Told) → World → Told
guest_event d act w = for_guest act w (find nat_cmp d w.guests)

-- SERVER: events of a domain's connection, with its page and its bytes
pub record Served : Type 0 where
  pub conn : ℕ
  pub guest : Guest
  pub channel : Channel

abbrev pub served_with : ℕ → Guest → Option Channel → Option Served
served_with c guest None = None
served_with c guest (Some channel) = Some (record { conn = c; guest = guest; channel = channel })

abbrev pub served_by : World → ℕ → Option Guest → Option Served
served_by w c None = None
served_by w c (Some guest) = served_with c guest (find nat_cmp c w.channels)

abbrev pub served_at : World → ℕ → Option ℕ → Option Served
served_at w d None = None
served_at w d (Some c) = served_by w c (find nat_cmp d w.guests)

abbrev pub served : World → ℕ → Option Served
served w d = served_at w d (ring_of d w.machine.conns)

abbrev pub for_served : (World → Served → Told) → World → Option Served → Told
for_served act w None = told w said.Gone
for_served act w (Some s) = act w s

abbrev pub server_event : ℕ → (World → Served → Told) → World → Told
server_event d act w = for_served act w (served w d)

-- a connection is lost for a fault of its guest: the error word says why
abbrev pub without_channel : ℕ → List (ℕ × Channel) → List (ℕ × Channel)
without_channel c channels = where_key nat_cmp (λ d. not (c == d)) channels

abbrev pub dropped : ℕ → ℕ → Said → World → Served → Told
dropped d error s w at = record {
  world = record {
    machine = (step_with [] w.machine (Lost at.conn)).0;
    globals = w.globals;
    guests = put nat_cmp d (record { page = with_error error at.guest.page; outbox = at.guest.outbox }) w.guests;
    channels = without_channel at.conn w.channels;
  };
  said = s;
  given = [];
  taken = [];
  items = Lost at.conn ∷ [];
}

-- indices that no ring has
abbrev pub dropped_for_index : ℕ → Ring → World → Served → Told
dropped_for_index d ring w at = dropped d 2 (said.DroppedIndex ring.prod ring.cons) w at

-- INTAKE: bytes go from the request ring to the inbox, and never past the message in front
abbrev pub took : ℕ → ℕ → World → Served → Told
took d n w at =
    told (with_channel at.conn (record {
      inbox = at.channel.inbox ++ take n (held at.guest.page.request);
      unsent = at.channel.unsent;
      rest = at.channel.rest;
    }) (with_page d (with_request (take_some n at.guest.page.request) at.guest.page) at.guest w)) (said.Took n)

abbrev pub intake_ring : ℕ → ℕ → World → Served → Told
intake_ring d max w at =
    if is_bad at.guest.page.request then dropped_for_index d at.guest.page.request w at
    else took d (intake at.channel.inbox (take max (held at.guest.page.request))) w at

abbrev pub intake_at : Front → ℕ → ℕ → World → Served → Told
intake_at (Whole n) d max w at = told w said.InFull
intake_at (TooLong len) d max w at = told w said.InFull
intake_at Part d max w at = intake_ring d max w at

abbrev pub intake_event : ℕ → ℕ → World → Served → Told
intake_event d max w at = intake_at (front at.channel.inbox) d max w at

-- DO: the message in front is one step of the store. What a connection has to send after a step: a new one has nothing
abbrev pub channel_or_empty : Option Channel → Channel
channel_or_empty None = empty_channel
channel_or_empty (Some channel) = channel

abbrev pub channel_after : List StoreSend → ℕ → Channel → Channel
channel_after sends c channel =
    record { inbox = channel.inbox; unsent = channel.unsent ++ sent_to c sends; rest = channel.rest }

abbrev pub channels_after : Step → List (ℕ × Channel) → List (ℕ × Channel)
channels_after stepped channels =
    map (λ e. (e.0, channel_after stepped.1 e.0 (channel_or_empty (find nat_cmp e.0 channels)))) stepped.0.conns

-- what each connection has to send
abbrev pub unsent_of : List (ℕ × Channel) → Unsent
unsent_of channels = map (λ e. (e.0, e.1.unsent)) channels

-- a domain that gets a connection gets a fresh page
abbrev pub ring_domid : ConnSpec → Option ℕ
ring_domid (RingSpec domid target evtchn) = Some domid
ring_domid (Socket fd) = None

abbrev pub domid_if_new : Connections → ℕ × Connection → Option ℕ
domid_if_new before e = if is_some (find nat_cmp e.0 before) then None else ring_domid e.1.spec

abbrev pub with_fresh_guests : List ℕ → List (ℕ × Guest) → List (ℕ × Guest)
with_fresh_guests [] guests = guests
with_fresh_guests (d ∷ ds) guests = with_fresh_guests ds (put nat_cmp d (fresh_guest 0) guests)

-- the world without the message in front of a connection's inbox
abbrev pub without_front : ℕ → World → Served → List (ℕ × Channel)
without_front n w at =
    put nat_cmp at.conn (record { inbox = drop n at.channel.inbox; unsent = at.channel.unsent; rest = at.channel.rest })
    w.channels

abbrev pub world_after : World → Step → List (ℕ × Channel) → World
world_after w stepped channels = record {
  machine = stepped.0;
  globals = w.globals;
  guests = with_fresh_guests (filter_map (domid_if_new w.machine.conns) stepped.0.conns) w.guests;
  channels = channels;
}

abbrev pub done_unless : Option ℕ → World → Item → Step → List (ℕ × Channel) → Told
done_unless (Some c) w item stepped channels = told w (said.Crowded c)
done_unless None w item stepped channels =
    record { world = world_after w stepped channels; said = said.Done; given = []; taken = []; items = item ∷ [] }

abbrev pub done_with : World → Item → Step → List (ℕ × Channel) → Told
done_with w item stepped channels = done_unless (crowded (unsent_of channels)) w item stepped channels

abbrev pub do_step : List ℕ → ℕ → World → Served → Item → Told
do_step types n w at item =
    let stepped = step_with types w.machine item in
    done_with w item stepped (channels_after stepped (without_front n w at))

abbrev pub do_message : List ℕ → ℕ → World → Served → Told
do_message types n w at =
    if nat_le HELD_LIMIT (length at.channel.unsent) then told w (said.Held (length at.channel.unsent))
    else do_step types n w at (Asked at.conn (take n at.channel.inbox))

abbrev pub do_at : Front → List ℕ → ℕ → World → Served → Told
do_at (Whole n) types d w at = do_message types n w at
do_at (TooLong len) types d w at = dropped d 3 (said.DroppedLength len) w at
do_at Part types d w at = told w said.Part

abbrev pub do_event : List ℕ → ℕ → World → Served → Told
do_event types d w at = do_at (front at.channel.inbox) types d w at

-- OUT: bytes go from what is unsent to the reply ring
abbrev pub sent_some : ℕ → ℕ → World → Served → Told
sent_some d n w at =
    told (with_channel at.conn (record {
      inbox = at.channel.inbox;
      unsent = drop n at.channel.unsent;
      rest = rest_after at.channel.rest n at.channel.unsent;
    }) (with_page d (with_reply (put_all (take n at.channel.unsent) at.guest.page.reply) at.guest.page) at.guest w))
    (said.Sent n)

abbrev pub out_ring : ℕ → ℕ → World → Served → Told
out_ring d max w at =
    if is_bad at.guest.page.reply then dropped_for_index d at.guest.page.reply w at
    else (if free at.guest.page.reply == 0 then told w said.NoSpace
    else sent_some d (min max (min (length at.channel.unsent) (free at.guest.page.reply))) w at)

abbrev pub out_event : ℕ → ℕ → World → Served → Told
out_event d max w at = if length at.channel.unsent == 0 then told w said.NoneQueued else out_ring d max w at

-- ONE EVENT. A handover leaves the world as it is, whatever it says.
abbrev pub event_with : List ℕ → Event → World → Told
event_with types (Send d bytes) w = guest_event d (queued d bytes) w
event_with types (Put d max) w = guest_event d (put_at_most d max) w
event_with types (Intake d max) w = server_event d (intake_event d max) w
event_with types (Do d) w = server_event d (do_event types d) w
event_with types (Out d max) w = server_event d (out_event d max) w
event_with types (Take d max) w = guest_event d (got_at_most d max) w
event_with types (Poke d which v) w = guest_event d (λ u guest. told (with_page d (poked which v guest.page) guest u) said.Poked) w
event_with types (ShowPage d) w = guest_event d (λ v guest. told v (page_words guest.page)) w
event_with types Handover w = told w said.Handed

-- what a line `serve` stands for
abbrev pub serve : ℕ → List Event
serve d = Put d 1024 ∷ Intake d 4112 ∷ Do d ∷ Out d 4112 ∷ Take d 4112 ∷ []

-- A DOMAIN THAT IS THERE FROM THE START: its page begins at `start`, and it gets a connection if it has none
abbrev pub with_start : ℕ → ℕ → World → World
with_start d start w = with_guest d (fresh_guest start) w

abbrev pub domain_added : ℕ → ℕ → Option ℕ → World → World
domain_added d start (Some c) w = with_start d start w
domain_added d start None w =
    let c = least_free w.machine.conns in
    with_start d start (record {
      machine = with_conn c (fresh (RingSpec d None 0)) w.machine;
      globals = w.globals;
      guests = w.guests;
      channels = put nat_cmp c empty_channel w.channels;
    })

abbrev pub add_domain : ℕ → ℕ → World → World
add_domain d start w = domain_added d start (ring_of d w.machine.conns) w
