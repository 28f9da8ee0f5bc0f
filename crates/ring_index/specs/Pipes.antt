-- The law of a page that nobody pokes: it is two pipes of at most 1024 bytes, one each way. A pipe is a list of bytes: a
-- put joins its end, a take removes its front. The order of bytes is that of xenstore-ring.txt.
use Rattle.std.specs.Prelude.{◌≡◌, ℕ, ◌+◌, ◌-◌, ◌^◌, ◌<◌, ◌≤◌, false, List, [], ◌∷◌, ◌++◌, length, take, drop, min}
use Rattle.world_model.specs.Rings.{Ring, Page, ring_size, is_bad, free, filled, held, put_all, take_some, fresh_page, with_request, with_reply}

-- a ring as it stands in a page: two words of 32 bits, and all its cells
pub record IsRing (ring : Ring) : Type 0 where
  pub cons : ring.cons < 2 ^ 32
  pub prod : ring.prod < 2 ^ 32
  pub cells : length ring.cells ≡ ring_size

pub record IsPage (page : Page) : Type 0 where
  pub request : IsRing page.request
  pub reply : IsRing page.reply

-- ONE STEP. A ring holds these bytes and no others: its indices are not bad, and what it does not hold is free
pub record Holds (ring : Ring) (bytes : List ℕ) : Type 0 where
  pub whole : IsRing ring
  pub good : is_bad ring ≡ false
  pub content : held ring ≡ bytes
  pub room : length bytes + free ring ≡ ring_size

-- bytes for which there is room join what is held
abbrev pub PutAppends : Type 0
PutAppends =
    (ring : Ring) (old bytes : List ℕ) → Holds ring old → length bytes ≤ free ring → Holds (put_all bytes ring) (old ++ bytes)

-- bytes that are there leave from the front
abbrev pub TakeRemoves : Type 0
TakeRemoves = (ring : Ring) (old : List ℕ) (n : ℕ) → Holds ring old → n ≤ filled ring → Holds (take_some n ring) (drop n old)

-- two takes are one take of as many bytes
abbrev pub TakesJoin : Type 0
TakesJoin = (ring : Ring) (m n : ℕ) → take_some n (take_some m ring) ≡ take_some (m + n) ring

-- ANY MOVES. What one of the two sides does with a page
pub data Move : Type 0 where
  GuestPut : List ℕ → Move
  GuestTake : ℕ → Move
  ServerTake : ℕ → Move
  ServerPut : List ℕ → Move

-- as many of the bytes as find room, and as many as are there
abbrev pub put_some : List ℕ → Ring → Ring
put_some bytes ring = put_all (take (min (length bytes) (free ring)) bytes) ring

abbrev pub take_at_most : ℕ → Ring → Ring
take_at_most n ring = take_some (min n (filled ring)) ring

abbrev pub moved : Page → Move → Page
moved page (GuestPut bytes) = with_request (put_some bytes page.request) page
moved page (GuestTake n) = with_reply (take_at_most n page.reply) page
moved page (ServerTake n) = with_request (take_at_most n page.request) page
moved page (ServerPut bytes) = with_reply (put_some bytes page.reply) page

abbrev pub all_moved : Page → List Move → Page
all_moved page [] = page
all_moved page (move ∷ moves) = all_moved (moved page move) moves

-- the bytes under way to the server, and to the guest
pub record Pipes : Type 0 where
  pub to_server : List ℕ
  pub to_guest : List ℕ

abbrev pub empty_pipes : Pipes
empty_pipes = record { to_server = []; to_guest = [] }

-- as many bytes join a pipe as it has room for
abbrev pub joined : List ℕ → List ℕ → List ℕ
joined pipe bytes = pipe ++ take (ring_size - length pipe) bytes

abbrev pub piped : Pipes → Move → Pipes
piped pipes (GuestPut bytes) = record { to_server = joined pipes.to_server bytes; to_guest = pipes.to_guest }
piped pipes (GuestTake n) = record { to_server = pipes.to_server; to_guest = drop n pipes.to_guest }
piped pipes (ServerTake n) = record { to_server = drop n pipes.to_server; to_guest = pipes.to_guest }
piped pipes (ServerPut bytes) = record { to_server = pipes.to_server; to_guest = joined pipes.to_guest bytes }

abbrev pub all_piped : Pipes → List Move → Pipes
all_piped pipes [] = pipes
all_piped pipes (move ∷ moves) = all_piped (piped pipes move) moves

-- a page carries what two pipes do
pub record Carries (page : Page) (pipes : Pipes) : Type 0 where
  pub to_server : Holds page.request pipes.to_server
  pub to_guest : Holds page.reply pipes.to_guest

-- one move, from any page that carries two pipes
abbrev pub MovesAreOfPipes : Type 0
MovesAreOfPipes = (page : Page) (pipes : Pipes) (move : Move) → Carries page pipes → Carries (moved page move) (piped pipes move)

-- any moves, from a fresh page
abbrev pub IsTwoPipes : Type 0
IsTwoPipes =
    (start : ℕ) (moves : List Move) → start < 2 ^ 32 → Carries (all_moved (fresh_page start) moves) (all_piped empty_pipes moves)
