-- The ring page that a guest shares with the store (xenstore-ring.txt). Indices run freely as numbers of 32 bits and
-- name a byte by their value modulo 1024. One byte a word, and where a page starts, are this project's own.
use Rattle.std.specs.Prelude.{ℕ, ◌+◌, ◌-◌, ◌%◌, ◌^◌, Bool, List, ◌++◌, length, take, drop, nat_lt, if◌then◌else◌, replicate}
use Rattle.world_model.specs.declared.Which.{Which}
use Rattle.world_model.specs.declared.Which.TheVariants.{ReqCons, ReqProd, RspCons, RspProd}

abbrev pub ring_size : ℕ
ring_size = 1024

-- one direction: who puts moves prod, who takes moves cons
pub record Ring : Type 0 where
  pub cons : ℕ
  pub prod : ℕ
  pub cells : List ℕ

abbrev pub empty_ring : ℕ → Ring
empty_ring start = record { cons = start; prod = start; cells = replicate ring_size 0 }

-- how many bytes the indices say that the ring holds
abbrev pub used : Ring → ℕ
used ring = (ring.prod + (2 ^ 32 - ring.cons)) % 2 ^ 32

-- more than it has room for
abbrev pub is_bad : Ring → Bool
is_bad ring = nat_lt ring_size (used ring)

-- how many bytes can be put or taken: none at bad indices
abbrev pub free : Ring → ℕ
free ring = ring_size - used ring

abbrev pub filled : Ring → ℕ
filled ring = if is_bad ring then 0 else used ring

-- the bytes from cons on, round the ring
abbrev pub cells_from : ℕ → List ℕ → List ℕ
cells_from at cells = drop at cells ++ take at cells

-- the bytes that can be taken
abbrev pub held : Ring → List ℕ
held ring = take (filled ring) (cells_from (ring.cons % ring_size) ring.cells)

-- bytes over those from a place on
abbrev pub overwrite : ℕ → List ℕ → List ℕ → List ℕ
overwrite at bytes cells = take at cells ++ (bytes ++ drop (at + length bytes) cells)

-- at most as many bytes as the ring has, from a place on and round to the front
abbrev pub overwrite_round : ℕ → List ℕ → List ℕ → List ℕ
overwrite_round at bytes cells =
    overwrite 0 (drop (ring_size - at) bytes) (overwrite at (take (ring_size - at) bytes) cells)

-- a put of bytes for which there is room
abbrev pub put_all : List ℕ → Ring → Ring
put_all bytes ring = record {
  cons = ring.cons;
  prod = (ring.prod + length bytes) % 2 ^ 32;
  cells = overwrite_round (ring.prod % ring_size) bytes ring.cells;
}

-- a take of bytes that are there
abbrev pub take_some : ℕ → Ring → Ring
take_some n ring = record { cons = (ring.cons + n) % 2 ^ 32; prod = ring.prod; cells = ring.cells }

-- A PAGE: the request ring, the reply ring, and the error word (0 none, 1 communication, which is never set, 2 ring
-- index, 3 protocol)
pub record Page : Type 0 where
  pub request : Ring
  pub reply : Ring
  pub error : ℕ

abbrev pub fresh_page : ℕ → Page
fresh_page start = record { request = empty_ring start; reply = empty_ring start; error = 0 }

abbrev pub with_request : Ring → Page → Page
with_request ring page = record { request = ring; reply = page.reply; error = page.error }

abbrev pub with_reply : Ring → Page → Page
with_reply ring page = record { request = page.request; reply = ring; error = page.error }

abbrev pub with_error : ℕ → Page → Page
with_error error page = record { request = page.request; reply = page.reply; error = error }

abbrev pub with_cons : ℕ → Ring → Ring
with_cons v ring = record { cons = v; prod = ring.prod; cells = ring.cells }

abbrev pub with_prod : ℕ → Ring → Ring
with_prod v ring = record { cons = ring.cons; prod = v; cells = ring.cells }

-- a guest writes over an index word
abbrev pub poked : Which → ℕ → Page → Page
poked ReqCons v page = with_request (with_cons v page.request) page
poked ReqProd v page = with_request (with_prod v page.request) page
poked RspCons v page = with_reply (with_cons v page.reply) page
poked RspProd v page = with_reply (with_prod v page.reply) page
