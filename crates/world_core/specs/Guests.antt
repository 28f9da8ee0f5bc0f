-- What happens to one domain's page and outbox.
use Rattle.std.specs.Prelude.{ℕ, List, [], ◌∷◌, ◌++◌, take, drop, filter_map, Option, Some, None}
use Rattle.std.specs.Ordering.{nat_cmp}
use Rattle.std.specs.FinMap.{put}
use Rattle.world_model.specs.Rings.{Page, put_all, with_request}
use Rattle.world_model.specs.Worlds.{Guest, fresh_guest, ring_domid}
use Rattle.conn_table.specs.Tables.{Specs}

abbrev pub queued_more : List ℕ → Guest → Guest
queued_more bytes guest = record { page = guest.page; outbox = guest.outbox ++ bytes }

-- the first n bytes went into the request ring
abbrev pub put_from : ℕ → Guest → Guest
put_from n guest = record {
  page = with_request (put_all (take n guest.outbox) guest.page.request) guest.page;
  outbox = drop n guest.outbox;
}

abbrev pub with_page_of : (Page → Page) → Guest → Guest
with_page_of change guest = record { page = change guest.page; outbox = guest.outbox }

-- the domains with a ring connection, in the order of the connections' ids
abbrev pub ring_domids : Specs → List ℕ
ring_domids specs = filter_map (λ e. ring_domid e.1) specs

-- a fresh page for the domain of a ring connection
abbrev pub with_fresh_page : Option ℕ → List (ℕ × Guest) → List (ℕ × Guest)
with_fresh_page None guests = guests
with_fresh_page (Some d) guests = put nat_cmp d (fresh_guest 0) guests

-- each domain with a ring connection has had this one last
abbrev pub with_ring : ℕ → Option ℕ → List (ℕ × ℕ) → List (ℕ × ℕ)
with_ring c None rings = rings
with_ring c (Some d) rings = put nat_cmp d c rings

abbrev pub with_rings : Specs → List (ℕ × ℕ) → List (ℕ × ℕ)
with_rings [] rings = rings
with_rings (e ∷ es) rings = with_rings es (with_ring e.0 (ring_domid e.1) rings)
