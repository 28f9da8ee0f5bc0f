-- What a side of a ring page is answered where the other side may have written over the indices. This project's own.
use Rattle.std.specs.Prelude.{ℕ, [], Result, Ok, Err, if◌then◌else◌}
use Rattle.ring_index.specs.declared.index.BadIndex.{BadIndex}
use Rattle.ring_index.specs.declared.page.Words.{Words}
use Rattle.world_model.specs.Rings.{Ring, Page, used, is_bad, free}

-- the indices of a ring, where its bytes do not matter
abbrev pub indices : ℕ → ℕ → Ring
indices prod cons = record { cons = cons; prod = prod; cells = [] }

-- the answer n, or the two indices where no ring has them
abbrev pub unless_bad : Ring → ℕ → Result ℕ BadIndex
unless_bad ring n = if is_bad ring then Err (record { prod = ring.prod; cons = ring.cons }) else Ok n

-- how many bytes a ring holds, and for how many it has room
abbrev pub used_unless_bad : Ring → Result ℕ BadIndex
used_unless_bad ring = unless_bad ring (used ring)

abbrev pub free_unless_bad : Ring → Result ℕ BadIndex
free_unless_bad ring = unless_bad ring (free ring)

-- the words of a page
abbrev pub words_of : Page → Words
words_of page = record {
  req_cons = page.request.cons;
  req_prod = page.request.prod;
  rsp_cons = page.reply.cons;
  rsp_prod = page.reply.prod;
  error = page.error;
}
