-- A page that nobody pokes is two pipes.
use Rattle.std.proofs.Common.{◌≡◌, ℕ, ◌+◌, ◌-◌, ◌%◌, ◌^◌, ◌<◌, ◌≤◌, List, [], ◌∷◌, ◌++◌, length, take, drop, min, false, sym, ap, ap₂, inl, inr, ◌∙◌, arith, length-take}
use Rattle.std.proofs.lemmas.List.{nil_from_length, take_min, drop_min, length-replicate}
use Rattle.std.proofs.lemmas.Bool.{cases_lt, lt-ltb, cond-true, le-ltb, ltb-false, cond-false}
use Rattle.std.proofs.Math.Nat.{min_comm}
use Rattle.world_model.specs.Rings.{Ring, Page, used, is_bad, free, filled, held, cells_from, put_all, take_some, with_cons, empty_ring, fresh_page}
use Rattle.ring_index.specs.Pipes.{IsRing, Holds, PutAppends, TakeRemoves, TakesJoin, Move, GuestPut, GuestTake, ServerTake, ServerPut, put_some, take_at_most, moved, all_moved, Pipes, joined, piped, all_piped, empty_pipes, Carries, MovesAreOfPipes, IsTwoPipes}
use Rattle.ring_index.proofs.RingLemmas.{used_after_put, used_after_take, put_place, place_wraps, place_adds, length-overwrite_round, length-run, run_after_put, run_after_take}

-- ONE STEP. What a ring holds, by the number that its indices say
held_is : (ring : Ring) → is_bad ring ≡ false → held ring ≡ take (used ring) (cells_from (ring.cons % 1024) ring.cells)
held_is ring good = ap (λ n. take n (cells_from (ring.cons % 1024) ring.cells)) (cond-false (is_bad ring) 0 (used ring) good)

holds : (ring : Ring) (bytes : List ℕ) → IsRing ring → used ring ≤ 1024 → take (used ring) (cells_from (ring.cons % 1024) ring.cells) ≡ bytes → Holds ring bytes
holds ring bytes whole few content =
    let good = le-ltb 1024 (used ring) few in
    record {
      whole = whole;
      good = good;
      content = held_is ring good ∙ content;
      room = omega (arith, sym (ap length content) ∙ length-run (ring.cons % 1024) (used ring) ring.cells (omega arith) few whole.cells);
    }

few_used : (ring : Ring) (bytes : List ℕ) → Holds ring bytes → used ring ≤ 1024
few_used ring bytes h = ltb-false 1024 (used ring) h.good

content_is : (ring : Ring) (bytes : List ℕ) → Holds ring bytes → take (used ring) (cells_from (ring.cons % 1024) ring.cells) ≡ bytes
content_is ring bytes h = sym (held_is ring h.good) ∙ h.content

pub put_appends : PutAppends
put_appends ring old bytes h fits =
    let few = few_used ring old h in
    let more = used_after_put ring.prod ring.cons (length bytes) h.whole.prod h.whole.cons (omega arith) in
    let at = put_place ring.prod ring.cons h.whole.prod h.whole.cons in
    let low : ring.prod % 1024 < 1024 = omega arith in
    holds (put_all bytes ring) (old ++ bytes) (record {
      cons = h.whole.cons;
      prod = omega arith;
      cells = length-overwrite_round (ring.prod % 1024) bytes ring.cells low h.whole.cells (omega arith);
    }) (omega arith)
    (rw (more, at) (run_after_put (ring.cons % 1024) (used ring) bytes ring.cells (omega arith) (omega arith) h.whole.cells)
    ∙ ap (λ xs. xs ++ bytes) (content_is ring old h))

pub take_removes : TakeRemoves
take_removes ring old n h there =
    let few = few_used ring old h in
    let some : n ≤ used ring = rw (cond-false (is_bad ring) 0 (used ring) h.good) at there in
    let less = used_after_take ring.prod ring.cons n h.whole.prod h.whole.cons some in
    let place = place_wraps (ring.cons + n) ∙ sym (place_adds ring.cons n) in
    holds (take_some n ring) (drop n old) (record { cons = omega arith; prod = h.whole.prod; cells = h.whole.cells }) (omega arith)
    (rw (less, place) (run_after_take (ring.cons % 1024) (used ring) n ring.cells (omega arith) few some h.whole.cells)
    ∙ ap (drop n) (content_is ring old h))

pub takes_join : TakesJoin
takes_join ring m n =
    let at : ((ring.cons + m) % 2 ^ 32 + n) % 2 ^ 32 ≡ (ring.cons + (m + n)) % 2 ^ 32 = omega arith in
    ap (λ cons. with_cons cons ring) at

-- ANY MOVES
put_joins : (ring : Ring) (old bytes : List ℕ) → Holds ring old → Holds (put_some bytes ring) (joined old bytes)
put_joins ring old bytes h =
    let room : free ring ≡ 1024 - length old = omega (arith, h.room) in
    let some : take (min (length bytes) (free ring)) bytes ≡ take (1024 - length old) bytes =
    ap (λ n. take (min (length bytes) n) bytes) room ∙ ap (λ n. take n bytes) (min_comm (length bytes) (1024 - length old)) ∙ take_min (1024 - length old) bytes in
    rw some (put_appends ring old (take (1024 - length old) bytes) h (omega (arith, length-take (1024 - length old) bytes)))

take_leaves : (ring : Ring) (old : List ℕ) (n : ℕ) → Holds ring old → Holds (take_at_most n ring) (drop n old)
take_leaves ring old n h =
    let few = few_used ring old h in
    let there : filled ring ≡ length old = cond-false (is_bad ring) 0 (used ring) h.good ∙ omega (arith, h.room) in
    let less : drop (min n (filled ring)) old ≡ drop n old = ap (λ m. drop (min n m) old) there ∙ drop_min n old in
    rw less at (take_removes ring old (min n (filled ring)) h (omega arith))

pub moves_are_of_pipes : MovesAreOfPipes
moves_are_of_pipes page pipes (GuestPut bytes) h =
    record { to_server = put_joins page.request pipes.to_server bytes h.to_server; to_guest = h.to_guest }
moves_are_of_pipes page pipes (GuestTake n) h =
    record { to_server = h.to_server; to_guest = take_leaves page.reply pipes.to_guest n h.to_guest }
moves_are_of_pipes page pipes (ServerTake n) h =
    record { to_server = take_leaves page.request pipes.to_server n h.to_server; to_guest = h.to_guest }
moves_are_of_pipes page pipes (ServerPut bytes) h =
    record { to_server = h.to_server; to_guest = put_joins page.reply pipes.to_guest bytes h.to_guest }

moves_go_on : (page : Page) (pipes : Pipes) (moves : List Move) → Carries page pipes → Carries (all_moved page moves) (all_piped pipes moves)
moves_go_on page pipes [] h = h
moves_go_on page pipes (move ∷ moves) h =
    moves_go_on (moved page move) (piped pipes move) moves (moves_are_of_pipes page pipes move h)

empty_holds : (start : ℕ) → start < 2 ^ 32 → Holds (empty_ring start) []
empty_holds start low =
    let none : (start + (2 ^ 32 - start)) % 2 ^ 32 ≡ 0 = omega arith in
    holds (empty_ring start) [] (record { cons = low; prod = low; cells = length-replicate {A = ℕ} 1024 0 }) (omega arith)
    (ap (λ u. take u (cells_from (start % 1024) (empty_ring start).cells)) none)

pub page_is_two_pipes : IsTwoPipes
page_is_two_pipes start moves low =
    moves_go_on (fresh_page start) empty_pipes moves (record { to_server = empty_holds start low; to_guest = empty_holds start low })

-- A RING AT ANY INDICES: where they are bad, it holds nothing, and nothing is put or taken
held_bad : (ring : Ring) → 1024 < used ring → held ring ≡ []
held_bad ring many =
    ap (λ n. take n (cells_from (ring.cons % 1024) ring.cells)) (cond-true (is_bad ring) 0 (used ring) (lt-ltb 1024 (used ring) many))

holds_held : (ring : Ring) → IsRing ring → used ring ≤ 1024 → Holds ring (held ring)
holds_held ring whole few = holds ring (held ring) whole few (sym (held_is ring (le-ltb 1024 (used ring) few)))

pub held-put_all : (ring : Ring) (bytes : List ℕ) → IsRing ring → length bytes ≤ free ring → held (put_all bytes ring) ≡ held ring ++ bytes
held-put_all ring bytes whole fits =
    elim (cases_lt 1024 (used ring)) [
      | inl many ↦
          let none : length bytes ≡ 0 = omega arith in
          held_bad (put_all bytes ring) (let low = whole.prod in omega arith) ∙ sym (ap₂ ◌++◌ (held_bad ring many) (nil_from_length bytes none))
      | inr few ↦ (put_appends ring (held ring) bytes (holds_held ring whole few) fits).content
    ]

pub held-take_some : (ring : Ring) (n : ℕ) → IsRing ring → n ≤ filled ring → held (take_some n ring) ≡ drop n (held ring)
held-take_some ring n whole there =
    elim (cases_lt 1024 (used ring)) [
      | inl many ↦
          let none : n ≡ 0 = omega (arith, cond-true (is_bad ring) 0 (used ring) (lt-ltb 1024 (used ring) many)) in
          held_bad (take_some n ring) (let low = whole.cons in omega arith) ∙ sym (ap (λ m. drop m (held ring)) none ∙ held_bad ring many)
      | inr few ↦ (take_removes ring (held ring) n (holds_held ring whole few) there).content
    ]

-- a take leaves good indices
pub good_take : (ring : Ring) (n : ℕ) → IsRing ring → n ≤ filled ring → is_bad ring ≡ false → is_bad (take_some n ring) ≡ false
good_take ring n whole there good =
    (take_removes ring (held ring) n (holds_held ring whole (ltb-false 1024 (used ring) good)) there).good
