-- Bytes that go out: from what is unsent to a reply ring.
use Rattle.std.proofs.Common.{◌≡◌, ℕ, zero, suc, le_of_suc-le-suc, ◌∷◌, nat_eq, ◌<◌, ◌≤◌, ◌==◌, Bool, true, false, cond, List, [], ◌++◌, length, take, drop, min, Result, Ok, Err, Option, Some, None, refl, sym, ap, subst, ◌∙◌, arith}
use Rattle.std.specs.Ordering.{nat_cmp}
use Rattle.std.specs.FinMap.{find, put}
use Rattle.std.specs.Option.{option_map, option_eq}
use Rattle.std.proofs.lemmas.Bool.{false≢true}
use Rattle.std.proofs.lemmas.Bool.Decides.{nat_tests}
use Rattle.std.proofs.lemmas.List.{length-take-le, take-append-le}
use Rattle.std.proofs.Math.Seq.{take-length}
use Rattle.xs_model.proofs.Maps.{from_Some, not_Some}
use Rattle.ring_index.specs.Answers.{free_unless_bad}
use Rattle.ring_index.specs.declared.index.BadIndex.{BadIndex}
use Rattle.xs_model.specs.Wholes.{rest_after}
use Rattle.world_model.specs.declared.Said.{Said}
use Rattle.world_model.specs.declared.Said.TheVariants as said
use Rattle.world_model.specs.Rings.{Ring, free, is_bad, put_all, with_reply}
use Rattle.world_model.specs.Worlds.{World, Guest, Served, told, served, with_guest, with_channel, out_ring, out_event, sent_some, dropped, dropped_for_index}
use Rattle.daemon.specs.Submits.{Pulls}
use Rattle.world_core.specs.Guests.{with_page_of}
use Rattle.world_core.specs.Stands.{Kept, StandsFor, Follows, Acts}
use Rattle.world_core.specs.Parts.{HasRoom, SendsSome}
use Rattle.world_core.proofs.StandLemmas.{guest_changed, unsent_changed}
use Rattle.world_core.proofs.ServedLemmas.{parts_of}
use Rattle.world_core.proofs.EventLemmas.{unchanged}

front_only : (n : ℕ) (xs ys : List ℕ) → n ≤ length xs → take n (take n xs ++ ys) ≡ take n xs
front_only n xs ys h =
    take-append-le n (take n xs) ys (omega (arith, length-take-le n xs h)) ∙ taken_again
  where
    taken_again : take n (take n xs) ≡ take n xs
    taken_again = ap (λ k. take k (take n xs)) (sym (length-take-le n xs h)) ∙ take-length (take n xs)

pub taken_twice : (n most : ℕ) (xs : List ℕ) → n ≤ most → take n (take most xs) ≡ take n xs
taken_twice zero most xs h = refl
taken_twice (suc n) zero xs h = absurd (omega arith)
taken_twice (suc n) (suc most) [] h = refl
taken_twice (suc n) (suc most) (x ∷ xs) h = ap (λ l. x ∷ l) (taken_twice n most xs (le_of_suc-le-suc h))

-- SENT: the first bytes of what is unsent went into the reply ring
pub sends : (old new : Kept) (d c most n : ℕ) (into into_new sent : List ℕ) → Pulls old.daemon c into n into_new new.daemon → length into ≡ most → sent ≡ take n into_new → new.inboxes ≡ old.inboxes → ((guest : Guest) → find nat_cmp d old.guests ≡ Some guest → new.guests ≡ put nat_cmp d (with_page_of (with_reply (put_all sent guest.page.reply)) guest) old.guests) → new.rings ≡ old.rings → SendsSome old d c most new (said.Sent n)
sends old new d c most n into into_new sent pulls long is same_inboxes guests rings w at stands h conn some =
    let parts = parts_of old w d at stands h in
    let bytes : pulls.bytes ≡ at.channel.unsent = from_Some (sym pulls.there ∙ ap (λ k. find nat_cmp k old.daemon.unsent) (sym conn) ∙ parts.unsent) in
    let rest : pulls.rest ≡ at.channel.rest = from_Some (sym pulls.was ∙ ap (λ k. find nat_cmp k old.daemon.rests) (sym conn) ∙ parts.rest) in
    let count : n ≡ min most (length at.channel.unsent) = pulls.count ∙ ap (λ m. min m (length pulls.bytes)) long ∙ ap (λ (u : List ℕ). min most (length u)) bytes in
    let short : n ≤ length pulls.bytes = rw (pulls.count) omega arith in
    let front : sent ≡ take n at.channel.unsent = is ∙ ap (take n) pulls.taken ∙ front_only n pulls.bytes (drop n into) short ∙ ap (take n) bytes in
    let mid : Kept = record { daemon = old.daemon; inboxes = old.inboxes; guests = new.guests; rings = old.rings; taken = old.taken } in
    let page : Guest = with_page_of (with_reply (put_all sent at.guest.page.reply)) at.guest in
    let on_guest : StandsFor mid (with_guest d page w) = guest_changed old mid w d page stands refl refl (guests at.guest parts.guest) refl in
    let both : StandsFor new (with_channel at.conn (record { inbox = at.channel.inbox; unsent = drop n at.channel.unsent; rest = rest_after at.channel.rest n at.channel.unsent }) (with_guest d page w)) =
    unsent_changed mid new (with_guest d page w) at.conn at.channel (drop n at.channel.unsent) (rest_after at.channel.rest n at.channel.unsent) on_guest parts.channel pulls.stands
    (pulls.unsent ∙ ap (λ k. put nat_cmp k (drop n pulls.bytes) old.daemon.unsent) (sym conn) ∙ ap (λ u. put nat_cmp at.conn (drop n u) old.daemon.unsent) bytes)
    (pulls.rests ∙ ap (λ k. put nat_cmp k (rest_after pulls.rest n pulls.bytes) old.daemon.rests) (sym conn)
    ∙ ap (λ r. put nat_cmp at.conn (rest_after r n pulls.bytes) old.daemon.rests) rest
    ∙ ap (λ u. put nat_cmp at.conn (rest_after at.channel.rest n u) old.daemon.rests) bytes) pulls.globals same_inboxes refl rings
    in
    subst (λ k. Follows new (said.Sent n) (sent_some d k w at)) count
    (record {
      says = refl;
      stands = subst (λ b. StandsFor new (with_channel at.conn (record { inbox = at.channel.inbox; unsent = drop n at.channel.unsent; rest = rest_after at.channel.rest n at.channel.unsent }) (with_guest d (with_page_of (with_reply (put_all b at.guest.page.reply)) at.guest) w))) front both;
      taken = λ k e. cc;
    })

pub not_gone : (old new : Kept) (d c most : ℕ) (answer : Said) → find nat_cmp c old.daemon.unsent ≡ None → SendsSome old d c most new answer
not_gone old new d c most answer none w at stands h conn some =
    not_Some (sym none ∙ ap (λ k. find nat_cmp k old.daemon.unsent) (sym conn) ∙ (parts_of old w d at stands h).unsent)

pub not_nothing : (old new : Kept) (d c most : ℕ) (answer : Said) → find nat_cmp c old.daemon.unsent ≡ Some [] → SendsSome old d c most new answer
not_nothing old new d c most answer none w at stands h conn some =
    let empty : [] ≡ at.channel.unsent = from_Some (sym none ∙ ap (λ k. find nat_cmp k old.daemon.unsent) (sym conn) ∙ (parts_of old w d at stands h).unsent) in
    absurd (omega (arith, subst (λ (u : List ℕ). 0 < length u) (sym empty) some))

-- whether a number is there, and is 0
pub of_zero : (o : Option ℕ) (b : Bool) → b ≡ option_eq nat_eq o (Some 0) → b ≡ true → o ≡ Some 0
of_zero None b is h = absurd (false≢true (sym is ∙ h))
of_zero (Some n) b is h = ap (λ (k : ℕ). Some k) (zero_of n (sym is ∙ h))
  where
    zero_of : (n : ℕ) → nat_eq n 0 ≡ true → n ≡ 0
    zero_of n h = grind (arith, nat_tests)

pub not_zero : (o : Option ℕ) (b : Bool) → b ≡ option_eq nat_eq o (Some 0) → b ≡ false → o ≡ Some 0 → ⊥
not_zero o b is h e = false≢true (sym h ∙ is ∙ ap (λ k. option_eq nat_eq k (Some 0)) e)

-- OUT, by what is unsent and what the reply ring has room for
module _ (old : Kept) (d c max : ℕ) where
  none_queued : (w : World) (at : Served) → length at.channel.unsent ≡ 0 → StandsFor old w → Follows old said.NoneQueued (out_event d max w at)
  none_queued w at none stands =
      subst (λ k. Follows old said.NoneQueued (cond (k == 0) (told w said.NoneQueued) (out_ring d max w at))) (sym none) (unchanged old w said.NoneQueued stands (λ k e. cc))

  unsent_length : (w : World) (at : Served) (u : Option ℕ) → StandsFor old w → served w d ≡ Some at → at.conn ≡ c → u ≡ option_map (λ (l : List ℕ). length l) (find nat_cmp c old.daemon.unsent) → u ≡ Some (length at.channel.unsent)
  unsent_length w at u stands h conn is =
      is ∙ ap (λ k. option_map (λ (l : List ℕ). length l) (find nat_cmp k old.daemon.unsent)) (sym conn) ∙ ap (option_map (λ (l : List ℕ). length l)) (parts_of old w d at stands h).unsent

  pub acts_none : (u : Option ℕ) → u ≡ option_map (λ (l : List ℕ). length l) (find nat_cmp c old.daemon.unsent) → u ≡ Some 0 → Acts old d c (out_event d max) old said.NoneQueued
  acts_none u is empty w at stands h conn =
      none_queued w at (from_Some (sym (unsent_length w at u stands h conn is) ∙ empty)) stands

  -- some bytes are unsent
  some_unsent : (n : ℕ) → (n ≡ 0 → ⊥) → (n == 0) ≡ false
  some_unsent n h = grind (arith, nat_tests)

  pub acts_ring : (new : Kept) (answer : Said) (u : Option ℕ) → u ≡ option_map (λ (l : List ℕ). length l) (find nat_cmp c old.daemon.unsent) → (u ≡ Some 0 → ⊥) → ((w : World) (at : Served) → StandsFor old w → served w d ≡ Some at → at.conn ≡ c → 0 < length at.channel.unsent → Follows new answer (out_ring d max w at)) → Acts old d c (out_event d max) new answer
  acts_ring new answer u is some acts w at stands h conn =
      let length_is = unsent_length w at u stands h conn is in
      let not_zero : length at.channel.unsent ≡ 0 → ⊥ = λ e. some (length_is ∙ ap (λ (n : ℕ). Some n) e) in
      subst (λ b. Follows new answer (cond b (told w said.NoneQueued) (out_ring d max w at))) (sym (some_unsent (length at.channel.unsent) not_zero))
      (acts w at stands h conn (grind (arith, not_zero)))

  -- the reply ring, by what the code found of it
  abbrev pub FreeIs : Result ℕ BadIndex → Type 0
  FreeIs r = (guest : Guest) → find nat_cmp d old.guests ≡ Some guest → r ≡ free_unless_bad guest.page.reply

  record GoodRing (ring : Ring) (n : ℕ) : Type 0 where
    good : is_bad ring ≡ false
    free : free ring ≡ n

  from_ok : {n m : ℕ} → ◌≡◌ {A = Result ℕ BadIndex} (Ok n) (Ok m) → n ≡ m
  from_ok {n = n} e = ap (λ (r : Result ℕ BadIndex). elim r as (λ _. ℕ) [ Ok k ↦ k | Err b ↦ n ]) e

  good_ring : (ring : Ring) (n : ℕ) → Ok n ≡ free_unless_bad ring → GoodRing ring n
  good_ring ring n e = elim (is_bad ring) as (λ b. is_bad ring ≡ b → ◌≡◌ {A = Result ℕ BadIndex} (Ok n) (cond b (Err (record { prod = ring.prod; cons = ring.cons })) (Ok (free ring))) → GoodRing ring n) [
    | true ↦ λ b k. cc
    | false ↦ λ b k. record { good = b; free = sym (from_ok k) }
  ] refl e

  pub room_of : (n : ℕ) → FreeIs (Ok n) → HasRoom old.guests d (min n max)
  room_of n is guest there =
      let ring = good_ring guest.page.reply n (is guest there) in
      record { good = ring.good; room = omega (arith, ring.free) }

  -- no room, and some
  pub ring_full : FreeIs (Ok 0) → (w : World) (at : Served) → StandsFor old w → served w d ≡ Some at → at.conn ≡ c → Follows old said.NoSpace (out_ring d max w at)
  ring_full is w at stands h conn =
      let ring = good_ring at.guest.page.reply 0 (is at.guest (parts_of old w d at stands h).guest) in
      subst (λ b. Follows old said.NoSpace (cond b (dropped_for_index d at.guest.page.reply w at) (cond (free at.guest.page.reply == 0) (told w said.NoSpace) (sent_some d (min max (min (length at.channel.unsent) (free at.guest.page.reply))) w at)))) (sym ring.good)
      (subst (λ k. Follows old said.NoSpace (cond (k == 0) (told w said.NoSpace) (sent_some d (min max (min (length at.channel.unsent) (free at.guest.page.reply))) w at))) (sym ring.free)
      (unchanged old w said.NoSpace stands (λ k e. cc)))

  same_least : (n u : ℕ) → min (min n max) u ≡ min max (min u n)
  same_least n u = omega arith

  not_full : (n : ℕ) → (n ≡ 0 → ⊥) → (n == 0) ≡ false
  not_full n h = grind (arith, nat_tests)

  pub ring_sends : (new : Kept) (answer : Said) (n : ℕ) → FreeIs (Ok n) → (n ≡ 0 → ⊥) → SendsSome old d c (min n max) new answer → (w : World) (at : Served) → StandsFor old w → served w d ≡ Some at → at.conn ≡ c → 0 < length at.channel.unsent → Follows new answer (out_ring d max w at)
  ring_sends new answer n is some sent w at stands h conn unsent =
      let ring = good_ring at.guest.page.reply n (is at.guest (parts_of old w d at stands h).guest) in
      subst (λ b. Follows new answer (cond b (dropped_for_index d at.guest.page.reply w at) (cond (free at.guest.page.reply == 0) (told w said.NoSpace) (sent_some d (min max (min (length at.channel.unsent) (free at.guest.page.reply))) w at)))) (sym ring.good)
      (subst (λ b. Follows new answer (cond b (told w said.NoSpace) (sent_some d (min max (min (length at.channel.unsent) (free at.guest.page.reply))) w at))) (sym (ap (λ k. k == 0) ring.free ∙ not_full n some))
      (subst (λ k. Follows new answer (sent_some d k w at)) (same_least n (length at.channel.unsent) ∙ ap (λ f. min max (min (length at.channel.unsent) f)) (sym ring.free))
      (sent w at stands h conn unsent)))

  bad_ring : (ring : Ring) (bad : BadIndex) → Err bad ≡ free_unless_bad ring → (is_bad ring ≡ true) × (bad ≡ record { prod = ring.prod; cons = ring.cons })
  bad_ring ring bad e = elim (is_bad ring) as (λ b. is_bad ring ≡ b → ◌≡◌ {A = Result ℕ BadIndex} (Err bad) (cond b (Err (record { prod = ring.prod; cons = ring.cons })) (Ok (free ring))) → (is_bad ring ≡ true) × (bad ≡ record { prod = ring.prod; cons = ring.cons })) [
    | true ↦ λ b k. (b, from_err k)
    | false ↦ λ b k. cc
  ] refl e
    where
      from_err : {x y : BadIndex} → ◌≡◌ {A = Result ℕ BadIndex} (Err x) (Err y) → x ≡ y
      from_err {x = x} e = ap (λ (r : Result ℕ BadIndex). elim r as (λ _. BadIndex) [ Ok k ↦ x | Err b ↦ b ]) e

  pub ring_bad : (new : Kept) (answer : Said) (bad : BadIndex) → FreeIs (Err bad) → Acts old d c (dropped d 2 (said.DroppedIndex bad.prod bad.cons)) new answer → (w : World) (at : Served) → StandsFor old w → served w d ≡ Some at → at.conn ≡ c → Follows new answer (out_ring d max w at)
  ring_bad new answer bad is acts w at stands h conn =
      let ring = bad_ring at.guest.page.reply bad (is at.guest (parts_of old w d at stands h).guest) in
      subst (λ b. Follows new answer (cond b (dropped_for_index d at.guest.page.reply w at) (cond (free at.guest.page.reply == 0) (told w said.NoSpace) (sent_some d (min max (min (length at.channel.unsent) (free at.guest.page.reply))) w at)))) (sym ring.0)
      (subst (λ (b : BadIndex). Follows new answer (dropped d 2 (said.DroppedIndex b.prod b.cons) w at)) ring.1 (acts w at stands h conn))
