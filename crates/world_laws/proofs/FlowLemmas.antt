-- What is under way between a guest and the store through a page that nobody pokes.
use Rattle.std.specs.Prelude.{◌≡◌, ℕ, ◌+◌, ◌≤◌, ◌<◌, ◌^◌, true, false, cond, List, [], ◌∷◌, ◌++◌, length, take, drop}
use Rattle.std.proofs.Common.{sym, ap, subst, ◌∙◌, arith, append_assoc, append-nil, take-append-drop}
use Rattle.std.proofs.lemmas.Bool.{ltb-false, cond-false}
use Rattle.world_model.specs.Fronts.{is_part, front, intake}
use Rattle.world_model.specs.Rings.{Ring, Page, used, is_bad, free, filled, held, put_all, take_some, fresh_page, with_request, with_reply}
use Rattle.world_model.specs.Worlds.{Channel}
use Rattle.world_model.specs.Served.{IsFront}
use Rattle.ring_index.specs.Pipes.{Holds, Carries, empty_pipes}
use Rattle.ring_index.proofs.PipeLemmas.{put_appends, take_removes, page_is_two_pipes}

-- both rings hold what they show
pub record IsGood (page : Page) : Type 0 where
  pub request : Holds page.request (held page.request)
  pub reply : Holds page.reply (held page.reply)

-- of a life that is open: nothing is lost
pub record Flows (page : Page) (channel : Channel) (put got inputs outputs : List ℕ) : Type 0 where
  pub good : IsGood page
  pub asked : inputs ++ (channel.inbox ++ held page.request) ≡ put
  pub answered : got ++ (held page.reply ++ channel.unsent) ≡ outputs

-- of a life that is closed: the guest may take what the reply ring still holds
pub record Leaves (page : Page) (put got inputs outputs : List ℕ) : Type 0 where
  pub good : IsGood page
  pub asked : IsFront inputs put
  pub answered : IsFront (got ++ held page.reply) outputs

-- RINGS
itself : (ring : Ring) (bytes : List ℕ) → Holds ring bytes → Holds ring (held ring)
itself ring bytes h = subst (λ xs. Holds ring xs) (sym h.content) h

pub filled_held : (ring : Ring) → Holds ring (held ring) → filled ring ≡ length (held ring)
filled_held ring h =
    let few = ltb-false 1024 (used ring) h.good in
    cond-false (is_bad ring) 0 (used ring) h.good ∙ omega (arith, h.room)

module _ (ring : Ring) (h : Holds ring (held ring)) where
  holds_put : (bytes : List ℕ) → length bytes ≤ free ring → Holds (put_all bytes ring) (held (put_all bytes ring))
  holds_put bytes fits = itself (put_all bytes ring) (held ring ++ bytes) (put_appends ring (held ring) bytes h fits)

  held_put : (bytes : List ℕ) → length bytes ≤ free ring → held (put_all bytes ring) ≡ held ring ++ bytes
  held_put bytes fits = (put_appends ring (held ring) bytes h fits).content

  holds_take : (n : ℕ) → n ≤ filled ring → Holds (take_some n ring) (held (take_some n ring))
  holds_take n there = itself (take_some n ring) (drop n (held ring)) (take_removes ring (held ring) n h there)

  held_take : (n : ℕ) → n ≤ filled ring → held (take_some n ring) ≡ drop n (held ring)
  held_take n there = (take_removes ring (held ring) n h there).content

-- LISTS
joined : (n : ℕ) (a xs b : List ℕ) → (a ++ take n xs) ++ (drop n xs ++ b) ≡ a ++ (xs ++ b)
joined n a xs b =
    append_assoc a (take n xs) (drop n xs ++ b)
    ∙ ap (λ ys. a ++ ys) (sym (append_assoc (take n xs) (drop n xs) b) ∙ ap (λ ys. ys ++ b) (take-append-drop n xs))

pub behind : (a b c d : List ℕ) → a ++ (b ++ (c ++ d)) ≡ (a ++ (b ++ c)) ++ d
behind a b c d = ap (λ ys. a ++ ys) (sym (append_assoc b c d)) ∙ sym (append_assoc a (b ++ c) d)

pub longer : (front whole more : List ℕ) → IsFront front whole → IsFront front (whole ++ more)
longer front whole more f = record { rest = f.rest ++ more; joined = sym (append_assoc front f.rest more) ∙ ap (λ ys. ys ++ more) f.joined }

pub shorter : (front more whole : List ℕ) → IsFront (front ++ more) whole → IsFront front whole
shorter front more whole f = record { rest = more ++ f.rest; joined = sym (append_assoc front more f.rest) ∙ f.joined }

-- A LIFE THAT IS OPEN
module _ (page : Page) (channel : Channel) (put got inputs outputs : List ℕ) (f : Flows page channel put got inputs outputs) where
  pub flows_put : (bytes : List ℕ) → length bytes ≤ free page.request → Flows (with_request (put_all bytes page.request) page) channel (put ++ bytes) got inputs outputs
  flows_put bytes fits = record {
    good = record { request = holds_put page.request f.good.request bytes fits; reply = f.good.reply };
    asked = ap (λ ys. inputs ++ (channel.inbox ++ ys)) (held_put page.request f.good.request bytes fits) ∙ behind inputs channel.inbox (held page.request) bytes ∙ ap (λ ys. ys ++ bytes) f.asked;
    answered = f.answered;
  }

  pub flows_got : (n : ℕ) → n ≤ filled page.reply → Flows (with_reply (take_some n page.reply) page) channel put (got ++ take n (held page.reply)) inputs outputs
  flows_got n there = record {
    good = record { request = f.good.request; reply = holds_take page.reply f.good.reply n there };
    asked = f.asked;
    answered = ap (λ ys. (got ++ take n (held page.reply)) ++ (ys ++ channel.unsent)) (held_take page.reply f.good.reply n there) ∙ joined n got (held page.reply) channel.unsent ∙ f.answered;
  }

  pub flows_took : (n : ℕ) → n ≤ filled page.request → Flows (with_request (take_some n page.request) page) (record { inbox = channel.inbox ++ take n (held page.request); unsent = channel.unsent; rest = channel.rest }) put got inputs outputs
  flows_took n there = record {
    good = record { request = holds_take page.request f.good.request n there; reply = f.good.reply };
    asked = ap (λ ys. inputs ++ ys) (ap (λ ys. (channel.inbox ++ take n (held page.request)) ++ ys) (held_take page.request f.good.request n there ∙ sym (append-nil (drop n (held page.request))))
        ∙ joined n channel.inbox (held page.request) [] ∙ ap (λ ys. channel.inbox ++ ys) (append-nil (held page.request))) ∙ f.asked;
    answered = f.answered;
  }

  pub flows_sent : (n rest : ℕ) → length (take n channel.unsent) ≤ free page.reply → Flows (with_reply (put_all (take n channel.unsent) page.reply) page) (record { inbox = channel.inbox; unsent = drop n channel.unsent; rest = rest }) put got inputs outputs
  flows_sent n rest fits = record {
    good = record { request = f.good.request; reply = holds_put page.reply f.good.reply (take n channel.unsent) fits };
    asked = f.asked;
    answered = ap (λ ys. got ++ ys) (ap (λ ys. ys ++ drop n channel.unsent) (held_put page.reply f.good.reply (take n channel.unsent) fits)
        ∙ append_assoc (held page.reply) (take n channel.unsent) (drop n channel.unsent) ∙ ap (λ ys. held page.reply ++ ys) (take-append-drop n channel.unsent)) ∙ f.answered;
  }

  -- one more request is taken from the inbox, and more is unsent
  pub flows_on : (taken sent : List ℕ) (next : Channel) → taken ++ next.inbox ≡ channel.inbox → next.unsent ≡ channel.unsent ++ sent → Flows page next put got (inputs ++ taken) (outputs ++ sent)
  flows_on taken sent next from to = record {
    good = f.good;
    asked = append_assoc inputs taken (next.inbox ++ held page.request)
        ∙ ap (λ ys. inputs ++ ys) (sym (append_assoc taken next.inbox (held page.request)) ∙ ap (λ ys. ys ++ held page.request) from) ∙ f.asked;
    answered = ap (λ ys. got ++ (held page.reply ++ ys)) to ∙ behind got (held page.reply) channel.unsent sent ∙ ap (λ ys. ys ++ sent) f.answered;
  }

  -- the connection is lost
  pub flows_end : (taken sent : List ℕ) → IsFront taken channel.inbox → Leaves page put got (inputs ++ taken) (outputs ++ sent)
  flows_end taken sent first = record {
    good = f.good;
    asked = record {
      rest = first.rest ++ held page.request;
      joined = append_assoc inputs taken (first.rest ++ held page.request)
          ∙ ap (λ ys. inputs ++ ys) (sym (append_assoc taken first.rest (held page.request)) ∙ ap (λ ys. ys ++ held page.request) first.joined) ∙ f.asked;
    };
    answered = longer (got ++ held page.reply) outputs sent (record { rest = channel.unsent; joined = append_assoc got (held page.reply) channel.unsent ∙ f.answered });
  }

-- A LIFE THAT IS CLOSED
module _ (page : Page) (put got inputs outputs : List ℕ) (l : Leaves page put got inputs outputs) where
  pub leaves_put : (bytes : List ℕ) → length bytes ≤ free page.request → Leaves (with_request (put_all bytes page.request) page) (put ++ bytes) got inputs outputs
  leaves_put bytes fits = record {
    good = record { request = holds_put page.request l.good.request bytes fits; reply = l.good.reply };
    asked = longer inputs put bytes l.asked;
    answered = l.answered;
  }

  pub leaves_got : (n : ℕ) → n ≤ filled page.reply → Leaves (with_reply (take_some n page.reply) page) put (got ++ take n (held page.reply)) inputs outputs
  leaves_got n there = record {
    good = record { request = l.good.request; reply = holds_take page.reply l.good.reply n there };
    asked = l.asked;
    answered = subst (λ ys. IsFront ys outputs)
        (sym (append_assoc got (take n (held page.reply)) (held (take_some n page.reply)) ∙ ap (λ ys. got ++ ys) (ap (λ ys. take n (held page.reply) ++ ys) (held_take page.reply l.good.reply n there) ∙ take-append-drop n (held page.reply))))
        l.answered;
  }

-- A NEW PAGE
good_empty : (page : Page) → Carries page empty_pipes → IsGood page
good_empty page h = record { request = itself page.request [] h.to_server; reply = itself page.reply [] h.to_guest }

pub flows_new : (page : Page) (channel : Channel) → Carries page empty_pipes → channel.inbox ≡ [] → channel.unsent ≡ [] → Flows page channel [] [] [] []
flows_new page channel h inbox unsent = record {
  good = good_empty page h;
  asked = λ i. inbox i ++ h.to_server.content i;
  answered = λ i. h.to_guest.content i ++ unsent i;
}

-- a page at the start, when bytes may be in the channel
pub flows_begun : (page : Page) (channel : Channel) (put outputs : List ℕ) → Carries page empty_pipes → put ≡ channel.inbox → outputs ≡ channel.unsent → Flows page channel put [] [] outputs
flows_begun page channel put outputs h inbox unsent = record {
  good = good_empty page h;
  asked = ap (λ ys. channel.inbox ++ ys) h.to_server.content ∙ append-nil channel.inbox ∙ sym inbox;
  answered = ap (λ ys. ys ++ channel.unsent) h.to_guest.content ∙ sym unsent;
}

pub fresh_page_empty : (start : ℕ) → start < 2 ^ 32 → Carries (fresh_page start) empty_pipes
fresh_page_empty start low = page_is_two_pipes start [] low

-- INTAKE takes no more than there is
pub intake_within : (inbox bytes : List ℕ) → intake inbox bytes ≤ length bytes
intake_within inbox [] = omega arith
intake_within inbox (b ∷ bytes) =
    let rest = intake_within (inbox ++ b ∷ []) bytes in
    elim (is_part (front inbox)) as (λ t. cond t (1 + intake (inbox ++ b ∷ []) bytes) 0 ≤ length (b ∷ bytes)) [ true ↦ omega arith | false ↦ omega arith ]
