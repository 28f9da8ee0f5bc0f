-- Every event keeps an account sound, and a sound account serves its guests.
use Rattle.std.specs.Prelude.{◌≡◌, ℕ, true, false, cond, List, [], ◌∷◌, ◌++◌, Option, Some, is_some, IfSome, slice_get}
use Rattle.std.specs.List.{AllByRecursion}
use Rattle.std.specs.Ordering.{nat_cmp}
use Rattle.std.specs.FinMap.{find}
use Rattle.std.proofs.Common.{sym, ap, subst, ◌∙◌, inl, inr, append_assoc, append-nil}
use Rattle.xs_model.proofs.Maps.{not_both}
use Rattle.machine_model.specs.History.{Life}
use Rattle.machine_model.proofs.Lists.{all_weaker}
use Rattle.world_model.specs.Rings.{held}
use Rattle.world_model.specs.Worlds.{World, Event, Send, Put, Intake, Do, Out, Take, Poke, ShowPage, Handover, channel_or_empty}
use Rattle.world_model.specs.Served.{PageLog, Account, account_after, account_of, IsFront, inbox_of, ServesPage, ServesUnpoked, Serves, Balances, BalancesLife, BalancesUnpoked, AllBalance}
use Rattle.world_laws.specs.Laws.{HasLife}
use Rattle.world_laws.proofs.ConnLemmas.{ring_is}
use Rattle.world_laws.proofs.SoundLemmas.{IsPast, IsLeft, IsLive, State, HasState, Fits, Sound}
use Rattle.world_laws.proofs.GuestLemmas.{guest_sent, guest_put, guest_took, guest_poked, page_shown, handed_over}
use Rattle.world_laws.proofs.StoreLemmas.{intake_done, do_done, out_done}

-- EVERY EVENT
event_sound : (types : List ℕ) (a : Account) → Sound a → (e : Event) → Sound (account_after types a e)
event_sound types a s (Send d bytes) = guest_sent types a s d bytes
event_sound types a s (Put d max) = guest_put types a s d max
event_sound types a s (Intake d max) = intake_done types a s d max
event_sound types a s (Do d) = do_done types a s d
event_sound types a s (Out d max) = out_done types a s d max
event_sound types a s (Take d max) = guest_took types a s d max
event_sound types a s (Poke d which v) = guest_poked types a s d which v
event_sound types a s (ShowPage d) = page_shown types a s d
event_sound types a s Handover = handed_over types a s

pub run_sound : (types : List ℕ) (a : Account) (events : List Event) → Sound a → Sound (account_of types a events)
run_sound types a [] s = s
run_sound types a (e ∷ es) s = run_sound types (account_after types a e) es (event_sound types a s e)

-- SERVED
if_some : {A : Type 0} (P : A → Type 0) (o : Option A) (x : A) → o ≡ Some x → P x → IfSome o P
if_some P o x e h = subst (λ p. IfSome p P) (sym e) h

module _ (w : World) (log : PageLog) (life : Life) (unpoked : log.is_poked ≡ false) where
  no_inbox : life.is_open ≡ false → IsFront life.inputs log.put → IsFront (life.inputs ++ inbox_of w.channels life) log.put
  no_inbox closed f =
      subst (λ xs. IsFront xs log.put) (sym (ap (λ b. life.inputs ++ cond b (channel_or_empty (find nat_cmp life.conn w.channels)).inbox []) closed ∙ append-nil life.inputs)) f

  live_served : IsLive w log life → ServesPage w.channels log life
  live_served l =
      let f = l.flows unpoked in
      let inbox : inbox_of w.channels life ≡ l.channel.inbox =
      ap (λ b. cond b (channel_or_empty (find nat_cmp life.conn w.channels)).inbox []) l.opened ∙ ap (λ o. (channel_or_empty o).inbox) l.channel_found
      in
      record {
        asked = record {
          rest = held l.guest.page.request;
          joined = ap (λ xs. (life.inputs ++ xs) ++ held l.guest.page.request) inbox ∙ append_assoc life.inputs l.channel.inbox (held l.guest.page.request) ∙ f.asked;
        };
        answered = record { rest = held l.guest.page.reply ++ l.channel.unsent; joined = f.answered };
      }

  left_served : IsLeft w log life → ServesPage w.channels log life
  left_served l =
      let f = l.leaves unpoked in
      record {
        asked = no_inbox l.closed f.asked;
        answered = record { rest = held l.guest.page.reply ++ f.answered.rest; joined = sym (append_assoc log.got (held l.guest.page.reply) f.answered.rest) ∙ f.answered.joined };
      }

  state_served : State w log life → ServesPage w.channels log life
  state_served s = elim s [
    | inl p ↦ record { asked = no_inbox p.closed (p.asked unpoked); answered = p.answered unpoked }
    | inr q ↦ elim q [ inl l ↦ left_served l | inr l ↦ live_served l ]
  ]

  live_balanced : IsLive w log life → BalancesLife w log life
  live_balanced l opened =
      let f = l.flows unpoked in
      if_some (λ guest. IfSome (find nat_cmp life.conn w.channels) (λ channel. Balances guest channel log life)) (find nat_cmp log.domid w.guests) l.guest l.found
      (if_some (λ channel. Balances l.guest channel log life) (find nat_cmp life.conn w.channels) l.channel l.channel_found (record { asked = f.asked; answered = f.answered }))

  state_balanced : log.is_there ≡ true → State w log life → BalancesLife w log life
  state_balanced there s = elim s [
    | inl p ↦ not_both there p.gone
    | inr q ↦ elim q [ inl l ↦ λ opened. not_both opened l.closed | inr l ↦ live_balanced l ]
  ]

pub sound_serves : (a : Account) → Sound a → Serves a
sound_serves a s =
    all_weaker (HasState a.world a.past.lives) (ServesUnpoked a.world.channels a.past.lives)
    (λ log h unpoked. if_some (ServesPage a.world.channels log) (slice_get a.past.lives log.life) h.life h.stands (state_served a.world log h.life unpoked h.state))
    a.logs s.logs

pub sound_balances : (a : Account) → Sound a → AllBalance a
sound_balances a s =
    all_weaker (HasState a.world a.past.lives) (BalancesUnpoked a.world a.past.lives)
    (λ log h unpoked there. if_some (BalancesLife a.world log) (slice_get a.past.lives log.life) h.life h.stands (state_balanced a.world log h.life unpoked there h.state))
    a.logs s.logs

-- LIVES
module _ (w : World) (fits : Fits w) (lives : List Life) (log : PageLog) (life : Life) (stands : slice_get lives log.life ≡ Some life) where
  past_life : IsPast log life → HasLife w lives log
  past_life p = record {
    life = life;
    stands = stands;
    page = λ there. not_both there p.gone;
    open_of_ring = λ there ring. not_both there p.gone;
    page_of_open = λ opened. not_both opened p.closed;
    ring_of_open = λ opened. not_both opened p.closed;
    channel_of_open = λ opened. not_both opened p.closed;
  }

  left_life : IsLeft w log life → HasLife w lives log
  left_life l = record {
    life = life;
    stands = stands;
    page = λ there. ap is_some l.found;
    open_of_ring = λ there ring. not_both ring (ap is_some l.ringless);
    page_of_open = λ opened. not_both opened l.closed;
    ring_of_open = λ opened. not_both opened l.closed;
    channel_of_open = λ opened. not_both opened l.closed;
  }

  live_life : IsLive w log life → HasLife w lives log
  live_life l = record {
    life = life;
    stands = stands;
    page = λ there. ap is_some l.found;
    open_of_ring = λ there ring. l.opened;
    page_of_open = λ opened. l.there;
    ring_of_open = λ opened. ring_is w.machine.conns fits.ids.rising fits.rings life.conn log.domid l.ring;
    channel_of_open = λ opened. ap is_some l.channel_found;
  }

  state_life : State w log life → HasLife w lives log
  state_life s = elim s [ inl p ↦ past_life p | inr q ↦ elim q [ inl l ↦ left_life l | inr l ↦ live_life l ] ]

pub sound_lives : (a : Account) → Sound a → AllByRecursion (HasLife a.world a.past.lives) a.logs
sound_lives a s =
    all_weaker (HasState a.world a.past.lives) (HasLife a.world a.past.lives)
    (λ log h. state_life a.world s.fits a.past.lives log h.life h.stands h.state) a.logs s.logs
