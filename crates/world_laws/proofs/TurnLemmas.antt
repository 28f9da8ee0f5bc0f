-- A step of the store keeps an account sound: connections are made and lost, pages replaced, and each log goes on.
use Rattle.std.specs.Prelude.{◌≡◌, ℕ, ◌==◌, true, false, List, [], ◌∷◌, ◌++◌, map, filter_map, Option, Some, None, is_some, option_map, slice_get}
use Rattle.std.specs.List.{AllByRecursion, list_any}
use Rattle.std.specs.Ordering.{nat_cmp}
use Rattle.std.specs.FinMap.{find}
use Rattle.std.proofs.Common.{sym, refl, ap, subst, ◌∙◌, inl, inr, arith, zero-add, eqb-true}
use Rattle.std.proofs.lemmas.Bool.{cases_Bool, and_parts}
use Rattle.xs_model.proofs.Maps.{not_both, from_Some}
use Rattle.machine_model.specs.Connections.{Connection, Connections, ring_of}
use Rattle.machine_model.specs.Machine.{Item, Send as StoreSend, step_with}
use Rattle.machine_model.specs.History.{Life, new_life, taken_from, sent_to, grown, life_after, past_after}
use Rattle.machine_model.proofs.Lists.{all_append, all_map_of, all_weaker}
use Rattle.world_model.specs.declared.Said.{Said}
use Rattle.world_model.specs.Rings.{Page, fresh_page}
use Rattle.world_model.specs.Worlds.{World, Guest, Channel, Event, Told, fresh_guest, ring_domid}
use Rattle.world_model.specs.Served.{PageLog, Account, IsFront, new_log, life_of_ring, open_life_from, log_for, log_change, replaced, replaced_for, logs_after, account_with}
use Rattle.world_laws.specs.Laws.{is_log_of, HasLogs}
use Rattle.world_laws.proofs.EntryLemmas.{any_left, any_right, any_mapped, any_of, cases_option, value_of, not_none, mapped_some, mapped_none, each_of, each_at}
use Rattle.world_laws.proofs.ConnLemmas.{ends, OneRingEach, ring_ends, ring_is, no_ring, ring_none}
use Rattle.world_laws.proofs.StepLemmas.{Moved, moved_rings}
use Rattle.world_laws.proofs.FlowLemmas.{Flows, Leaves, flows_on, flows_end, flows_new, fresh_page_empty, shorter}
use Rattle.world_laws.proofs.SoundLemmas.{IsPast, IsLeft, IsLive, State, HasState, Fits, IsOfConn, Sound, After, change_log}
use Rattle.world_laws.proofs.MadeLemmas.{IsMade, made, among, each_made, each_among, made_among, gone_stays, replaced_elsewhere, replaced_among, replaced_life}
use Rattle.world_laws.proofs.LifeLemmas.{lives_after, next_closed, next_open, lives_of_conns, life_stays, each_is_new, IsOpenAt, open_at, log_found}

-- A TURN of the world: what the item and its sends do to pages and channels. A page that stays
pub record IsSamePage (guests : List (ℕ × Guest)) (d : ℕ) (old : Page) : Type 0 where
  pub guest : Guest
  pub found : find nat_cmp d guests ≡ Some guest
  pub request : old.request ≡ guest.page.request
  pub reply : old.reply ≡ guest.page.reply

-- a channel that stays: the item takes bytes from it, and the sends are unsent
pub record IsNextChannel (item : Item) (sends : List StoreSend) (channels : List (ℕ × Channel)) (c : ℕ) (old : Channel) : Type 0 where
  pub channel : Channel
  pub found : find nat_cmp c channels ≡ Some channel
  pub inbox : taken_from c item ++ channel.inbox ≡ old.inbox
  pub unsent : channel.unsent ≡ old.unsent ++ sent_to c sends

-- a new one
pub record IsEmptyChannel (sends : List StoreSend) (channels : List (ℕ × Channel)) (c : ℕ) : Type 0 where
  pub channel : Channel
  pub found : find nat_cmp c channels ≡ Some channel
  pub inbox : channel.inbox ≡ []
  pub unsent : channel.unsent ≡ sent_to c sends

pub record IsTurn (w w' : World) (item : Item) (sends : List StoreSend) : Type 0 where
  pub moved : Moved w.machine.conns w'.machine.conns sends
  pub channels : (c : ℕ) → is_some (find nat_cmp c w'.channels) ≡ is_some (find nat_cmp c w'.machine.conns)
  pub taken : (c : ℕ) (channel : Channel) → find nat_cmp c w.channels ≡ Some channel → IsFront (taken_from c item) channel.inbox
  pub same : (d : ℕ) (guest : Guest) → among d (made w.machine.conns w'.machine.conns) ≡ false → find nat_cmp d w.guests ≡ Some guest → IsSamePage w'.guests d guest.page
  pub fresh : (d : ℕ) → IsMade w.machine.conns w'.machine.conns d → find nat_cmp d w'.guests ≡ Some (fresh_guest 0)
  pub next : (c : ℕ) (channel : Channel) → find nat_cmp c w.channels ≡ Some channel → is_some (find nat_cmp c w'.machine.conns) ≡ true → IsNextChannel item sends w'.channels c channel
  pub empty : (c : ℕ) (x : Option ℕ) → ends w.machine.conns c ≡ None → ends w'.machine.conns c ≡ Some x → IsEmptyChannel sends w'.channels c

-- PAGES with the same rings
module _ (old new : Page) (request : old.request ≡ new.request) (reply : old.reply ≡ new.reply) where
  abbrev between : Page
  between = record { request = new.request; reply = new.reply; error = old.error }

  same_flows : (channel : Channel) (p g i o : List ℕ) → Flows old channel p g i o → Flows new channel p g i o
  same_flows channel p g i o f =
      let h : Flows between channel p g i o =
      subst (λ r. Flows (record { request = new.request; reply = r; error = old.error }) channel p g i o) reply
      (subst (λ r. Flows (record { request = r; reply = old.reply; error = old.error }) channel p g i o) request f)
      in
      record { good = record { request = h.good.request; reply = h.good.reply }; asked = h.asked; answered = h.answered }

  same_leaves : (p g i o : List ℕ) → Leaves old p g i o → Leaves new p g i o
  same_leaves p g i o f =
      let h : Leaves between p g i o =
      subst (λ r. Leaves (record { request = new.request; reply = r; error = old.error }) p g i o) reply
      (subst (λ r. Leaves (record { request = r; reply = old.reply; error = old.error }) p g i o) request f)
      in
      record { good = record { request = h.good.request; reply = h.good.reply }; asked = h.asked; answered = h.answered }

module _ (w w' : World) (item : Item) (sends : List StoreSend) (fits : Fits w) (turn : IsTurn w w' item sends) where
  abbrev before : Connections
  before = w.machine.conns

  abbrev after : Connections
  after = w'.machine.conns

  -- a new connection's domain had none
  made_had_none : (d : ℕ) → IsMade before after d → ring_of d before ≡ None
  made_had_none d m = turn.moved.made m.conn d m.new m.ring

  among_is_made : (d : ℕ) → among d (made before after) ≡ true → IsMade before after d
  among_is_made d t = each_among (IsMade before after) d (made before after) (each_made before after turn.moved.ids.rising) t

  -- THE WORLD
  one_after : OneRingEach after
  one_after = moved_rings before after sends fits.ids fits.rings turn.moved

  -- a domain that had no ring and is not new has none
  still_none : (d : ℕ) → ring_of d before ≡ None → among d (made before after) ≡ false → ring_of d after ≡ None
  still_none d none old = ring_none after turn.moved.ids.rising d (λ c e. elim (cases_option (ends before c)) [
    | inl x ↦ no_ring before fits.ids.rising c d none (sym (turn.moved.kept c x.0 (Some d) x.1 e) ∙ e)
    | inr n ↦ not_both (made_among before after c d n e) old
  ])

  -- nor has one whose ring is lost
  now_none : (c d : ℕ) → ends before c ≡ Some (Some d) → ends after c ≡ None → among d (made before after) ≡ false → ring_of d after ≡ None
  now_none c d was lost old = ring_none after turn.moved.ids.rising d (λ b e. elim (cases_option (ends before b)) [
    | inl x ↦
        let still : ends before b ≡ Some (Some d) = sym (turn.moved.kept b x.0 (Some d) x.1 e) ∙ e in
        not_none e (ap (ends after) (fits.rings b c d still was) ∙ lost)
    | inr n ↦ not_both (made_among before after b d n e) old
  ])

  page_after : (d : ℕ) → is_some (find nat_cmp d w.guests) ≡ true → is_some (find nat_cmp d w'.guests) ≡ true
  page_after d h = elim (cases_Bool (among d (made before after))) [
    | inl t ↦ ap is_some (turn.fresh d (among_is_made d t))
    | inr f ↦ let g = value_of (find nat_cmp d w.guests) h in ap is_some (turn.same d g.0 f g.1).found
  ]

  pub fits_after : Fits w'
  fits_after = record {
    ids = turn.moved.ids;
    rings = one_after;
    pages = λ c d e. elim (cases_option (ends before c)) [
      | inl x ↦ page_after d (fits.pages c d (sym (turn.moved.kept c x.0 (Some d) x.1 e) ∙ e))
      | inr n ↦ ap is_some (turn.fresh d (record { conn = c; new = n; ring = e }))
    ];
    channels = turn.channels;
  }

  -- LOGS THAT THERE WERE
  module _ (log : PageLog) (life : Life) where
    abbrev next : Life
    next = life_after item sends after life

    abbrev log' : PageLog
    log' = replaced_for (made before after) log

    past_on : IsPast log life → State w' log' next
    past_on p = subst (λ l. State w' l next) (sym (gone_stays (made before after) log p.gone)) (subst (λ l. State w' log l) (sym (next_closed item sends before after life p.closed)) (inl p))

    -- the page is there no more
    left_gone : IsLeft w log life → IsPast (replaced log) life
    left_gone l = record {
      gone = refl;
      closed = l.closed;
      asked = λ u. (l.leaves u).asked;
      answered = λ u. shorter log.got _ life.outputs (l.leaves u).answered;
    }

    left_stays : IsLeft w log life → among log.domid (made before after) ≡ false → IsLeft w' log life
    left_stays l f =
        let same = turn.same log.domid l.guest f l.found in
        record {
          there = l.there;
          closed = l.closed;
          ringless = still_none log.domid l.ringless f;
          guest = same.guest;
          found = same.found;
          leaves = λ u. same_leaves l.guest.page same.guest.page same.request same.reply log.put log.got life.inputs life.outputs (l.leaves u);
        }

    left_on : IsLeft w log life → State w' log' next
    left_on l = subst (λ x. State w' log' x) (sym (next_closed item sends before after life l.closed)) (elim (cases_Bool (among log.domid (made before after))) [
      | inl t ↦ subst (λ x. State w' x life) (sym (replaced_among (made before after) log l.there t)) (inl (left_gone l))
      | inr f ↦ subst (λ x. State w' x life) (sym (replaced_elsewhere (made before after) log f)) (inr (inl (left_stays l f)))
    ])

    -- a domain with a ring gets no other
    live_is_old : IsLive w log life → among log.domid (made before after) ≡ false
    live_is_old l = elim (cases_Bool (among log.domid (made before after))) [
      | inl t ↦ no_ring before fits.ids.rising life.conn log.domid (made_had_none log.domid (among_is_made log.domid t)) l.ring
      | inr f ↦ f
    ]

    live_ends : IsLive w log life → find nat_cmp life.conn after ≡ None → IsLeft w' log (grown item sends after life)
    live_ends l none =
        let old = live_is_old l in
        let same = turn.same log.domid l.guest old l.found in
        record {
          there = l.there;
          closed = ap is_some none;
          ringless = now_none life.conn log.domid l.ring (ap (option_map (λ (conn : Connection). _)) none) old;
          guest = same.guest;
          found = same.found;
          leaves = λ u. same_leaves l.guest.page same.guest.page same.request same.reply log.put log.got _ _
              (flows_end l.guest.page l.channel log.put log.got life.inputs life.outputs (l.flows u) (taken_from life.conn item) (sent_to life.conn sends) (turn.taken life.conn l.channel l.channel_found));
        }

    live_stays : IsLive w log life → (conn : Connection) → find nat_cmp life.conn after ≡ Some conn → IsLive w' log (grown item sends after life)
    live_stays l conn found =
        let same = turn.same log.domid l.guest (live_is_old l) l.found in
        let there : is_some (find nat_cmp life.conn after) ≡ true = ap is_some found in
        let channel = turn.next life.conn l.channel l.channel_found there in
        record {
          there = l.there;
          opened = there;
          ring = turn.moved.kept life.conn (Some log.domid) _ l.ring (ap (option_map (λ (conn : Connection). _)) found) ∙ l.ring;
          guest = same.guest;
          found = same.found;
          channel = channel.channel;
          channel_found = channel.found;
          flows = λ u. same_flows l.guest.page same.guest.page same.request same.reply channel.channel log.put log.got _ _
              (flows_on l.guest.page l.channel log.put log.got life.inputs life.outputs (l.flows u) (taken_from life.conn item) (sent_to life.conn sends) channel.channel channel.inbox channel.unsent);
        }

    live_on : IsLive w log life → State w' log' next
    live_on l =
        subst (λ x. State w' x next) (sym (replaced_elsewhere (made before after) log (live_is_old l)))
        (subst (λ x. State w' log x) (sym (next_open item sends before after life l.opened)) (inr (elim (cases_option (find nat_cmp life.conn after)) [
          | inl x ↦ inr (live_stays l x.0 x.1)
          | inr n ↦ inl (live_ends l n)
        ])))

    pub state_on : State w log life → State w' log' next
    state_on s = elim s [ inl p ↦ past_on p | inr q ↦ elim q [ inl l ↦ left_on l | inr l ↦ live_on l ] ]

  -- NEW LOGS: nothing is put or sent yet
  module _ (lives : List Life) (old : AllByRecursion (IsOfConn before) lives) where
    abbrev later : List Life
    later = lives_after item sends before after lives

    new_state : (d : ℕ) (m : IsMade before after d) (p : ℕ) → IsOpenAt m.conn 0 later p → HasState w' later (new_log d p)
    new_state d m p at =
        let is : at.life ≡ new_life m.conn =
        each_at (λ (life : Life). life.is_open ≡ true → life.conn ≡ m.conn → life ≡ new_life m.conn) later at.i at.life
        (each_is_new item sends before after m.conn (mapped_none (λ (conn : Connection). ring_domid conn.spec) (find nat_cmp m.conn before) m.new) lives old) at.stands at.opened at.conn
        in
        let channel = turn.empty m.conn (Some d) m.new m.ring in
        let none : channel.channel.unsent ≡ [] = channel.unsent ∙ turn.moved.unsent m.conn (Some d) m.new m.ring in
        record {
          life = at.life;
          stands = ap (slice_get later) (at.place ∙ zero-add at.i) ∙ at.stands;
          state = subst (λ life. State w' (new_log d p) life) (sym is) (inr (inr (record {
            there = refl;
            opened = refl;
            ring = m.ring;
            guest = fresh_guest 0;
            found = turn.fresh d m;
            channel = channel.channel;
            channel_found = channel.found;
            flows = λ u. flows_new (fresh_page 0) channel.channel (fresh_page_empty 0 (omega arith)) channel.inbox none;
          })));
        }

    new_of : (d : ℕ) (log : PageLog) → IsMade before after d → log_for after later d ≡ Some log → HasState w' later log
    new_of d log m e =
        let ring : ring_of d after ≡ Some m.conn = ring_is after turn.moved.ids.rising one_after m.conn d m.ring in
        let x = mapped_some (new_log d) (open_life_from 0 m.conn later) log (ap (λ o. option_map (new_log d) (life_of_ring later o)) (sym ring) ∙ e) in
        subst (HasState w' later) (from_Some x.2) (new_state d m x.0 (open_at m.conn 0 later x.0 x.1))

    pub new_logs : AllByRecursion (HasState w' later) (filter_map (log_for after later) (made before after))
    new_logs = each_of (HasState w' later) (IsMade before after) (log_for after later) new_of (made before after) (each_made before after turn.moved.ids.rising)

    -- DOMAINS THAT ARE CONNECTED have logs
    stays_log : (logs : List PageLog) (d : ℕ) → among d (made before after) ≡ false → list_any (is_log_of d) logs ≡ true → list_any (is_log_of d) (map (replaced_for (made before after)) logs) ≡ true
    stays_log logs d old h = any_mapped (is_log_of d) (is_log_of d) (replaced_for (made before after)) (λ log t.
        let same : log.domid ≡ d = eqb-true log.domid d (and_parts log.is_there (log.domid == d) t).1 in
        ap (is_log_of d) (replaced_elsewhere (made before after) log (ap (λ k. among k (made before after)) same ∙ old)) ∙ t) logs h

    pub logs_on : (logs : List PageLog) → HasLogs before logs → HasLogs after (logs_after (made before after) after later logs)
    logs_on logs h d ring =
        let c = value_of (ring_of d after) ring in
        let conn = mapped_some (λ (conn : Connection). ring_domid conn.spec) (find nat_cmp c.0 after) (Some d) (ring_ends after turn.moved.ids.rising d c.0 c.1) in
        elim (cases_Bool (among d (made before after))) [
          | inl t ↦ any_right (is_log_of d) (map (replaced_for (made before after)) logs) (filter_map (log_for after later) (made before after))
              (any_of (is_log_of d) (λ e. d == e) (log_for after later)
              (λ e same. log_found after (map (life_after item sends after) lives) d c.0 e c.1 (ap is_some conn.1) same) (made before after) t)
          | inr f ↦ any_left (is_log_of d) (map (replaced_for (made before after)) logs) (filter_map (log_for after later) (made before after)) (stays_log logs d f (h d (elim (cases_option (ring_of d before)) [
            | inl b ↦ ap is_some b.1
            | inr n ↦ not_none c.1 (still_none d n f)
          ])))
        ]

-- THE TURN of an account
pub turn_after : (types : List ℕ) (a : Account) → Sound a → (e : Event) (say : Said) (item : Item) (guests : List (ℕ × Guest)) (channels : List (ℕ × Channel)) →
    let stepped = step_with types a.world.machine item in
    let w' : World = record { machine = stepped.0; globals = a.world.globals; guests = guests; channels = channels } in
    let told : Told = record { world = w'; said = say; given = []; taken = []; items = item ∷ [] } in
    ((log : PageLog) → log_change e told log ≡ log) → IsTurn a.world w' item stepped.1 → After types a e told
turn_after types a s e say item guests channels as_is turn =
    let stepped = step_with types a.world.machine item in
    let w' : World = record { machine = stepped.0; globals = a.world.globals; guests = guests; channels = channels } in
    let told : Told = record { world = w'; said = say; given = []; taken = []; items = item ∷ [] } in
    let before = a.world.machine.conns in
    let after = stepped.0.conns in
    let lives = lives_after item stepped.1 before after a.past.lives in
    let ds = made before after in
    subst (λ m. Sound (account_with a e told (past_after a.past item (step_with types m item)))) (sym s.machine) (record {
      machine = refl;
      fits = fits_after a.world w' item stepped.1 s.fits turn;
      lives = lives_of_conns item stepped.1 before after a.past.lives;
      logs = all_append (HasState w' lives) (map (replaced_for ds) (map (log_change e told) a.logs)) (filter_map (log_for after lives) ds)
          (all_map_of (HasState w' lives) (replaced_for ds) (map (log_change e told) a.logs)
          (all_map_of (λ log. HasState w' lives (replaced_for ds log)) (log_change e told) a.logs
          (all_weaker (HasState a.world a.past.lives) (λ log. HasState w' lives (replaced_for ds (log_change e told log))) (λ log h. subst (λ l. HasState w' lives (replaced_for ds l)) (sym (as_is log)) (record {
            life = life_after item stepped.1 after h.life;
            stands = ap (slice_get lives) (replaced_life ds log) ∙ life_stays item stepped.1 before after a.past.lives log.life h.life h.stands;
            state = state_on a.world w' item stepped.1 s.fits turn log h.life h.state;
          })) a.logs s.logs)))
          (new_logs a.world w' item stepped.1 s.fits turn a.past.lives s.lives);
      logged = logs_on a.world w' item stepped.1 s.fits turn a.past.lives s.lives (map (log_change e told) a.logs) (λ d ring.
          any_mapped (is_log_of d) (is_log_of d) (log_change e told) (λ log t. change_log d e told log ∙ t) a.logs (s.logged d ring));
    })
