-- What an account keeps over all events: the parts of its world fit together, and each log is in one of three states.
use Rattle.std.specs.Prelude.{◌≡◌, ℕ, ◌==◌, true, false, cond, ◌&&◌, List, [], ◌∷◌, map, filter_map, Some, None, is_some, slice_get, ◌⊎◌}
use Rattle.std.specs.List.{AllByRecursion}
use Rattle.std.specs.Ordering.{nat_cmp}
use Rattle.std.specs.FinMap.{find}
use Rattle.std.proofs.Common.{sym, refl, ap, subst, ◌∙◌}
use Rattle.machine_model.specs.Connections.{Connection, Connections, ring_of}
use Rattle.machine_model.specs.History.{Life}
use Rattle.machine_model.specs.Limits.{HasIds}
use Rattle.machine_model.proofs.Lists.{all_append, all_map_of, all_weaker}
use Rattle.world_model.specs.declared.Said.{Said}
use Rattle.world_model.specs.Worlds.{World, Guest, Channel, Event, Send, Put, Intake, Do, Out, Take, Poke, ShowPage, Handover, Told, domid_if_new}
use Rattle.world_model.specs.Served.{PageLog, Account, put_more, got_more, poked_now, on_page, log_change, replaced_for, logs_after, account_with, past_with, IsFront}
use Rattle.world_laws.specs.Laws.{is_log_of, HasLogs}
use Rattle.world_laws.proofs.EntryLemmas.{any_left, any_mapped, each_is_found}
use Rattle.world_laws.proofs.ConnLemmas.{ends, OneRingEach}
use Rattle.world_laws.proofs.FlowLemmas.{Flows, Leaves}

-- THE STATES OF A LOG. Its page was replaced, and its life is closed
pub record IsPast (log : PageLog) (life : Life) : Type 0 where
  pub gone : log.is_there ≡ false
  pub closed : life.is_open ≡ false
  pub asked : log.is_poked ≡ false → IsFront life.inputs log.put
  pub answered : log.is_poked ≡ false → IsFront log.got life.outputs

-- its page is there, and its domain has no connection any more
pub record IsLeft (w : World) (log : PageLog) (life : Life) : Type 0 where
  pub there : log.is_there ≡ true
  pub closed : life.is_open ≡ false
  pub ringless : ring_of log.domid w.machine.conns ≡ None
  pub guest : Guest
  pub found : find nat_cmp log.domid w.guests ≡ Some guest
  pub leaves : log.is_poked ≡ false → Leaves guest.page log.put log.got life.inputs life.outputs

-- its page is there, and its life is that of the domain's connection
pub record IsLive (w : World) (log : PageLog) (life : Life) : Type 0 where
  pub there : log.is_there ≡ true
  pub opened : life.is_open ≡ true
  pub ring : ends w.machine.conns life.conn ≡ Some (Some log.domid)
  pub guest : Guest
  pub found : find nat_cmp log.domid w.guests ≡ Some guest
  pub channel : Channel
  pub channel_found : find nat_cmp life.conn w.channels ≡ Some channel
  pub flows : log.is_poked ≡ false → Flows guest.page channel log.put log.got life.inputs life.outputs

abbrev pub State : World → PageLog → Life → Type 0
State w log life = IsPast log life ⊎ (IsLeft w log life ⊎ IsLive w log life)

pub record HasState (w : World) (lives : List Life) (log : PageLog) : Type 0 where
  pub life : Life
  pub stands : slice_get lives log.life ≡ Some life
  pub state : State w log life

-- THE WORLD. Ids and domids are distinct, each ring has a page, and the connections have the channels
pub record Fits (w : World) : Type 0 where
  pub ids : HasIds w.machine.conns
  pub rings : OneRingEach w.machine.conns
  pub pages : (c d : ℕ) → ends w.machine.conns c ≡ Some (Some d) → is_some (find nat_cmp d w.guests) ≡ true
  pub channels : (c : ℕ) → is_some (find nat_cmp c w.channels) ≡ is_some (find nat_cmp c w.machine.conns)

-- an open life is one of a connection that is there
abbrev pub IsOfConn : Connections → Life → Type 0
IsOfConn conns life = life.is_open ≡ true → is_some (find nat_cmp life.conn conns) ≡ true

pub record Sound (account : Account) : Type 0 where
  pub machine : account.past.machine ≡ account.world.machine
  pub fits : Fits account.world
  pub lives : AllByRecursion (IsOfConn account.world.machine.conns) account.past.lives
  pub logs : AllByRecursion (HasState account.world account.past.lives) account.logs
  pub logged : HasLogs account.world.machine.conns account.logs

abbrev pub After : List ℕ → Account → Event → Told → Type 0
After types account e told = Sound (account_with account e told (past_with types account.past told.items))

-- EVENTS THAT LEAVE THE STORE ALONE: no domain has a new connection
none_new : (conns es : Connections) → AllByRecursion (λ (e : ℕ × Connection). is_some (find nat_cmp e.0 conns) ≡ true) es → filter_map (domid_if_new conns) es ≡ []
none_new conns [] h = refl
none_new conns (e ∷ es) h = rw (h.0) (none_new conns es h.1)

pub none_made : (conns : Connections) → filter_map (domid_if_new conns) conns ≡ []
none_made conns = none_new conns conns (each_is_found conns)

on_page_life : (d : ℕ) (change : PageLog → PageLog) (log : PageLog) → (change log).life ≡ log.life → (on_page d change log).life ≡ log.life
on_page_life d change log same = elim (log.is_there && log.domid == d) as (λ b. (cond b (change log) log).life ≡ log.life) [ true ↦ same | false ↦ refl ]

change_life : (e : Event) (told : Told) (log : PageLog) → (log_change e told log).life ≡ log.life
change_life (Send d bytes) told log = refl
change_life (Put d max) told log = on_page_life d (put_more told.given) log refl
change_life (Intake d max) told log = refl
change_life (Do d) told log = refl
change_life (Out d max) told log = refl
change_life (Take d max) told log = on_page_life d (got_more told.taken) log refl
change_life (Poke d which v) told log = on_page_life d poked_now log refl
change_life (ShowPage d) told log = refl
change_life Handover told log = refl

-- and the log of a page that is there stays one
on_page_log : (b d : ℕ) (change : PageLog → PageLog) (log : PageLog) → is_log_of b (change log) ≡ is_log_of b log → is_log_of b (on_page d change log) ≡ is_log_of b log
on_page_log b d change log same = elim (log.is_there && log.domid == d) as (λ t. is_log_of b (cond t (change log) log) ≡ is_log_of b log) [ true ↦ same | false ↦ refl ]

pub change_log : (b : ℕ) (e : Event) (told : Told) (log : PageLog) → is_log_of b (log_change e told log) ≡ is_log_of b log
change_log b (Send d bytes) told log = refl
change_log b (Put d max) told log = on_page_log b d (put_more told.given) log refl
change_log b (Intake d max) told log = refl
change_log b (Do d) told log = refl
change_log b (Out d max) told log = refl
change_log b (Take d max) told log = on_page_log b d (got_more told.taken) log refl
change_log b (Poke d which v) told log = on_page_log b d poked_now log refl
change_log b (ShowPage d) told log = refl
change_log b Handover told log = refl

abbrev pub with_parts : List (ℕ × Guest) → List (ℕ × Channel) → World → World
with_parts guests channels w = record { machine = w.machine; globals = w.globals; guests = guests; channels = channels }

pub quiet : (types : List ℕ) (a : Account) → Sound a → (e : Event) (guests : List (ℕ × Guest)) (channels : List (ℕ × Channel)) (said : Said) (given taken : List ℕ)
    → Fits (with_parts guests channels a.world)
    → ((log : PageLog) (life : Life) → State a.world log life → State (with_parts guests channels a.world) (log_change e (record { world = with_parts guests channels a.world; said = said; given = given; taken = taken; items = [] }) log) life)
    → After types a e (record { world = with_parts guests channels a.world; said = said; given = given; taken = taken; items = [] })
quiet types a s e guests channels said given taken fits to =
    let w : World = with_parts guests channels a.world in
    let told : Told = record { world = w; said = said; given = given; taken = taken; items = [] } in
    let no_new = none_made w.machine.conns in
    record {
      machine = s.machine;
      fits = fits;
      lives = s.lives;
      logs = subst (λ made. AllByRecursion (HasState w a.past.lives) (logs_after made w.machine.conns a.past.lives (map (log_change e told) a.logs))) (sym no_new)
          (all_append (HasState w a.past.lives) (map (replaced_for []) (map (log_change e told) a.logs)) []
          (all_map_of (HasState w a.past.lives) (replaced_for []) (map (log_change e told) a.logs)
          (all_map_of (HasState w a.past.lives) (log_change e told) a.logs
          (all_weaker (HasState a.world a.past.lives) (λ log. HasState w a.past.lives (log_change e told log)) (λ log h. record {
            life = h.life;
            stands = ap (slice_get a.past.lives) (change_life e told log) ∙ h.stands;
            state = to log h.life h.state;
          }) a.logs s.logs))) tt);
      logged = subst (λ made. HasLogs w.machine.conns (logs_after made w.machine.conns a.past.lives (map (log_change e told) a.logs))) (sym no_new) (λ d ring.
          any_left (is_log_of d) (map (replaced_for []) (map (log_change e told) a.logs)) []
          (any_mapped (is_log_of d) (is_log_of d) (replaced_for []) (λ log t. t) (map (log_change e told) a.logs)
          (any_mapped (is_log_of d) (is_log_of d) (log_change e told) (λ log t. change_log d e told log ∙ t) a.logs (s.logged d ring))));
    }
