-- The records of connections, watches and transactions, and those of what transactions keep: each adds to what came what it
-- tells.
use Rattle.std.specs.Prelude.{◌≡◌, ℕ, ◌≤◌, true, false, List, [], ◌∷◌, ◌++◌, map, Some, Ok}
use Rattle.std.specs.List.{AllByRecursion, flat_map}
use Rattle.std.specs.Ordering.{nat_cmp}
use Rattle.std.specs.Cmp.{nat_cmp_total}
use Rattle.std.specs.FinMap.{find, put, is_sorted}
use Rattle.std.proofs.Common.{sym, ap, subst, ◌∙◌, append-nil}
use Rattle.xs_model.specs.Paths.{Path, path_cmp}
use Rattle.xs_model.specs.Trees.{Tree, new_tree}
use Rattle.xs_model.specs.Generations.{new_generations}
use Rattle.xs_model.specs.Watches.{Watch}
use Rattle.xs_model.proofs.PathLemmas.{path_total}
use Rattle.machine_model.specs.Connections.{caller_of, is_ring_of}
use Rattle.mark_model.specs.Marks.{Mark, Marks, mark_at, overlay}
use Rattle.mark_model.proofs.StoreMaps.{with_values}
use Rattle.stream_model.specs.Record.{StreamRecord}
use Rattle.kept_model.specs.States.{State, TransactionOf, ConnectionOf, connection_in}
use Rattle.kept_model.specs.Said.{Said}
use Rattle.kept_model.specs.Sound.{IsSound, IsSpelled, MarkFits, AreWatches, is_socket, count_ends}
use Rattle.kept_model.specs.Loading.{Pending, with_said}
use Rattle.kept_model.specs.Normal.{marks_in, marks_or_none, is_orphan, is_orphan_in}
use Rattle.kept_model.specs.Images.{connection_record, watch_record, transaction_record, mark_record, watch_records, transaction_records, mark_records}
use Rattle.kept_model.proofs.SaveLists.{AreBefore, keyed, before, before_keyed, put_last, put_here, find_none, find_here, more_done, one_more, all_at, walk, walk_map}
use Rattle.kept_model.proofs.SaveFields.{said_mark, IsTold, told}
use Rattle.kept_model.proofs.SaveSound.{TransactionFits, ConnectionFits, all_fit, conns_rising}
use Rattle.kept_model.proofs.SaveNormal.{mark_entries, not_orphan}
use Rattle.kept_model.proofs.SaveLoads.{conn_with, begun_said, loads_connection, loads_watch, loads_transaction, loads_mark}
use Rattle.kept_model.proofs.SaveEnds.{bare, apart, few_sockets, WatchFits, watch_at}
use Rattle.kept_model.proofs.SaveLeads.{came, Leads, step, step_at}

-- CONNECTIONS with their watches, with their transactions, and with what these keep
abbrev pub watched : ConnectionOf Mark → ConnectionOf Said
watched conn = conn_with conn conn.watches []

abbrev pub opened : ConnectionOf Mark → ConnectionOf Said
opened conn = conn_with conn conn.watches (with_values begun_said conn.opens)

abbrev pub marked : TransactionOf Mark → List (Path × Said) → TransactionOf Said
marked t said = record { count = t.count; marks = said }

abbrev pub said_transaction : Tree → TransactionOf Mark → TransactionOf Said
said_transaction tree t = marked t (keyed (λ (e : Path × Mark). said_mark tree e.0 e.1) t.marks)

abbrev pub full : Tree → ConnectionOf Mark → ConnectionOf Said
full tree conn = conn_with conn conn.watches (with_values (said_transaction tree) conn.opens)

module _ (s : State) (sound : IsSound s) where
  module _ (done : List (ℕ × ConnectionOf Mark)) (e : ℕ × ConnectionOf Mark) (todo : List (ℕ × ConnectionOf Mark)) (is : done ++ e ∷ todo ≡ s.conns) where
    first : AreBefore nat_cmp e.0 done
    first = before nat_cmp nat_cmp_total done e todo (subst (λ (es : List (ℕ × ConnectionOf Mark)). is_sorted nat_cmp es ≡ true) (sym is) (conns_rising s sound))

    ahead : (f : ConnectionOf Mark → ConnectionOf Said) → AreBefore nat_cmp e.0 (with_values f done)
    ahead f = before_keyed nat_cmp (λ (g : ℕ × ConnectionOf Mark). f g.1) e.0 done first

    fits : ConnectionFits s.tree e
    fits = all_at (ConnectionFits s.tree) done e todo (subst (λ (es : List (ℕ × ConnectionOf Mark)). AllByRecursion (ConnectionFits s.tree) es) (sym is) (all_fit s sound))

    -- ITS OWN RECORD
    few : count_ends is_socket (with_values connection_in (done ++ e ∷ todo)) ≤ 65536
    few = subst (λ (es : List (ℕ × ConnectionOf Mark)). count_ends is_socket (with_values connection_in es) ≤ 65536) (sym is) sound.store.sockets

    rings : (domid : ℕ) → count_ends (is_ring_of domid) (with_values connection_in (done ++ e ∷ todo)) ≤ 1
    rings domid = subst (λ (es : List (ℕ × ConnectionOf Mark)). count_ends (is_ring_of domid) (with_values connection_in es) ≤ 1) (sym is) (sound.store.rings domid)

    conn_step : (more : List StreamRecord) → Leads s new_tree new_generations (with_values bare (done ++ e ∷ [])) false more → Leads s new_tree new_generations (with_values bare done) false (connection_record e.0 e.1 ∷ more)
    conn_step more leads =
        step s new_tree new_tree new_generations new_generations (with_values bare done) (with_values bare (done ++ e ∷ [])) false false (connection_record e.0 e.1) more (λ n pending.
        loads_connection n (came new_tree new_generations s.globals (with_values bare done) false pending) s.tree e fits
        (few_sockets done e todo few) (find_none nat_cmp e.0 (with_values bare done) (ahead bare)) (apart done e todo rings)
        ∙ ap (λ (cs : List (ℕ × ConnectionOf Said)). Ok (came new_tree new_generations s.globals cs false pending))
        (put_last nat_cmp e.0 (bare e.1) (with_values bare done) (ahead bare) ∙ sym (one_more (λ (f : ℕ × ConnectionOf Mark). bare f.1) done e))) leads

    -- ITS WATCHES
    abbrev watching : List Watch → List (ℕ × ConnectionOf Said)
    watching ws = with_values watched done ++ (e.0, conn_with e.1 ws []) ∷ with_values bare todo

    abbrev WatchLeads : List Watch → List Watch → List StreamRecord → Type 0
    WatchLeads ws later more = Leads s new_tree new_generations (watching ws) false more

    watch_step : (ws : List Watch) (w : Watch) (later : List Watch) (more : List StreamRecord) → ws ++ w ∷ later ≡ e.1.watches → WatchLeads (ws ++ w ∷ []) later more → WatchLeads ws (w ∷ later) (watch_record e.0 w ∷ more)
    watch_step ws w later more each leads =
        let domid : ℕ = (caller_of e.1.spec).domid in
        let f : WatchFits domid ws w = watch_at domid ws w later (subst (λ (vs : List Watch). AreWatches domid vs) (sym each) fits.watches) in
        step s new_tree new_tree new_generations new_generations (watching ws) (watching (ws ++ w ∷ [])) false false (watch_record e.0 w) more (λ n pending.
        loads_watch n (came new_tree new_generations s.globals (watching ws) false pending) e.0 (conn_with e.1 ws []) w
        (find_here nat_cmp nat_cmp_total e.0 (conn_with e.1 ws []) (with_values watched done) (with_values bare todo) (ahead watched)) f.path f.token f.text f.new
        ∙ ap (λ (cs : List (ℕ × ConnectionOf Said)). Ok (came new_tree new_generations s.globals cs false pending))
        (put_here nat_cmp nat_cmp_total e.0 (conn_with e.1 (ws ++ w ∷ []) []) (conn_with e.1 ws []) (with_values watched done) (with_values bare todo) (ahead watched))) leads

    watches_step : (more : List StreamRecord) → Leads s new_tree new_generations (with_values watched (done ++ e ∷ []) ++ with_values bare todo) false more
        → Leads s new_tree new_generations (with_values watched done ++ with_values bare (e ∷ todo)) false (watch_records e.0 e.1 ++ more)
    watches_step more leads =
        walk_map WatchLeads (watch_record e.0) e.1.watches watch_step more
        (subst (λ (cs : List (ℕ × ConnectionOf Said)). Leads s new_tree new_generations cs false more) (more_done (λ (f : ℕ × ConnectionOf Mark). watched f.1) done e (with_values bare todo)) leads)

    -- ITS TRANSACTIONS
    abbrev opening : List (ℕ × TransactionOf Said) → List (ℕ × ConnectionOf Said)
    opening ts = with_values opened done ++ (e.0, conn_with e.1 e.1.watches ts) ∷ with_values watched todo

    abbrev TransactionLeads : List (ℕ × TransactionOf Mark) → List (ℕ × TransactionOf Mark) → List StreamRecord → Type 0
    TransactionLeads ts later more = Leads s new_tree new_generations (opening (with_values begun_said ts)) false more

    -- what holds of a transaction at its place
    module _ (ts : List (ℕ × TransactionOf Mark)) (t : ℕ × TransactionOf Mark) (later : List (ℕ × TransactionOf Mark)) (each : ts ++ t ∷ later ≡ e.1.opens) where
      opens_before : AreBefore nat_cmp t.0 ts
      opens_before = before nat_cmp nat_cmp_total ts t later (subst (λ (es : List (ℕ × TransactionOf Mark)). is_sorted nat_cmp es ≡ true) (sym each) fits.rising)

      opens_ahead : (f : TransactionOf Mark → TransactionOf Said) → AreBefore nat_cmp t.0 (with_values f ts)
      opens_ahead f = before_keyed nat_cmp (λ (g : ℕ × TransactionOf Mark). f g.1) t.0 ts opens_before

      transaction_fits : TransactionFits s.tree t
      transaction_fits = all_at (TransactionFits s.tree) ts t later (subst (λ (es : List (ℕ × TransactionOf Mark)). AllByRecursion (TransactionFits s.tree) es) (sym each) fits.opens)

      transaction_step : (more : List StreamRecord) → TransactionLeads (ts ++ t ∷ []) later more → TransactionLeads ts (t ∷ later) (transaction_record e.0 t.0 t.1 ∷ more)
      transaction_step more leads =
          let so_far : List (ℕ × TransactionOf Said) = with_values begun_said ts in
          step s new_tree new_tree new_generations new_generations (opening (with_values begun_said ts)) (opening (with_values begun_said (ts ++ t ∷ []))) false false (transaction_record e.0 t.0 t.1) more (λ n pending.
          loads_transaction n (came new_tree new_generations s.globals (opening so_far) false pending) e.0 (conn_with e.1 e.1.watches so_far) t.0 t.1
          (find_here nat_cmp nat_cmp_total e.0 (conn_with e.1 e.1.watches so_far) (with_values opened done) (with_values watched todo) (ahead opened))
          transaction_fits.positive (find_none nat_cmp t.0 so_far (opens_ahead begun_said))
          ∙ ap (λ (cs : List (ℕ × ConnectionOf Said)). Ok (came new_tree new_generations s.globals cs false pending))
          (put_here nat_cmp nat_cmp_total e.0 (conn_with e.1 e.1.watches (put nat_cmp t.0 (begun_said t.1) so_far)) (conn_with e.1 e.1.watches so_far) (with_values opened done) (with_values watched todo) (ahead opened)
          ∙ ap opening (put_last nat_cmp t.0 (begun_said t.1) so_far (opens_ahead begun_said) ∙ sym (one_more (λ (f : ℕ × TransactionOf Mark). begun_said f.1) ts t)))) leads

    transactions_step : (more : List StreamRecord) → Leads s new_tree new_generations (with_values opened (done ++ e ∷ []) ++ with_values watched todo) false more
        → Leads s new_tree new_generations (with_values opened done ++ with_values watched (e ∷ todo)) false (transaction_records e.0 e.1 ++ more)
    transactions_step more leads =
        walk_map TransactionLeads (λ (t : ℕ × TransactionOf Mark). transaction_record e.0 t.0 t.1) e.1.opens (λ ts t later rs each. transaction_step ts t later each rs) more
        (subst (λ (cs : List (ℕ × ConnectionOf Said)). Leads s new_tree new_generations cs false more) (more_done (λ (f : ℕ × ConnectionOf Mark). opened f.1) done e (with_values watched todo)) leads)

    -- WHAT THEY KEEP
    abbrev saying : TransactionOf Mark → TransactionOf Said
    saying = said_transaction s.tree

    abbrev filling : List (ℕ × TransactionOf Said) → List (ℕ × ConnectionOf Said)
    filling ts = with_values (full s.tree) done ++ (e.0, conn_with e.1 e.1.watches ts) ∷ with_values opened todo

    abbrev KeptLeads : List (ℕ × TransactionOf Mark) → List (ℕ × TransactionOf Mark) → List StreamRecord → Type 0
    KeptLeads ts later more = Leads s s.tree s.gens (filling (with_values saying ts ++ with_values begun_said later)) true more

    found_conn : find nat_cmp e.0 s.conns ≡ Some e.1
    found_conn = subst (λ (es : List (ℕ × ConnectionOf Mark)). find nat_cmp e.0 es ≡ Some e.1) is (find_here nat_cmp nat_cmp_total e.0 e.1 done todo first)

    module _ (ts : List (ℕ × TransactionOf Mark)) (t : ℕ × TransactionOf Mark) (later : List (ℕ × TransactionOf Mark)) (each : ts ++ t ∷ later ≡ e.1.opens) where
      abbrev marking : List (Path × Said) → List (ℕ × TransactionOf Said)
      marking said = with_values saying ts ++ (t.0, marked t.1 said) ∷ with_values begun_said later

      abbrev say : Path × Mark → Said
      say m = said_mark s.tree m.0 m.1

      abbrev MarkLeads : Marks → Marks → List StreamRecord → Type 0
      MarkLeads ms others more = Leads s s.tree s.gens (filling (marking (keyed say ms))) true more

      holds : TransactionFits s.tree t
      holds = transaction_fits ts t later each

      found_transaction : find nat_cmp t.0 e.1.opens ≡ Some t.1
      found_transaction = subst (λ (es : List (ℕ × TransactionOf Mark)). find nat_cmp t.0 es ≡ Some t.1) each (find_here nat_cmp nat_cmp_total t.0 t.1 ts later (opens_before ts t later each))

      abbrev at : Path → ℕ → Pending
      at p n = record { rec = n; conn = e.0; tx = t.0; path = p }

      its_marks : marks_in t.0 (find nat_cmp e.0 s.conns) ≡ t.1.marks
      its_marks = ap (marks_in t.0) found_conn ∙ ap marks_or_none found_transaction

      no_orphan : (p : Path) (n : ℕ) → is_orphan s (at p n) ≡ false
      no_orphan p n = ap (λ (ms : Marks). is_orphan_in (overlay s.tree ms) p) its_marks ∙ not_orphan (overlay s.tree t.1.marks) holds.over.seen p

      mark_step : (ms : Marks) (m : Path × Mark) (others : Marks) (more : List StreamRecord) → ms ++ m ∷ others ≡ t.1.marks → MarkLeads (ms ++ m ∷ []) others more
          → MarkLeads ms (m ∷ others) (mark_record s.tree e.0 t.0 m.0 m.1 ∷ more)
      mark_step ms m others more place leads =
          let before_it : AreBefore path_cmp m.0 ms = before path_cmp path_total ms m others (subst (λ (es : Marks). is_sorted path_cmp es ≡ true) (sym place) holds.over.rising) in
          let found : mark_at t.1.marks m.0 ≡ Some m.1 = subst (λ (es : Marks). find path_cmp m.0 es ≡ Some m.1) place (find_here path_cmp path_total m.0 m.1 ms others before_it) in
          let spelled : IsSpelled m.0 = (all_at (λ (f : Path × Mark). IsSpelled f.0 × MarkFits f.1) ms m others (subst (λ (es : Marks). AllByRecursion (λ (f : Path × Mark). IsSpelled f.0 × MarkFits f.1) es) (sym place) holds.marks)).0 in
          let tells : IsTold s.tree e.0 t.0 m.0 m.1 = told s.tree e.0 t.0 m.0 m.1 (mark_entries s.tree sound.store.kept.tree t.1.marks holds.over m.0 m.1 found) in
          let so_far : List (Path × Said) = keyed say ms in
          let said_before : AreBefore path_cmp m.0 so_far = before_keyed path_cmp say m.0 ms before_it in
          let open_before : AreBefore nat_cmp t.0 (with_values saying ts) = opens_ahead ts t later each saying in
          step_at s s.tree s.gens (filling (marking (keyed say ms))) (filling (marking (keyed say (ms ++ m ∷ [])))) true (mark_record s.tree e.0 t.0 m.0 m.1) more (at m.0) (no_orphan m.0) (λ n pending.
          loads_mark n (came s.tree s.gens s.globals (filling (marking so_far)) true pending) s.tree e.0 t.0 m.0 m.1 tells fits.positive spelled (conn_with e.1 e.1.watches (marking so_far))
          (find_here nat_cmp nat_cmp_total e.0 (conn_with e.1 e.1.watches (marking so_far)) (with_values (full s.tree) done) (with_values opened todo) (ahead (full s.tree)))
          (marked t.1 so_far) (find_here nat_cmp nat_cmp_total t.0 (marked t.1 so_far) (with_values saying ts) (with_values begun_said later) open_before)
          (find_none path_cmp m.0 so_far said_before)
          ∙ ap (λ (cs : List (ℕ × ConnectionOf Said)). Ok (came s.tree s.gens s.globals cs true (pending ++ at m.0 n ∷ [])))
          (put_here nat_cmp nat_cmp_total e.0 (conn_with e.1 e.1.watches (put nat_cmp t.0 (with_said m.0 (say m) (marked t.1 so_far)) (marking so_far))) (conn_with e.1 e.1.watches (marking so_far))
          (with_values (full s.tree) done) (with_values opened todo) (ahead (full s.tree))
          ∙ ap filling (put_here nat_cmp nat_cmp_total t.0 (with_said m.0 (say m) (marked t.1 so_far)) (marked t.1 so_far) (with_values saying ts) (with_values begun_said later) open_before
          ∙ ap marking (put_last path_cmp m.0 (say m) so_far said_before ∙ sym (one_more say ms m))))) leads

      marks_step : (more : List StreamRecord) → KeptLeads (ts ++ t ∷ []) later more → KeptLeads ts (t ∷ later) (map (λ (m : Path × Mark). mark_record s.tree e.0 t.0 m.0 m.1) t.1.marks ++ more)
      marks_step more leads =
          walk_map MarkLeads (λ (m : Path × Mark). mark_record s.tree e.0 t.0 m.0 m.1) t.1.marks mark_step more
          (subst (λ (os : List (ℕ × TransactionOf Said)). Leads s s.tree s.gens (filling os) true more) (more_done (λ (f : ℕ × TransactionOf Mark). saying f.1) ts t (with_values begun_said later)) leads)

    kept_step : (more : List StreamRecord) → Leads s s.tree s.gens (with_values (full s.tree) (done ++ e ∷ []) ++ with_values opened todo) true more
        → Leads s s.tree s.gens (with_values (full s.tree) done ++ with_values opened (e ∷ todo)) true (mark_records s.tree e.0 e.1 ++ more)
    kept_step more leads =
        walk KeptLeads (λ (t : ℕ × TransactionOf Mark). map (λ (m : Path × Mark). mark_record s.tree e.0 t.0 m.0 m.1) t.1.marks) e.1.opens (λ ts t later rs each. marks_step ts t later each rs) more
        (subst (λ (os : List (ℕ × TransactionOf Said)). Leads s s.tree s.gens (filling os) true more) (sym (append-nil (with_values saying e.1.opens)))
        (subst (λ (cs : List (ℕ × ConnectionOf Said)). Leads s s.tree s.gens cs true more) (more_done (λ (f : ℕ × ConnectionOf Mark). full s.tree f.1) done e (with_values opened todo)) leads))

  -- ALL CONNECTIONS
  pub conns_lead : (more : List StreamRecord) → Leads s new_tree new_generations (with_values bare s.conns) false more → Leads s new_tree new_generations [] false (map (λ (e : ℕ × ConnectionOf Mark). connection_record e.0 e.1) s.conns ++ more)
  conns_lead = walk_map (λ done todo rs. Leads s new_tree new_generations (with_values bare done) false rs) (λ (e : ℕ × ConnectionOf Mark). connection_record e.0 e.1) s.conns (λ done e todo rs is. conn_step done e todo is rs)

  -- a phase over all of them, from what the phase before it left
  pub watches_lead : (more : List StreamRecord) → Leads s new_tree new_generations (with_values watched s.conns) false more
      → Leads s new_tree new_generations (with_values bare s.conns) false (flat_map (λ (e : ℕ × ConnectionOf Mark). watch_records e.0 e.1) s.conns ++ more)
  watches_lead more leads =
      walk (λ done todo rs. Leads s new_tree new_generations (with_values watched done ++ with_values bare todo) false rs) (λ (e : ℕ × ConnectionOf Mark). watch_records e.0 e.1) s.conns (λ done e todo rs is. watches_step done e todo is rs) more
      (subst (λ (cs : List (ℕ × ConnectionOf Said)). Leads s new_tree new_generations cs false more) (sym (append-nil (with_values watched s.conns))) leads)

  pub transactions_lead : (more : List StreamRecord) → Leads s new_tree new_generations (with_values opened s.conns) false more
      → Leads s new_tree new_generations (with_values watched s.conns) false (flat_map (λ (e : ℕ × ConnectionOf Mark). transaction_records e.0 e.1) s.conns ++ more)
  transactions_lead more leads =
      walk (λ done todo rs. Leads s new_tree new_generations (with_values opened done ++ with_values watched todo) false rs) (λ (e : ℕ × ConnectionOf Mark). transaction_records e.0 e.1) s.conns (λ done e todo rs is. transactions_step done e todo is rs) more
      (subst (λ (cs : List (ℕ × ConnectionOf Said)). Leads s new_tree new_generations cs false more) (sym (append-nil (with_values opened s.conns))) leads)

  pub kept_lead : (more : List StreamRecord) → Leads s s.tree s.gens (with_values (full s.tree) s.conns) true more
      → Leads s s.tree s.gens (with_values opened s.conns) true (flat_map (λ (e : ℕ × ConnectionOf Mark). mark_records s.tree e.0 e.1) s.conns ++ more)
  kept_lead more leads =
      walk (λ done todo rs. Leads s s.tree s.gens (with_values (full s.tree) done ++ with_values opened todo) true rs) (λ (e : ℕ × ConnectionOf Mark). mark_records s.tree e.0 e.1) s.conns (λ done e todo rs is. kept_step done e todo is rs) more
      (subst (λ (cs : List (ℕ × ConnectionOf Said)). Leads s s.tree s.gens cs true more) (sym (append-nil (with_values (full s.tree) s.conns))) leads)
