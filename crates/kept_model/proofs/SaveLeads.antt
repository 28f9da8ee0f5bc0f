-- Where the records of a state lead to, from what came so far: the rest of them tells the state.
use Rattle.std.specs.Prelude.{◌≡◌, ℕ, ◌+◌, Bool, true, false, cond, List, [], ◌∷◌, ◌++◌, Result, Ok, Err}
use Rattle.std.specs.List.{AllByRecursion}
use Rattle.std.proofs.Common.{sym, refl, ap, subst, ◌∙◌}
use Rattle.xs_model.specs.Trees.{Tree}
use Rattle.xs_model.specs.Generations.{Generations}
use Rattle.machine_model.proofs.Lists.{all_append}
use Rattle.stream_model.specs.Record.{StreamRecord, end_record}
use Rattle.kept_model.specs.declared.fault.LoadFault.{LoadFault}
use Rattle.kept_model.specs.declared.fault.LoadFault.TheVariants.{Orphan}
use Rattle.machine_model.specs.declared.Globals.{Globals}
use Rattle.kept_model.specs.States.{State, ConnectionOf}
use Rattle.kept_model.specs.Said.{Said}
use Rattle.kept_model.specs.Loading.{Pending, Loading, load_record, load_from, ◌>>=◌}
use Rattle.kept_model.specs.Normal.{normal_state, is_orphan, unless_orphans}

-- what came, once the record of the whole store has come
abbrev pub came : Tree → Generations → Globals → List (ℕ × ConnectionOf Said) → Bool → List Pending → Loading
came tree gens globals conns root pending = record {
  state = record { tree = tree; gens = gens; globals = globals; conns = conns };
  has_globals = true;
  has_root = root;
  pending = pending;
}

module _ (s : State) where
  -- what was loaded is the state
  abbrev pub Tells : Result Loading LoadFault → Type 0
  Tells r = (r >>= (λ l. unless_orphans l.pending (normal_state l.state))) ≡ Ok s

  abbrev pub AreGood : List Pending → Type 0
  AreGood pending = AllByRecursion (λ p. is_orphan s p ≡ false) pending

  -- from such a store, whatever the number of the next record, the records tell the state
  abbrev pub Leads : Tree → Generations → List (ℕ × ConnectionOf Said) → Bool → List StreamRecord → Type 0
  Leads tree gens conns root rs = (n : ℕ) (pending : List Pending) → AreGood pending → Tells (load_from n (came tree gens s.globals conns root pending) rs)

  -- one record
  pub step : (tree after : Tree) (gens numbers : Generations) (conns new : List (ℕ × ConnectionOf Said)) (root rooted : Bool) (r : StreamRecord) (more : List StreamRecord)
      → ((n : ℕ) (pending : List Pending) → load_record n (came tree gens s.globals conns root pending) r ≡ Ok (came after numbers s.globals new rooted pending))
      → Leads after numbers new rooted more → Leads tree gens conns root (r ∷ more)
  step tree after gens numbers conns new root rooted r more loads leads n pending good =
      subst (λ (x : Result Loading LoadFault). Tells (x >>= (λ l. load_from (n + 1) l more))) (sym (loads n pending)) (leads (n + 1) pending good)

  -- one record of a path that is no orphan
  pub step_at : (tree : Tree) (gens : Generations) (conns new : List (ℕ × ConnectionOf Said)) (root : Bool) (r : StreamRecord) (more : List StreamRecord) (at : ℕ → Pending)
      → ((n : ℕ) → is_orphan s (at n) ≡ false)
      → ((n : ℕ) (pending : List Pending) → load_record n (came tree gens s.globals conns root pending) r ≡ Ok (came tree gens s.globals new root (pending ++ at n ∷ [])))
      → Leads tree gens new root more → Leads tree gens conns root (r ∷ more)
  step_at tree gens conns new root r more at none loads leads n pending good =
      subst (λ (x : Result Loading LoadFault). Tells (x >>= (λ l. load_from (n + 1) l more))) (sym (loads n pending))
      (leads (n + 1) (pending ++ at n ∷ []) (all_append (λ p. is_orphan s p ≡ false) pending (at n ∷ []) good (none n, tt)))

  -- THE END
  no_orphans : (pending : List Pending) → AreGood pending → unless_orphans pending s ≡ Ok s
  no_orphans [] h = refl
  no_orphans (p ∷ pending) h = ap (λ b. cond b (Err (Orphan p.rec)) (unless_orphans pending s)) h.0 ∙ no_orphans pending h.1

  pub ends : (conns : List (ℕ × ConnectionOf Said)) → normal_state (record { tree = s.tree; gens = s.gens; globals = s.globals; conns = conns }) ≡ s → Leads s.tree s.gens conns true (end_record ∷ [])
  ends conns same n pending good = ap (unless_orphans pending) same ∙ no_orphans pending good
