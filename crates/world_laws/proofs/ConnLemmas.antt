-- Which domain a connection is the ring of.
use Rattle.std.specs.Prelude.{◌≡◌, ℕ, true, false, cond, [], ◌∷◌, Option, Some, None, is_some, option_map}
use Rattle.std.specs.List.{AllByRecursion}
use Rattle.std.specs.Ordering.{nat_cmp, eq_by_cmp}
use Rattle.std.specs.FinMap.{find, is_sorted}
use Rattle.std.proofs.Common.{sym, refl, ap, subst, ◌∙◌, inl, inr, eqb-true, eq-eqb}
use Rattle.xs_model.proofs.Maps.{not_both, not_Some, from_Some}
use Rattle.machine_model.specs.declared.ConnSpec.{ConnSpec}
use Rattle.machine_model.specs.declared.ConnSpec.TheVariants.{Ring, Socket}
use Rattle.machine_model.specs.Connections.{Connection, Connections, is_ring_of, ring_of}
use Rattle.world_model.specs.Worlds.{ring_domid}
use Rattle.world_laws.specs.Laws.{HasOneRingEach}
use Rattle.world_laws.proofs.EntryLemmas.{cases_option, value_of, mapped_some, each_is_itself}

-- a connection that is there, and its domid where it is a ring
abbrev pub ends : Connections → ℕ → Option (Option ℕ)
ends conns c = option_map (λ conn. ring_domid conn.spec) (find nat_cmp c conns)

is_ring_domid : (d : ℕ) (spec : ConnSpec) → is_ring_of d spec ≡ true → ring_domid spec ≡ Some d
is_ring_domid d (Ring domid target evtchn) h = ap Some (sym (eqb-true d domid h))
is_ring_domid d (Socket fd) h = not_both h refl

domid_is_ring : (d : ℕ) (spec : ConnSpec) → ring_domid spec ≡ Some d → is_ring_of d spec ≡ true
domid_is_ring d (Ring domid target evtchn) h = eq-eqb d domid (sym (from_Some h))
domid_is_ring d (Socket fd) h = not_Some h

abbrev pub OneRingEach : Connections → Type 0
OneRingEach conns = (c b d : ℕ) → ends conns c ≡ Some (Some d) → ends conns b ≡ Some (Some d) → c ≡ b

pub one_ring_each : (conns : Connections) → HasOneRingEach conns → OneRingEach conns
one_ring_each conns h c b d e f =
    let x = mapped_some (λ (conn : Connection). ring_domid conn.spec) (find nat_cmp c conns) (Some d) e in
    let y = mapped_some (λ (conn : Connection). ring_domid conn.spec) (find nat_cmp b conns) (Some d) f in
    from_Some (sym (h c d x.0 x.1 (domid_is_ring d x.0.spec (from_Some x.2))) ∙ h b d y.0 y.1 (domid_is_ring d y.0.spec (from_Some y.2)))

ring_among : (conns es : Connections) → AllByRecursion (λ (e : ℕ × Connection). find nat_cmp e.0 conns ≡ Some e.1) es → (d c : ℕ) → ring_of d es ≡ Some c → ends conns c ≡ Some (Some d)
ring_among conns [] h d c = λ e. not_Some e
ring_among conns (f ∷ es) h d c =
    elim (is_ring_of d f.1.spec) as (λ b. is_ring_of d f.1.spec ≡ b → cond b (Some f.0) (ring_of d es) ≡ Some c → ends conns c ≡ Some (Some d)) [
      | true ↦ λ t e. subst (λ k. ends conns k ≡ Some (Some d)) (from_Some e) (ap (option_map (λ (conn : Connection). ring_domid conn.spec)) h.0 ∙ ap Some (is_ring_domid d f.1.spec t))
      | false ↦ λ t e. ring_among conns es h.1 d c e
    ] refl

-- the ring of a domain is a connection that is there
pub ring_ends : (conns : Connections) → is_sorted nat_cmp conns ≡ true → (d c : ℕ) → ring_of d conns ≡ Some c → ends conns c ≡ Some (Some d)
ring_ends conns rising d c e = ring_among conns conns (each_is_itself conns rising) d c e

pub ends_ring : (conns : Connections) (c d : ℕ) → ends conns c ≡ Some (Some d) → is_some (ring_of d conns) ≡ true
ends_ring [] c d = λ e. not_Some e
ends_ring (f ∷ es) c d =
    elim (eq_by_cmp nat_cmp c f.0) as (λ b. option_map (λ (conn : Connection). ring_domid conn.spec) (cond b (Some f.1) (find nat_cmp c es)) ≡ Some (Some d) → is_some (ring_of d (f ∷ es)) ≡ true) [
      | true ↦ λ e. ap (λ b. is_some (cond b (Some f.0) (ring_of d es))) (domid_is_ring d f.1.spec (from_Some e))
      | false ↦ λ e. elim (is_ring_of d f.1.spec) as (λ b. is_some (cond b (Some f.0) (ring_of d es)) ≡ true) [ true ↦ refl | false ↦ ends_ring es c d e ]
    ]

module _ (conns : Connections) (rising : is_sorted nat_cmp conns ≡ true) where
  pub ring_is : OneRingEach conns → (c d : ℕ) → ends conns c ≡ Some (Some d) → ring_of d conns ≡ Some c
  ring_is one c d e =
      let r = value_of (ring_of d conns) (ends_ring conns c d e) in
      r.1 ∙ ap Some (one r.0 c d (ring_ends conns rising d r.0 r.1) e)

  pub no_ring : {A : Type 0} (c d : ℕ) → ring_of d conns ≡ None → ends conns c ≡ Some (Some d) → A
  no_ring c d n e = not_both (ends_ring conns c d e) (ap is_some n)

  pub ring_none : (d : ℕ) → ((c : ℕ) → ends conns c ≡ Some (Some d) → ⊥) → ring_of d conns ≡ None
  ring_none d none = elim (cases_option (ring_of d conns)) [
    | inl r ↦ absurd (none r.0 (ring_ends conns rising d r.0 r.1))
    | inr n ↦ n
  ]

pub ends_of_ring : (conns : Connections) (c d : ℕ) (conn : Connection) → find nat_cmp c conns ≡ Some conn → is_ring_of d conn.spec ≡ true → ends conns c ≡ Some (Some d)
ends_of_ring conns c d conn e r = ap (option_map (λ (x : Connection). ring_domid x.spec)) e ∙ ap Some (is_ring_domid d conn.spec r)

pub has_one_ring_each : (conns : Connections) → is_sorted nat_cmp conns ≡ true → OneRingEach conns → HasOneRingEach conns
has_one_ring_each conns rising one c d conn e r = ring_is conns rising one c d (ends_of_ring conns c d conn e r)
