-- The ring connection that came or went, told of the connections without their transactions.
use Rattle.std.proofs.Common.{◌≡◌, ℕ, ◌==◌, Bool, true, false, cond, not, List, [], ◌∷◌, map, Option, Some, None, is_some, refl, sym, ap, ◌∙◌, eqb-true, eq-eqb}
use Rattle.std.specs.Option.{option_map}
use Rattle.std.specs.Ordering.{nat_cmp, eq_by_cmp}
use Rattle.std.specs.Cmp.{unsigned_tied}
use Rattle.std.specs.FinMap.{find, put, nat_cmp-IsAntisymmetric}
use Rattle.std.specs.FinMap.Entries.{where_key, find-where_key}
use Rattle.xs_model.proofs.Maps.{from_Some, not_Some, not_both, found_map}
use Rattle.machine_model.specs.declared.ConnSpec.{ConnSpec}
use Rattle.machine_model.specs.declared.ConnSpec.TheVariants.{Ring}
use Rattle.machine_model.specs.Connections.{Connection, Connections, fresh, is_ring_of, ring_of}
use Rattle.mark_model.specs.Stores.{without_transactions}
use Rattle.daemon.specs.declared.answer.Door.{Door}
use Rattle.daemon.specs.declared.answer.Door.TheVariants.{Same, Opened, Closed}
use Rattle.daemon.specs.Acts.{Opens, Closes, IsDoor}
use Rattle.conn_rows.proofs.IdEntries.{put_map, keys_map, same_there, found_at, found_itself}
use Rattle.daemon.proofs.ShapeLemmas.{Shape, Stays, Comes, Goes}

abbrev pub bares : Connections → Connections
bares conns = map (λ e. (e.0, without_transactions e.1)) conns

-- a ring is there
pub bare_ring : (d : ℕ) (conns : Connections) → ring_of d (bares conns) ≡ ring_of d conns
bare_ring d [] = refl
bare_ring d (e ∷ conns) = ap (cond (is_ring_of d e.1.spec) (Some e.0)) (bare_ring d conns)

ring_is_there : (d id : ℕ) (conns : Connections) → ring_of d conns ≡ Some id → is_some (find nat_cmp id conns) ≡ true
ring_is_there d id [] h = not_Some h
ring_is_there d id (e ∷ conns) h = by (is_ring_of d e.1.spec) (λ g. ring_is_there d id conns g) h
  where
    later : (b : Bool) → is_some (find nat_cmp id conns) ≡ true → is_some (cond b (Some e.1) (find nat_cmp id conns)) ≡ true
    later true k = refl
    later false k = k

    by : (b : Bool) → (ring_of d conns ≡ Some id → is_some (find nat_cmp id conns) ≡ true) → cond b (Some e.0) (ring_of d conns) ≡ Some id → is_some (find nat_cmp id (e ∷ conns)) ≡ true
    by true rest g =
        ap (λ b. is_some (cond b (Some e.1) (find nat_cmp id conns))) (unsigned_tied id e.0 ∙ eq-eqb id e.0 (sym (from_Some g)))
    by false rest g = later (eq_by_cmp nat_cmp id e.0) (rest g)

-- what is found
found_bare : (c : ℕ) (conns : Connections) → find nat_cmp c (bares conns) ≡ option_map without_transactions (find nat_cmp c conns)
found_bare c conns = found_map nat_cmp without_transactions c conns

there_bare : (c : ℕ) (conns : Connections) → is_some (find nat_cmp c (bares conns)) ≡ is_some (find nat_cmp c conns)
there_bare c conns = same_there (bares conns) conns (keys_map without_transactions conns) c

none_bare : (o : Option Connection) → option_map without_transactions o ≡ None → o ≡ None
none_bare None h = refl
none_bare (Some conn) h = cc

found_where : {X : Type 0} (c id : ℕ) (es : List (ℕ × X)) → find nat_cmp c (where_key nat_cmp (λ d. not (id == d)) es) ≡ cond (not (id == c)) (find nat_cmp c es) None
found_where c id es = find-where_key nat_cmp (λ d. not (id == d)) c (λ x t. ap (λ k. not (id == k)) (sym (nat_cmp-IsAntisymmetric c x t))) es

module _ (before after : Connections) (shape : Shape before after) where
  -- ONE CAME
  module _ (d : ℕ) (o : Opens d (bares before) (bares after)) where
    abbrev ring : Connection
    ring = fresh (Ring d None o.evtchn)

    free : find nat_cmp o.conn before ≡ None
    free = none_bare (find nat_cmp o.conn before) (sym (found_bare o.conn before) ∙ o.free)

    came : find nat_cmp o.conn (bares after) ≡ Some ring
    came = ap (find nat_cmp o.conn) o.made ∙ found_itself o.conn ring (bares before)

    came_there : is_some (find nat_cmp o.conn after) ≡ true
    came_there = sym (there_bare o.conn after) ∙ ap is_some came

    -- what came is this one
    this_came : (id : ℕ) (spec : ConnSpec) → after ≡ put nat_cmp id (fresh spec) before → (b : Bool) → (o.conn == id) ≡ b → after ≡ put nat_cmp o.conn ring before
    this_came id spec is true e =
        let one : Some (fresh spec) ≡ Some ring =
        sym (ap (find nat_cmp o.conn) (ap bares is ∙ put_map without_transactions id (fresh spec) before)
        ∙ found_at o.conn id (fresh spec) (bares before) ∙ ap (λ b. cond b (Some (fresh spec)) (find nat_cmp o.conn (bares before))) e) ∙ came
        in
        is ∙ (λ i. put nat_cmp (sym (eqb-true o.conn id e) i) (from_Some one i) before)
    this_came id spec is false e =
        not_Some (sym o.free ∙ sym (ap (find nat_cmp o.conn) (ap bares is ∙ put_map without_transactions id (fresh spec) before)
        ∙ found_at o.conn id (fresh spec) (bares before) ∙ ap (λ b. cond b (Some (fresh spec)) (find nat_cmp o.conn (bares before))) e) ∙ came)

    gone_none : (b : Bool) → is_some (cond b (find nat_cmp o.conn before) None) ≡ false
    gone_none true = ap is_some free
    gone_none false = refl

    made_by : Shape before after → after ≡ put nat_cmp o.conn ring before
    made_by (Stays same) = not_both came_there (same_there after before same o.conn ∙ ap is_some free)
    made_by (Comes id spec nowhere is) = this_came id spec is (o.conn == id) refl
    made_by (Goes id is) = not_both came_there (ap is_some (ap (find nat_cmp o.conn) is ∙ found_where o.conn id before) ∙ gone_none (not (id == o.conn)))

    opened : Opens d before after
    opened = record { conn = o.conn; evtchn = o.evtchn; none = sym (bare_ring d before) ∙ o.none; free = free; made = made_by shape }

  -- ONE WENT
  module _ (d : ℕ) (o : Closes d (bares before) (bares after)) where
    was : ring_of d before ≡ Some o.conn
    was = sym (bare_ring d before) ∙ o.was

    here : is_some (find nat_cmp o.conn before) ≡ true
    here = ring_is_there d o.conn before was

    gone : is_some (find nat_cmp o.conn after) ≡ false
    gone =
        sym (there_bare o.conn after)
        ∙ ap is_some (
        ap (find nat_cmp o.conn) o.removed ∙ found_where o.conn o.conn (bares before)
        ∙ ap (λ b. cond (not b) (find nat_cmp o.conn (bares before)) None) (eq-eqb o.conn o.conn refl))

    still : (b : Bool) (conn : Connection) → is_some (cond b (Some conn) (find nat_cmp o.conn before)) ≡ true
    still true conn = refl
    still false conn = here

    -- what went is this one
    this_went : (id : ℕ) → after ≡ where_key nat_cmp (λ k. not (id == k)) before → (b : Bool) → (id == o.conn) ≡ b → after ≡ where_key nat_cmp (λ k. not (o.conn == k)) before
    this_went id is true e = is ∙ ap (λ j. where_key nat_cmp (λ k. not (j == k)) before) (eqb-true id o.conn e)
    this_went id is false e =
        not_both (ap is_some (ap (find nat_cmp o.conn) is ∙ found_where o.conn id before) ∙ ap (λ b. is_some (cond (not b) (find nat_cmp o.conn before) None)) e ∙ here) gone

    removed_by : Shape before after → after ≡ where_key nat_cmp (λ k. not (o.conn == k)) before
    removed_by (Stays same) = not_both (same_there after before same o.conn ∙ here) gone
    removed_by (Comes id spec nowhere is) =
        not_both (ap is_some (ap (find nat_cmp o.conn) is ∙ found_at o.conn id (fresh spec) before) ∙ still (o.conn == id) (fresh spec)) gone
    removed_by (Goes id is) = this_went id is (id == o.conn) refl

    closed : Closes d before after
    closed = record { conn = o.conn; was = was; removed = removed_by shape }

  pub door_of_bare : (told : Door) → IsDoor (bares before) (bares after) told → IsDoor before after told
  door_of_bare Same h = sym (keys_map without_transactions after) ∙ h ∙ keys_map without_transactions before
  door_of_bare (Opened d) h = opened d h
  door_of_bare (Closed d) h = closed d h
