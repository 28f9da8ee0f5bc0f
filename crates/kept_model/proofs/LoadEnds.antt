-- The ends of connections: how many there are of a kind once a record of a connection loads.
use Rattle.std.specs.Prelude.{◌≡◌, ℕ, ◌+◌, ◌<◌, ◌≤◌, ◌==◌, Bool, true, false, cond, not, ◌||◌, List, [], ◌∷◌, Option, Some, None, is_some}
use Rattle.std.specs.Option.{option_map}
use Rattle.std.specs.List.{list_any}
use Rattle.std.specs.Ordering.{nat_cmp}
use Rattle.std.specs.FinMap.{find, put, is_sorted}
use Rattle.std.proofs.Common.{sym, refl, ap, subst, ◌∙◌, arith, eqb-true, leb-false, pos_of_ne-zero}
use Rattle.std.proofs.lemmas.Bool.{eqb-false, or_parts, not-false}
use Rattle.xs_model.proofs.Maps.{sorted_map, found_map}
use Rattle.machine_model.specs.declared.ConnSpec.{ConnSpec}
use Rattle.machine_model.specs.declared.ConnSpec.TheVariants.{Ring, Socket}
use Rattle.machine_model.specs.Connections.{is_ring_of}
use Rattle.mark_model.proofs.StoreMaps.{with_values, put_values, put_found}
use Rattle.kept_model.specs.States.{ConnectionOf}
use Rattle.kept_model.specs.Said.{Said}
use Rattle.kept_model.specs.Loading.{is_end_of, count_sockets, is_one_too_many}
use Rattle.kept_model.specs.Sound.{is_socket}
use Rattle.kept_model.proofs.LoadMaps.{counted, counted_first, counted_new}
use Rattle.xs_model.proofs.Maps.{not_both}

-- THE ENDS of connections
abbrev pub end_in : ConnectionOf Said → ConnSpec
end_in conn = conn.spec

abbrev pub ends_of : List (ℕ × ConnectionOf Said) → List (ℕ × ConnSpec)
ends_of conns = with_values end_in conns

module _ (c : ℕ) (conns : List (ℕ × ConnectionOf Said)) where
  -- a connection that is there has the same end afterwards
  pub ends_kept : (old new : ConnectionOf Said) → is_sorted nat_cmp conns ≡ true → find nat_cmp c conns ≡ Some old → new.spec ≡ old.spec → ends_of (put nat_cmp c new conns) ≡ ends_of conns
  ends_kept old new rising found same =
      sym (put_values nat_cmp end_in c new conns)
      ∙ ap (λ spec. put nat_cmp c spec (ends_of conns)) same
      ∙ put_found c old.spec (ends_of conns) (sorted_map nat_cmp end_in conns ∙ rising) (found_map nat_cmp end_in c conns ∙ ap (option_map end_in) found)

  -- and a new one is one more
  pub ends_more : (test : ConnSpec → Bool) (new : ConnectionOf Said) → find nat_cmp c conns ≡ None → counted test (ends_of (put nat_cmp c new conns)) ≡ cond (test new.spec) 1 0 + counted test (ends_of conns)
  ends_more test new free =
      ap (counted test) (sym (put_values nat_cmp end_in c new conns))
      ∙ counted_new test nat_cmp c new.spec (ends_of conns) (found_map nat_cmp end_in c conns ∙ ap (option_map end_in) free)

none_rings : (d : ℕ) (conns : List (ℕ × ConnectionOf Said)) → list_any (λ e. is_ring_of d e.1.spec) conns ≡ false → counted (is_ring_of d) (ends_of conns) ≡ 0
none_rings d [] h = refl
none_rings d (e ∷ conns) h =
    let parts = or_parts (is_ring_of d e.1.spec) (list_any (λ e. is_ring_of d e.1.spec) conns) h in
    counted_first (is_ring_of d) (e.0, e.1.spec) (ends_of conns) ∙ (λ i. cond (parts.0 i) 1 0 + none_rings d conns parts.1 i)

-- one ring of a domain at the most
pub ring_more : (spec : ConnSpec) (conns : List (ℕ × ConnectionOf Said)) → list_any (λ e. is_end_of spec e.1.spec) conns ≡ false → ((d : ℕ) → counted (is_ring_of d) (ends_of conns) ≤ 1)
    → (d : ℕ) → cond (is_ring_of d spec) 1 0 + counted (is_ring_of d) (ends_of conns) ≤ 1
ring_more (Socket fd) conns none most d = let h = most d in omega (arith, h)
ring_more (Ring domid target evtchn) conns none most d =
    (elim (d == domid) as (λ b. (d == domid) ≡ b → cond b 1 0 + counted (is_ring_of d) (ends_of conns) ≤ 1) [
      | true ↦ λ t. let zero_rings : counted (is_ring_of d) (ends_of conns) ≡ 0 = subst (λ k. counted (is_ring_of k) (ends_of conns) ≡ 0) (sym (eqb-true d domid t)) (none_rings domid conns none) in omega (arith, zero_rings)
      | false ↦ λ t. let h = most d in omega (arith, h)
    ]) refl

one_more : (b : Bool) (m n : ℕ) → m ≡ n → cond b (1 + m) m ≡ cond b 1 0 + n
one_more true m n e = omega arith
one_more false m n e = omega arith

sockets_counted : (conns : List (ℕ × ConnectionOf Said)) → count_sockets conns ≡ counted is_socket (ends_of conns)
sockets_counted [] = refl
sockets_counted (e ∷ conns) =
    one_more (is_socket e.1.spec) (count_sockets conns) (counted is_socket (ends_of conns)) (sockets_counted conns)
    ∙ sym (counted_first is_socket (e.0, e.1.spec) (ends_of conns))

pub socket_more : (spec : ConnSpec) (conns : List (ℕ × ConnectionOf Said)) → is_one_too_many spec conns ≡ false → counted is_socket (ends_of conns) ≤ 65536 → cond (is_socket spec) 1 0 + counted is_socket (ends_of conns) ≤ 65536
socket_more (Ring domid target evtchn) conns h most = omega (arith, most)
socket_more (Socket fd) conns h most = let few : count_sockets conns < 65536 = leb-false 65536 (count_sockets conns) h in omega (arith, few, sockets_counted conns)

pub positive : (n : ℕ) → (n == 0) ≡ false → 1 ≤ n
positive n h = pos_of_ne-zero (eqb-false n 0 h)

pub none_found : {A : Type 0} (o : Option A) → is_some o ≡ false → o ≡ None
none_found None h = refl
none_found (Some x) h = not_both refl h

pub either_not : (a b : Bool) → (a || not b) ≡ false → (a ≡ false) × (b ≡ true)
either_not a b h = let parts = or_parts a (not b) h in (parts.0, not-false b parts.1)
