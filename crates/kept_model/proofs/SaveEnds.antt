-- The ends of connections: a domain has one ring, and there are not too many sockets. And a watch is not among those
-- before it.
use Rattle.std.specs.Prelude.{◌≡◌, ℕ, ◌+◌, ◌≤◌, Bool, true, false, cond, ◌&&◌, ◌||◌, List, [], ◌∷◌, ◌++◌, length, filter, nat_le}
use Rattle.std.specs.List.{list_any}
use Rattle.std.specs.Cmp.Lexicographic.{nat_list_eq_equiv}
use Rattle.std.proofs.Common.{sym, refl, ap, subst, ◌∙◌, arith}
use Rattle.std.proofs.lemmas.Bool.{or_parts, or_from, lt-leb, eq-eqb}
use Rattle.xs_model.specs.Requests.{is_watch_path, is_token}
use Rattle.xs_model.specs.Watches.{Watch, same_watch}
use Rattle.machine_model.specs.declared.ConnSpec.{ConnSpec}
use Rattle.machine_model.specs.declared.ConnSpec.TheVariants.{Ring, Socket}
use Rattle.machine_model.specs.Connections.{is_ring_of}
use Rattle.mark_model.specs.Marks.{Mark}
use Rattle.mark_model.proofs.StoreMaps.{with_values}
use Rattle.kept_model.specs.States.{ConnectionOf, connection_in}
use Rattle.kept_model.specs.Said.{Said}
use Rattle.kept_model.specs.Sound.{is_socket, count_ends, AreWatches, has_nul}
use Rattle.kept_model.specs.Loading.{is_end_of, count_sockets, is_one_too_many}
use Rattle.kept_model.proofs.SaveLoads.{conn_with}

-- a connection as its own record tells it
abbrev pub bare : ConnectionOf Mark → ConnectionOf Said
bare conn = conn_with conn [] []

abbrev pub ends : (ConnSpec → Bool) → List (ℕ × ConnectionOf Mark) → ℕ
ends test es = count_ends test (with_values connection_in es)

-- COUNTS
counted : {X : Type 0} (b : Bool) (x y : X) (xs ys : List X) → length xs + 1 ≤ length ys → length (cond b (x ∷ xs) xs) + 1 ≤ length (cond b (y ∷ ys) ys)
counted true x y xs ys h = omega arith
counted false x y xs ys h = h

ends_before : (test : ConnSpec → Bool) (done : List (ℕ × ConnectionOf Mark)) (e : ℕ × ConnectionOf Mark) (todo : List (ℕ × ConnectionOf Mark)) → test e.1.spec ≡ true → ends test done + 1 ≤ ends test (done ++ e ∷ todo)
ends_before test [] e todo t =
    let rest = filter (λ f. test f.1.spec) (with_values connection_in todo) in
    subst (λ b. 0 + 1 ≤ length (cond b ((e.0, connection_in e.1) ∷ rest) rest)) (sym t) (omega arith)
ends_before test (d ∷ done) e todo t =
    counted (test d.1.spec) (d.0, connection_in d.1) (d.0, connection_in d.1)
    (filter (λ f. test f.1.spec) (with_values connection_in done)) (filter (λ f. test f.1.spec) (with_values connection_in (done ++ e ∷ todo))) (ends_before test done e todo t)

no_ends : (test : ConnSpec → Bool) (es : List (ℕ × ConnectionOf Mark)) → ends test es ≡ 0 → list_any (λ f. test f.1.spec) (with_values bare es) ≡ false
no_ends test [] h = refl
no_ends test (e ∷ es) h =
    let rest = filter (λ f. test f.1.spec) (with_values connection_in es) in
    elim (test e.1.spec) as (λ b. length (cond b ((e.0, connection_in e.1) ∷ rest) rest) ≡ 0 → (b || list_any (λ f. test f.1.spec) (with_values bare es)) ≡ false) [
      | true ↦ λ g. absurd (omega arith)
      | false ↦ λ g. no_ends test es g
    ] h

sockets_counted : (es : List (ℕ × ConnectionOf Mark)) → count_sockets (with_values bare es) ≡ ends is_socket es
sockets_counted [] = refl
sockets_counted (e ∷ es) =
    let rest = filter (λ f. is_socket f.1.spec) (with_values connection_in es) in
    let same = sockets_counted es in
    elim (is_socket e.1.spec) as (λ b. cond b (1 + count_sockets (with_values bare es)) (count_sockets (with_values bare es)) ≡ length (cond b ((e.0, connection_in e.1) ∷ rest) rest)) [
      | true ↦ omega (arith, same)
      | false ↦ same
    ]

sockets_never : (fd : ℕ) (es : List (ℕ × ConnectionOf Said)) → list_any (λ f. is_end_of (Socket fd) f.1.spec) es ≡ false
sockets_never fd [] = refl
sockets_never fd (e ∷ es) = sockets_never fd es

module _ (done : List (ℕ × ConnectionOf Mark)) (e : ℕ × ConnectionOf Mark) (todo : List (ℕ × ConnectionOf Mark)) where
  apart_by : ((domid : ℕ) → ends (is_ring_of domid) (done ++ e ∷ todo) ≤ 1) → (spec : ConnSpec) → e.1.spec ≡ spec → list_any (λ f. is_end_of spec f.1.spec) (with_values bare done) ≡ false
  apart_by rings (Ring domid target evtchn) is =
      let more = ends_before (is_ring_of domid) done e todo (ap (is_ring_of domid) is ∙ eq-eqb domid domid refl) in
      let most = rings domid in
      let none : ends (is_ring_of domid) done ≡ 0 = omega arith in
      no_ends (is_ring_of domid) done none
  apart_by rings (Socket fd) is = sockets_never fd (with_values bare done)

  pub apart : ((domid : ℕ) → ends (is_ring_of domid) (done ++ e ∷ todo) ≤ 1) → list_any (λ f. is_end_of e.1.spec f.1.spec) (with_values bare done) ≡ false
  apart rings = apart_by rings e.1.spec refl

  few_by : ends is_socket (done ++ e ∷ todo) ≤ 65536 → (b : Bool) → is_socket e.1.spec ≡ b → (b && nat_le 65536 (count_sockets (with_values bare done))) ≡ false
  few_by most true t =
      let more = ends_before is_socket done e todo t in
      lt-leb 65536 (count_sockets (with_values bare done)) (omega (arith, sockets_counted done))
  few_by most false t = refl

  pub few_sockets : ends is_socket (done ++ e ∷ todo) ≤ 65536 → is_one_too_many e.1.spec (with_values bare done) ≡ false
  few_sockets most = few_by most (is_socket e.1.spec) refl

-- WATCHES
any_at : {X : Type 0} (test : X → Bool) (done : List X) (x : X) (todo : List X) → list_any test (done ++ x ∷ todo) ≡ false → test x ≡ false
any_at test [] x todo h = (or_parts (test x) (list_any test todo) h).0
any_at test (y ∷ done) x todo h = any_at test done x todo (or_parts (test y) (list_any test (done ++ x ∷ todo)) h).1

watch_turned : (v w : Watch) → same_watch v w ≡ same_watch w v
watch_turned v w = λ i. nat_list_eq_equiv.symm v.wpath w.wpath i && nat_list_eq_equiv.symm v.token w.token i

-- what holds of a watch, and of those before it
pub record WatchFits (domid : ℕ) (done : List Watch) (w : Watch) : Type 0 where
  pub path : is_watch_path w.wpath domid ≡ true
  pub token : is_token w.token ≡ true
  pub text : has_nul w.token ≡ false
  pub new : list_any (same_watch w) done ≡ false

pub watch_at : (domid : ℕ) (done : List Watch) (w : Watch) (todo : List Watch) → AreWatches domid (done ++ w ∷ todo) → WatchFits domid done w
watch_at domid [] w todo h = record { path = h.0; token = h.1; text = h.2; new = refl }
watch_at domid (v ∷ done) w todo h =
    let later = watch_at domid done w todo h.4 in
    record {
      path = later.path;
      token = later.token;
      text = later.text;
      new = or_from (same_watch w v) (list_any (same_watch w) done) (watch_turned w v ∙ any_at (same_watch v) done w todo h.3) later.new;
    }
