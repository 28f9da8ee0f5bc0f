-- A table has at most one ring a domid: rings are counted by their domids.
use Rattle.std.proofs.Common.{◌≡◌, ℕ, zero, suc, ◌+◌, ◌<◌, ◌≤◌, ◌==◌, Bool, true, false, cond, not, [], ◌∷◌, length, nat_lt, Some, None, IfSome, refl, ap, ◌∙◌, arith}
use Rattle.std.specs.List.{AllByRecursion}
use Rattle.std.proofs.lemmas.Bool.Decides.{nat_tests}
use Rattle.machine_model.specs.declared.ConnSpec.{ConnSpec}
use Rattle.machine_model.specs.declared.ConnSpec.TheVariants.{Ring, Socket}
use Rattle.machine_model.specs.Connections.{is_ring_of}
use Rattle.conn_table.specs.Tables.{Specs, ring_id, ring_domid, has_its_ring, has_distinct_rings, count_sockets, IsDomain}
use Rattle.conn_table.specs.Laws.{TablesAreSmall}
use Rattle.conn_table.proofs.RingLemmas.{both, is_not, none_like}

-- how many rings are of one domain
abbrev of_domid : ℕ → Specs → ℕ
of_domid d [] = 0
of_domid d (e ∷ es) = cond (is_ring_of d e.1) (of_domid d es + 1) (of_domid d es)

-- how many rings are of domids below a bound
abbrev is_ring_below : ℕ → ConnSpec → Bool
is_ring_below n (Ring domid target evtchn) = nat_lt domid n
is_ring_below n (Socket fd) = false

abbrev below : ℕ → Specs → ℕ
below n [] = 0
below n (e ∷ es) = cond (is_ring_below n e.1) (below n es + 1) (below n es)

none_of : (d : ℕ) (es : Specs) → ring_id d es ≡ None → of_domid d es ≡ 0
none_of d [] h = refl
none_of d (e ∷ es) h = by (is_ring_of d e.1) h (λ k. none_of d es k)
  where
    by : (b : Bool) → cond b (Some e.0) (ring_id d es) ≡ None → (ring_id d es ≡ None → of_domid d es ≡ 0) → cond b (of_domid d es + 1) (of_domid d es) ≡ 0
    by true h rest = cc
    by false h rest = rest h

one_at_most : (d : ℕ) (es : Specs) → has_distinct_rings es ≡ true → of_domid d es ≤ 1
one_at_most d [] h = omega arith
one_at_most d (e ∷ es) h =
    let parts = both (not (has_its_ring e.1 es)) (has_distinct_rings es) h in
    by (is_ring_of d e.1) refl (is_not _ parts.0) (one_at_most d es parts.1)
  where
    by : (b : Bool) → is_ring_of d e.1 ≡ b → has_its_ring e.1 es ≡ false → of_domid d es ≤ 1 → cond b (of_domid d es + 1) (of_domid d es) ≤ 1
    by true is alone rest = let none = none_of d es (none_like d e.1 es is alone) in omega (arith, none)
    by false is alone rest = rest

-- those below the next bound are those below this one and those at it
at_bound : (d n a b : ℕ) → cond (nat_lt d (suc n)) (a + b + 1) (a + b) ≡ cond (nat_lt d n) (a + 1) a + cond (n == d) (b + 1) b
at_bound d n a b = by (nat_lt d (suc n)) (nat_lt d n) (n == d) refl refl refl
  where
    by : (x y z : Bool) → nat_lt d (suc n) ≡ x → nat_lt d n ≡ y → (n == d) ≡ z → cond x (a + b + 1) (a + b) ≡ cond y (a + 1) a + cond z (b + 1) b
    by true true true is_x is_y is_z = grind (arith, nat_tests)
    by true true false is_x is_y is_z = omega arith
    by true false true is_x is_y is_z = omega arith
    by true false false is_x is_y is_z = grind (arith, nat_tests)
    by false true true is_x is_y is_z = grind (arith, nat_tests)
    by false true false is_x is_y is_z = grind (arith, nat_tests)
    by false false true is_x is_y is_z = grind (arith, nat_tests)
    by false false false is_x is_y is_z = refl

below_more : (n : ℕ) (es : Specs) → below (suc n) es ≡ below n es + of_domid n es
below_more n [] = refl
below_more n ((id, Socket fd) ∷ es) = below_more n es
below_more n ((id, Ring domid target evtchn) ∷ es) =
    ap (λ c. cond (nat_lt domid (suc n)) (c + 1) c) (below_more n es) ∙ at_bound domid n (below n es) (of_domid n es)

none_below_zero : (es : Specs) → below 0 es ≡ 0
none_below_zero [] = refl
none_below_zero ((id, Socket fd) ∷ es) = none_below_zero es
none_below_zero ((id, Ring domid target evtchn) ∷ es) =
    let never : nat_lt domid 0 ≡ false = grind (arith, nat_tests) in
    ap (λ b. cond b (below 0 es + 1) (below 0 es)) never ∙ none_below_zero es

few_below : (n : ℕ) (es : Specs) → has_distinct_rings es ≡ true → below n es ≤ n
few_below zero es h = omega (arith, none_below_zero es)
few_below (suc n) es h = omega (arith, below_more n es, few_below n es h, one_at_most n es h)

-- a connection is a socket, or a ring of a domid below the bound
all_counted : (n : ℕ) (es : Specs) → AllByRecursion (λ e. IfSome (ring_domid e.1) (λ domid. domid < n)) es → length es ≡ below n es + count_sockets es
all_counted n [] h = refl
all_counted n ((id, Socket fd) ∷ es) h = omega (arith, all_counted n es h.1)
all_counted n ((id, Ring domid target evtchn) ∷ es) h =
    let is : nat_lt domid n ≡ true = grind (arith, nat_tests, h.0) in
    let one : cond (nat_lt domid n) (below n es + 1) (below n es) ≡ below n es + 1 = ap (λ b. cond b (below n es + 1) (below n es)) is in
    omega (arith, one, all_counted n es h.1)

-- a domid that is at most 32751 is below 32752
under : (es : Specs) → AllByRecursion (λ e. IsDomain e.1) es → AllByRecursion (λ e. IfSome (ring_domid e.1) (λ domid. domid < 32752)) es
under [] h = tt
under ((id, Socket fd) ∷ es) h = (tt, under es h.1)
under ((id, Ring domid target evtchn) ∷ es) h = let first : domid ≤ 32751 = h.0 in (omega arith, under es h.1)

pub tables_are_small : TablesAreSmall
tables_are_small es table domains =
    let few = few_below 32752 es table.rings in
    let all = all_counted 32752 es (under es domains) in
    record { most = omega arith; has_free_id = λ few_sockets. omega arith }
