-- Tables of connections: what holds of what is found, and how many sockets there are.
use Rattle.std.proofs.Common.{◌≡◌, ℕ, ◌+◌, ◌≤◌, Bool, true, false, cond, ◌&&◌, List, [], ◌∷◌, Option, Some, None, is_some, IfSome, nat_le, refl, sym, ap, ◌∙◌, arith, leb-false}
use Rattle.std.specs.List.{AllByRecursion}
use Rattle.std.specs.Ordering.{nat_cmp, is_eq}
use Rattle.std.specs.declared.cmp.Ordering.TheVariants.{Less, Equal, Greater}
use Rattle.std.specs.FinMap.{find, put}
use Rattle.std.specs.FinMap.Entries.{by_order}
use Rattle.std.proofs.lemmas.Bool.{or_parts}
use Rattle.xs_model.proofs.Maps.{all_found, not_Some}
use Rattle.kept_model.proofs.LoadEnds.{none_found}
use Rattle.machine_model.specs.declared.ConnSpec.{ConnSpec}
use Rattle.conn_table.specs.Tables.{Specs, is_taken, has_its_ring, is_socket, count_sockets}

-- what holds of all, holds of what is found
pub some_found : {X : Type 0} (P : X → Type 0) (k : ℕ) (es : List (ℕ × X)) (o : Option X) → o ≡ find nat_cmp k es → AllByRecursion (λ e. P e.1) es → IfSome o P
some_found P k es None e all = tt
some_found P k es (Some x) e all = all_found nat_cmp P k es x all (sym e)

pub not_there : (id : ℕ) (spec : ConnSpec) (es : Specs) → is_taken id spec es ≡ false → find nat_cmp id es ≡ None
not_there id spec es h = none_found (find nat_cmp id es) (or_parts (is_some (find nat_cmp id es)) (has_its_ring spec es) h).0

count_by : (a b : Bool) (n : ℕ) → cond a (cond b (n + 1) n + 1) (cond b (n + 1) n) ≡ cond b (cond a (n + 1) n + 1) (cond a (n + 1) n)
count_by true true n = refl
count_by true false n = refl
count_by false true n = refl
count_by false false n = refl

pub socket_count : (id : ℕ) (spec : ConnSpec) (es : Specs) → find nat_cmp id es ≡ None → count_sockets (put nat_cmp id spec es) ≡ cond (is_socket spec) (count_sockets es + 1) (count_sockets es)
socket_count id spec [] h = refl
socket_count id spec (e ∷ es) h =
    (elim (nat_cmp id e.0) as (λ o. cond (is_eq o) (Some e.1) (find nat_cmp id es) ≡ None
    → count_sockets (by_order o ((id, spec) ∷ e ∷ es) ((e.0, spec) ∷ es) (e ∷ put nat_cmp id spec es)) ≡ cond (is_socket spec) (count_sockets (e ∷ es) + 1) (count_sockets (e ∷ es))) [
      | Less ↦ λ g. refl
      | Equal ↦ λ g. not_Some (sym g)
      | Greater ↦ λ g. ap (λ n. cond (is_socket e.1) (n + 1) n) (socket_count id spec es g) ∙ count_by (is_socket e.1) (is_socket spec) (count_sockets es)
    ]) h

-- the limit
pub few_more : (b : Bool) (n : ℕ) → n ≤ 65536 → (b && nat_le 65536 n) ≡ false → cond b (n + 1) n ≤ 65536
few_more true n few h = let below = leb-false 65536 n h in omega (arith, below)
few_more false n few h = few
