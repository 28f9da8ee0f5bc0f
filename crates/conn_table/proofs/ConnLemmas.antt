-- The table of connections answers as the connections do.
use Rattle.std.proofs.Common.{◌≡◌, ℕ, suc, ◌+◌, ◌<◌, ◌==◌, Bool, true, false, cond, not, List, [], ◌∷◌, length, nat_lt, Some, is_some, refl, sym, ap, ◌∙◌, arith}
use Rattle.std.specs.declared.cmp.Ordering.TheVariants.{Less, Equal, Greater}
use Rattle.std.specs.Option.{option_map}
use Rattle.std.specs.Ordering.{nat_cmp, eq_by_cmp}
use Rattle.std.specs.FinMap.{find, put}
use Rattle.std.specs.FinMap.Entries.{by_order, where_key}
use Rattle.std.proofs.lemmas.Bool.Decides.{nat_tests}
use Rattle.machine_model.specs.Limits.{IsLeastFree}
use Rattle.machine_model.specs.Connections.{Connection, Connections, is_ring_of, ring_of, least_free_from}
use Rattle.id_map.specs.Ids.{above, first_id}
use Rattle.conn_table.specs.Tables.{specs_of, ring_id}
use Rattle.conn_table.specs.Laws.{AnswersFor, Follows}

spec_found : (id : ℕ) (conns : Connections) → find nat_cmp id (specs_of conns) ≡ option_map (λ conn. conn.spec) (find nat_cmp id conns)
spec_found id [] = refl
spec_found id (e ∷ es) =
    elim (eq_by_cmp nat_cmp id e.0) as (λ b. cond b (Some e.1.spec) (find nat_cmp id (specs_of es)) ≡ option_map (λ conn. conn.spec) (cond b (Some e.1) (find nat_cmp id es))) [
      | true ↦ refl
      | false ↦ spec_found id es
    ]

ring_found : (d : ℕ) (conns : Connections) → ring_id d (specs_of conns) ≡ ring_of d conns
ring_found d [] = refl
ring_found d (e ∷ es) = ap (cond (is_ring_of d e.1.spec) (Some e.0)) (ring_found d es)

free_from : (n : ℕ) (conns : Connections) → least_free_from n (specs_of conns) ≡ least_free_from n conns
free_from n [] = refl
free_from n (e ∷ es) = ap (λ m. cond (e.0 == n) m n) (free_from (n + 1) es)

where_found : (p : ℕ → Bool) (conns : Connections) → specs_of (where_key nat_cmp p conns) ≡ where_key nat_cmp p (specs_of conns)
where_found p [] = refl
where_found p (e ∷ es) =
    elim (p e.0) as (λ b. specs_of (cond b (e ∷ where_key nat_cmp p es) (where_key nat_cmp p es)) ≡ cond b ((e.0, e.1.spec) ∷ where_key nat_cmp p (specs_of es)) (where_key nat_cmp p (specs_of es))) [
      | true ↦ ap (λ l. (e.0, e.1.spec) ∷ l) (where_found p es)
      | false ↦ where_found p es
    ]

first_found : (conns : Connections) → first_id (specs_of conns) ≡ first_id conns
first_found [] = refl
first_found (e ∷ es) = refl

count_found : (conns : Connections) → length (specs_of conns) ≡ length conns
count_found [] = refl
count_found (e ∷ es) = ap suc (count_found es)

put_found : (id : ℕ) (conn : Connection) (conns : Connections) → specs_of (put nat_cmp id conn conns) ≡ put nat_cmp id conn.spec (specs_of conns)
put_found id conn [] = refl
put_found id conn (e ∷ es) =
    elim (nat_cmp id e.0) as (λ o. specs_of (by_order o ((id, conn) ∷ e ∷ es) ((e.0, conn) ∷ es) (e ∷ put nat_cmp id conn es))
    ≡ by_order o ((id, conn.spec) ∷ (e.0, e.1.spec) ∷ specs_of es) ((e.0, conn.spec) ∷ specs_of es) ((e.0, e.1.spec) ∷ put nat_cmp id conn.spec (specs_of es))) [
      | Less ↦ refl
      | Equal ↦ refl
      | Greater ↦ ap (λ l. (e.0, e.1.spec) ∷ l) (put_found id conn es)
    ]

pub answers_for : (conns : Connections) → AnswersFor conns
answers_for conns = record {
  spec = λ id. spec_found id conns;
  ring = λ d. ring_found d conns;
  free = free_from 1 conns;
  next = λ id. ap first_id (sym (where_found (λ key. nat_lt id key) conns)) ∙ first_found (above id conns);
  count = count_found conns;
}

pub follows : (conns : Connections) → Follows conns
follows conns = record {
  put_there = λ id conn. put_found id conn conns;
  removed = λ id. where_found (λ key. not (id == key)) conns;
}

-- THE LEAST FREE ID is one
pub same_free : {A : Type 0} (a b : ℕ) (es : List (ℕ × A)) → IsLeastFree a es → IsLeastFree b es → a ≡ b
same_free a b es p q = by (nat_lt a b) (nat_lt b a) refl refl
  where
    never : {C : Type 0} (x y : ℕ) → IsLeastFree x es → IsLeastFree y es → x < y → C
    never x y p q lt = let bad : false ≡ true = sym (ap is_some p.free) ∙ q.least x p.positive lt in cc

    by : (s t : Bool) → nat_lt a b ≡ s → nat_lt b a ≡ t → a ≡ b
    by true t l r = never a b p q (grind (arith, nat_tests))
    by false true l r = never b a q p (grind (arith, nat_tests))
    by false false l r = grind (arith, nat_tests)
