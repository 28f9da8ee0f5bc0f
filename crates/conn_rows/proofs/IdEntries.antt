-- Lists of entries in the order of their ids: a new value at each id, the ids alone, and a value by the id.
use Rattle.std.proofs.Common.{◌≡◌, ℕ, ◌==◌, Bool, true, false, cond, ◌&&◌, List, [], ◌∷◌, map, filter, Option, Some, None, is_some, refl, sym, ap, ◌∙◌, eq-eqb}
use Rattle.std.specs.Option.{option_map}
use Rattle.std.specs.List.{list_any}
use Rattle.std.specs.declared.cmp.Ordering.TheVariants.{Less, Equal, Greater}
use Rattle.std.specs.Ordering.{nat_cmp, eq_by_cmp, is_lt}
use Rattle.std.specs.Cmp.{nat_cmp_total, unsigned_tied}
use Rattle.std.specs.FinMap.{find, put, is_sorted, nat_cmp-IsAntisymmetric}
use Rattle.std.specs.FinMap.Entries.{where_key, by_order, below_all, is_some-find}
use Rattle.xs_model.proofs.Maps.{found_put, sorted_put, tied, same_maps}

-- A NEW VALUE at each id
module _ {X Y : Type 0} (f : X → Y) where
  pub put_map : (k : ℕ) (x : X) (es : List (ℕ × X)) → map (λ e. (e.0, f e.1)) (put nat_cmp k x es) ≡ put nat_cmp k (f x) (map (λ e. (e.0, f e.1)) es)
  put_map k x [] = refl
  put_map k x (e ∷ es) =
      let mapped : List (ℕ × Y) = map (λ e. (e.0, f e.1)) es in
      elim (nat_cmp k e.0) as (λ o. map (λ e. (e.0, f e.1)) (by_order o ((k, x) ∷ e ∷ es) ((e.0, x) ∷ es) (e ∷ put nat_cmp k x es))
      ≡ by_order o ((k, f x) ∷ (e.0, f e.1) ∷ mapped) ((e.0, f x) ∷ mapped) ((e.0, f e.1) ∷ put nat_cmp k (f x) mapped)) [
        | Less ↦ refl
        | Equal ↦ refl
        | Greater ↦ ap (λ l. (e.0, f e.1) ∷ l) (put_map k x es)
      ]

  pub where_map : (p : ℕ → Bool) (es : List (ℕ × X)) → map (λ e. (e.0, f e.1)) (where_key nat_cmp p es) ≡ where_key nat_cmp p (map (λ e. (e.0, f e.1)) es)
  where_map p [] = refl
  where_map p (e ∷ es) =
      let mapped : List (ℕ × Y) = map (λ e. (e.0, f e.1)) es in
      elim (p e.0) as (λ b. map (λ e. (e.0, f e.1)) (cond b (e ∷ where_key nat_cmp p es) (where_key nat_cmp p es))
      ≡ cond b ((e.0, f e.1) ∷ where_key nat_cmp p mapped) (where_key nat_cmp p mapped)) [
        | true ↦ ap (λ l. (e.0, f e.1) ∷ l) (where_map p es)
        | false ↦ where_map p es
      ]

  pub keys_map : (es : List (ℕ × X)) → map (λ (e : ℕ × Y). e.0) (map (λ e. (e.0, f e.1)) es) ≡ map (λ e. e.0) es
  keys_map [] = refl
  keys_map (e ∷ es) = ap (λ l. e.0 ∷ l) (keys_map es)

-- THE IDS ALONE
abbrev put_key : ℕ → List ℕ → List ℕ
put_key k [] = k ∷ []
put_key k (i ∷ is) = by_order (nat_cmp k i) (k ∷ i ∷ is) (i ∷ is) (i ∷ put_key k is)

keys_of_put : {X : Type 0} (k : ℕ) (x : X) (es : List (ℕ × X)) → map (λ e. e.0) (put nat_cmp k x es) ≡ put_key k (map (λ e. e.0) es)
keys_of_put k x [] = refl
keys_of_put k x (e ∷ es) =
    let keys : List ℕ = map (λ e. e.0) es in
    elim (nat_cmp k e.0) as (λ o. map (λ e. e.0) (by_order o ((k, x) ∷ e ∷ es) ((e.0, x) ∷ es) (e ∷ put nat_cmp k x es)) ≡ by_order o (k ∷ e.0 ∷ keys) (e.0 ∷ keys) (e.0 ∷ put_key k keys)) [
      | Less ↦ refl
      | Equal ↦ refl
      | Greater ↦ ap (λ l. e.0 ∷ l) (keys_of_put k x es)
    ]

keys_of_where : {X : Type 0} (p : ℕ → Bool) (es : List (ℕ × X)) → map (λ e. e.0) (where_key nat_cmp p es) ≡ filter p (map (λ e. e.0) es)
keys_of_where p [] = refl
keys_of_where p (e ∷ es) =
    let keys : List ℕ = map (λ e. e.0) es in
    elim (p e.0) as (λ b. map (λ e. e.0) (cond b (e ∷ where_key nat_cmp p es) (where_key nat_cmp p es)) ≡ cond b (e.0 ∷ filter p keys) (filter p keys)) [
      | true ↦ ap (λ l. e.0 ∷ l) (keys_of_where p es)
      | false ↦ keys_of_where p es
    ]

-- whether ids rise
abbrev below_ids : ℕ → List ℕ → Bool
below_ids k [] = true
below_ids k (i ∷ is) = is_lt (nat_cmp k i) && below_ids k is

abbrev are_rising : List ℕ → Bool
are_rising [] = true
are_rising (i ∷ is) = below_ids i is && are_rising is

below_by_ids : {X : Type 0} (k : ℕ) (es : List (ℕ × X)) → below_all nat_cmp k es ≡ below_ids k (map (λ e. e.0) es)
below_by_ids k [] = refl
below_by_ids k (e ∷ es) = ap (λ b. is_lt (nat_cmp k e.0) && b) (below_by_ids k es)

rising_by_ids : {X : Type 0} (es : List (ℕ × X)) → is_sorted nat_cmp es ≡ are_rising (map (λ e. e.0) es)
rising_by_ids [] = refl
rising_by_ids (e ∷ es) = λ i. below_by_ids e.0 es i && rising_by_ids es i

-- two lists with the same ids
module _ {X Y : Type 0} (es : List (ℕ × X)) (fs : List (ℕ × Y)) (same : map (λ e. e.0) es ≡ map (λ e. e.0) fs) where
  pub same_put : (k : ℕ) (x : X) (y : Y) → map (λ e. e.0) (put nat_cmp k x es) ≡ map (λ e. e.0) (put nat_cmp k y fs)
  same_put k x y = keys_of_put k x es ∙ ap (put_key k) same ∙ sym (keys_of_put k y fs)

  pub same_where : (p : ℕ → Bool) → map (λ e. e.0) (where_key nat_cmp p es) ≡ map (λ e. e.0) (where_key nat_cmp p fs)
  same_where p = keys_of_where p es ∙ ap (filter p) same ∙ sym (keys_of_where p fs)

  pub same_there : (k : ℕ) → is_some (find nat_cmp k es) ≡ is_some (find nat_cmp k fs)
  same_there k = is_some-find nat_cmp k es ∙ ap (list_any (eq_by_cmp nat_cmp k)) same ∙ sym (is_some-find nat_cmp k fs)

  pub same_rising : is_sorted nat_cmp es ≡ is_sorted nat_cmp fs
  same_rising = rising_by_ids es ∙ ap are_rising same ∙ sym (rising_by_ids fs)

-- what is found
pub none_there : {X : Type 0} (o : Option X) → is_some o ≡ false → o ≡ None
none_there None h = refl
none_there (Some x) h = cc

pub found_at : {X : Type 0} (q k : ℕ) (x : X) (es : List (ℕ × X)) → find nat_cmp q (put nat_cmp k x es) ≡ cond (q == k) (Some x) (find nat_cmp q es)
found_at q k x es = found_put nat_cmp nat_cmp_total q k x es ∙ ap (λ b. cond b (Some x) (find nat_cmp q es)) (unsigned_tied q k)

pub found_itself : {X : Type 0} (k : ℕ) (x : X) (es : List (ℕ × X)) → find nat_cmp k (put nat_cmp k x es) ≡ Some x
found_itself k x es = found_at k k x es ∙ ap (λ b. cond b (Some x) (find nat_cmp k es)) (eq-eqb k k refl)

-- what is there is put again
pub put_again : {X : Type 0} (k : ℕ) (x : X) (es : List (ℕ × X)) → is_sorted nat_cmp es ≡ true → find nat_cmp k es ≡ Some x → put nat_cmp k x es ≡ es
put_again {X} k x es rising there =
    same_maps nat_cmp nat_cmp_total nat_cmp-IsAntisymmetric (put nat_cmp k x es) es (sorted_put nat_cmp nat_cmp_total k x es rising) rising
    (λ q. found_put nat_cmp nat_cmp_total q k x es ∙ by q (eq_by_cmp nat_cmp q k) refl)
  where
    by : (q : ℕ) (b : Bool) → eq_by_cmp nat_cmp q k ≡ b → cond b (Some x) (find nat_cmp q es) ≡ find nat_cmp q es
    by q true t = sym (ap (λ i. find nat_cmp i es) (nat_cmp-IsAntisymmetric q k (tied nat_cmp nat_cmp_total q k t)) ∙ there)
    by q false t = refl

-- A VALUE BY THE ID at each id
pub keyed : {X Y : Type 0} (f : ℕ → Y) (q : ℕ) (es : List (ℕ × X)) → find nat_cmp q (map (λ e. (e.0, f e.0)) es) ≡ option_map (λ _. f q) (find nat_cmp q es)
keyed f q [] = refl
keyed {X} {Y} f q (e ∷ es) =
    let rest : List (ℕ × Y) = map (λ e. (e.0, f e.0)) es in
    elim (eq_by_cmp nat_cmp q e.0) as (λ b. eq_by_cmp nat_cmp q e.0 ≡ b → cond b (Some (f e.0)) (find nat_cmp q rest) ≡ option_map (λ _. f q) (cond b (Some e.1) (find nat_cmp q es))) [
      | true ↦ λ t. ap (λ k. Some (f k)) (sym (nat_cmp-IsAntisymmetric q e.0 (tied nat_cmp nat_cmp_total q e.0 t)))
      | false ↦ λ _. keyed f q es
    ] refl
