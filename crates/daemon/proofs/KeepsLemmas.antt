-- The connections of a table, with their watches.
use Rattle.std.proofs.Common.{◌≡◌, ℕ, ◌+◌, ◌==◌, Bool, true, false, cond, List, [], ◌∷◌, map, Some, None, refl, sym, ap, ◌∙◌, eqb-true}
use Rattle.std.specs.Option.{option_map}
use Rattle.std.specs.declared.cmp.Ordering.TheVariants.{Less, Equal, Greater}
use Rattle.std.specs.Ordering.{nat_cmp, eq_by_cmp}
use Rattle.std.specs.Cmp.{nat_cmp_total}
use Rattle.std.specs.FinMap.{find, put, is_sorted, nat_cmp-IsAntisymmetric}
use Rattle.std.specs.FinMap.Entries.{where_key, by_order, find-where_key}
use Rattle.xs_model.proofs.Maps.{tied, same_maps, sorted_put, sorted_where}
use Rattle.machine_model.specs.declared.ConnSpec.{ConnSpec}
use Rattle.machine_model.specs.Connections.{Connection, is_ring_of, ring_of, least_free_from, least_free}
use Rattle.conn_table.specs.Tables.{Specs, ring_id}
use Rattle.watchers.specs.Watched.{Watched, or_none, made_by, watches_of, watching, conns_of}
use Rattle.watch_table.specs.Tables.{Made, watches_in}
use Rattle.conn_rows.proofs.IdEntries.{same_rising, found_at}

-- A NEW VALUE at each id, by the id and the old one
module _ {X Y : Type 0} (f : ℕ → X → Y) where
  abbrev pub at_ids : List (ℕ × X) → List (ℕ × Y)
  at_ids es = map (λ e. (e.0, f e.0 e.1)) es

  pub at_keys : (es : List (ℕ × X)) → map (λ (e : ℕ × Y). e.0) (at_ids es) ≡ map (λ e. e.0) es
  at_keys [] = refl
  at_keys (e ∷ es) = ap (λ l. e.0 ∷ l) (at_keys es)

  pub at_found : (k : ℕ) (es : List (ℕ × X)) → find nat_cmp k (at_ids es) ≡ option_map (f k) (find nat_cmp k es)
  at_found k [] = refl
  at_found k (e ∷ es) =
      elim (eq_by_cmp nat_cmp k e.0) as (λ b. eq_by_cmp nat_cmp k e.0 ≡ b → cond b (Some (f e.0 e.1)) (find nat_cmp k (at_ids es)) ≡ option_map (f k) (cond b (Some e.1) (find nat_cmp k es))) [
        | true ↦ λ t. ap (λ i. Some (f i e.1)) (sym (nat_cmp-IsAntisymmetric k e.0 (tied nat_cmp nat_cmp_total k e.0 t)))
        | false ↦ λ _. at_found k es
      ] refl

  pub at_put : (k : ℕ) (x : X) (es : List (ℕ × X)) → at_ids (put nat_cmp k x es) ≡ put nat_cmp k (f k x) (at_ids es)
  at_put k x [] = refl
  at_put k x (e ∷ es) =
      let rest : List (ℕ × Y) = at_ids es in
      elim (nat_cmp k e.0) as (λ o. nat_cmp k e.0 ≡ o → at_ids (by_order o ((k, x) ∷ e ∷ es) ((e.0, x) ∷ es) (e ∷ put nat_cmp k x es))
      ≡ by_order o ((k, f k x) ∷ (e.0, f e.0 e.1) ∷ rest) ((e.0, f k x) ∷ rest) ((e.0, f e.0 e.1) ∷ put nat_cmp k (f k x) rest)) [
        | Less ↦ λ _. refl
        | Equal ↦ λ t. ap (λ i. (e.0, f i x) ∷ rest) (sym (nat_cmp-IsAntisymmetric k e.0 t))
        | Greater ↦ λ _. ap (λ l. (e.0, f e.0 e.1) ∷ l) (at_put k x es)
      ] refl

-- WITHOUT an id
pub found_where : {X : Type 0} (p : ℕ → Bool) (q : ℕ) (es : List (ℕ × X)) → find nat_cmp q (where_key nat_cmp p es) ≡ cond (p q) (find nat_cmp q es) None
found_where p q es = find-where_key nat_cmp p q (λ x t. ap p (sym (nat_cmp-IsAntisymmetric q x t))) es

-- THE CONNECTIONS OF A TABLE
abbrev pub conn_at : Watched → ℕ → ConnSpec → Connection
conn_at watched c spec = watching spec (watches_of c watched)

module _ (watched : Watched) where
  pub conns_keys : (specs : Specs) → map (λ e. e.0) (conns_of specs watched) ≡ map (λ e. e.0) specs
  conns_keys specs = at_keys (conn_at watched) specs

  pub conns_rising : (specs : Specs) → is_sorted nat_cmp specs ≡ true → is_sorted nat_cmp (conns_of specs watched) ≡ true
  conns_rising specs rising = same_rising (conns_of specs watched) specs (conns_keys specs) ∙ rising

  pub conns_found : (c : ℕ) (specs : Specs) → find nat_cmp c (conns_of specs watched) ≡ option_map (conn_at watched c) (find nat_cmp c specs)
  conns_found c specs = at_found (conn_at watched) c specs

  pub conns_put : (c : ℕ) (spec : ConnSpec) (specs : Specs) → put nat_cmp c (conn_at watched c spec) (conns_of specs watched) ≡ conns_of (put nat_cmp c spec specs) watched
  conns_put c spec specs = sym (at_put (conn_at watched) c spec specs)

  pub conns_ring : (d : ℕ) (specs : Specs) → ring_of d (conns_of specs watched) ≡ ring_id d specs
  conns_ring d [] = refl
  conns_ring d (e ∷ es) = ap (cond (is_ring_of d e.1) (Some e.0)) (conns_ring d es)

  -- the least free id is their table's
  free_from : (n : ℕ) (specs : Specs) → least_free_from n (conns_of specs watched) ≡ least_free_from n specs
  free_from n [] = refl
  free_from n (e ∷ es) = ap (λ m. cond (e.0 == n) m n) (free_from (n + 1) es)

  pub conns_free : (specs : Specs) → least_free (conns_of specs watched) ≡ least_free specs
  conns_free specs = free_from 1 specs

-- those of other watches of one connection
pub conns_rewatched : (c : ℕ) (spec : ConnSpec) (specs : Specs) (old new : Watched) → is_sorted nat_cmp specs ≡ true → find nat_cmp c specs ≡ Some spec → ((q : ℕ) → (q == c) ≡ false → made_by q new ≡ made_by q old)
    → put nat_cmp c (conn_at new c spec) (conns_of specs old) ≡ conns_of specs new
conns_rewatched c spec specs old new rising there apart =
    same_maps nat_cmp nat_cmp_total nat_cmp-IsAntisymmetric (put nat_cmp c (conn_at new c spec) (conns_of specs old)) (conns_of specs new)
    (sorted_put nat_cmp nat_cmp_total c (conn_at new c spec) (conns_of specs old) (conns_rising old specs rising)) (conns_rising new specs rising)
    (λ q. found_at q c (conn_at new c spec) (conns_of specs old) ∙ by q (q == c) refl ∙ sym (conns_found new q specs))
  where
    by : (q : ℕ) (b : Bool) → (q == c) ≡ b → cond b (Some (conn_at new c spec)) (find nat_cmp q (conns_of specs old)) ≡ option_map (conn_at new q) (find nat_cmp q specs)
    by q true t = sym (ap (λ k. option_map (conn_at new k) (find nat_cmp k specs)) (eqb-true q c t) ∙ ap (option_map (conn_at new c)) there)
    by q false t = conns_found old q specs ∙ ap (λ (made : List Made). option_map (λ spec. watching spec (watches_in made)) (find nat_cmp q specs)) (sym (apart q t))

-- those without one
pub conns_without : (p : ℕ → Bool) (specs : Specs) (watched : Watched) → is_sorted nat_cmp specs ≡ true → where_key nat_cmp p (conns_of specs watched) ≡ conns_of (where_key nat_cmp p specs) (where_key nat_cmp p watched)
conns_without p specs watched rising =
    let left : Specs = where_key nat_cmp p specs in
    let kept : Watched = where_key nat_cmp p watched in
    same_maps nat_cmp nat_cmp_total nat_cmp-IsAntisymmetric (where_key nat_cmp p (conns_of specs watched)) (conns_of left kept)
    (sorted_where nat_cmp p (conns_of specs watched) (conns_rising watched specs rising)) (conns_rising kept left (sorted_where nat_cmp p specs rising))
    (λ q. found_where p q (conns_of specs watched) ∙ ap (λ o. cond (p q) o None) (conns_found watched q specs)
    ∙ by q (p q)
    ∙ (λ i. option_map (λ spec. watching spec (watches_in (or_none (sym (found_where p q watched) i)))) (sym (found_where p q specs) i))
    ∙ sym (conns_found kept q left))
  where
    by : (q : ℕ) (b : Bool) → cond b (option_map (conn_at watched q) (find nat_cmp q specs)) None ≡ option_map (λ spec. watching spec (watches_in (or_none (cond b (find nat_cmp q watched) None)))) (cond b (find nat_cmp q specs) None)
    by q true = refl
    by q false = refl
