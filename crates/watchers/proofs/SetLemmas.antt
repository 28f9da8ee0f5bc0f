-- Sets of connections, and the index that has one for each node.
use Rattle.std.specs.Prelude.{◌≡◌, ◌<◌, ◌≤◌, ◌+◌, ◌==◌, ◌&&◌, ℕ, Bool, true, false, cond, not, List, [], ◌∷◌, ◌++◌, length, take, drop, slice_index_or, Option, Some, None, IfSome, is_some, nat_le}
use Rattle.std.specs.Ordering.{nat_cmp, eq_by_cmp}
use Rattle.std.specs.Cmp.{unsigned_tied}
use Rattle.std.specs.FinMap.{find, put}
use Rattle.std.specs.FinMap.Entries.{where_key}
use Rattle.std.proofs.Common.{refl, sym, ap, subst, ◌∙◌, arith, eqb-true, eq-eqb, append_assoc, length-append}
use Rattle.std.proofs.Math.Seq.{take-append_seam, take-length}
use Rattle.std.proofs.lemmas.List.{take-append-drop, length-take-le}
use Rattle.std.proofs.lemmas.Cmp.{nat_cmp_total}
use Rattle.std.proofs.lemmas.Bool.Decides.{nat_tests}
use Rattle.xs_model.specs.Paths.{Path, path_cmp, same_path, is_below, parents}
use Rattle.xs_model.proofs.Maps.{found_put, found_without, not_both}
use Rattle.xs_model.proofs.PathLemmas.{path_total, same_path-is, same_path-itself, way_to, is_below-way}
use Rattle.id_map.specs.Ids.{above, first_id, IsNext}
use Rattle.path_map.specs.Map.{without}
use Rattle.watchers.specs.Index.{Ids, has_id, Index, is_in_found, is_listed, HasRoom, HasAllReached, StaysIn}
use Rattle.watchers.proofs.WalkLemmas.{at_most, beyond, none_between, none_above}

-- ONE MORE in a set
abbrev pub Units : Type 0
Units = List (ℕ × Unit {0})

some_by : (b : Bool) (o : Option (Unit {0})) → is_some (cond b (Some tt) o) ≡ cond b true (is_some o)
some_by true o = refl
some_by false o = refl

there_put : (q k : ℕ) (es : Units) → is_some (find nat_cmp q (put nat_cmp k tt es)) ≡ cond (q == k) true (is_some (find nat_cmp q es))
there_put q k es =
    ap is_some (found_put nat_cmp nat_cmp_total q k tt es) ∙ some_by (eq_by_cmp nat_cmp q k) (find nat_cmp q es)
    ∙ ap (λ b. cond b true (is_some (find nat_cmp q es))) (unsigned_tied q k)

pub put_here : (k : ℕ) (es : Units) → is_some (find nat_cmp k (put nat_cmp k tt es)) ≡ true
put_here k es = there_put k k es ∙ ap (λ b. cond b true (is_some (find nat_cmp k es))) (eq-eqb k k refl)

either : (b x : Bool) → x ≡ true → cond b true x ≡ true
either true x h = refl
either false x h = h

pub put_kept : (k q : ℕ) (es : Units) → is_some (find nat_cmp q es) ≡ true → is_some (find nat_cmp q (put nat_cmp k tt es)) ≡ true
put_kept k q es h = there_put q k es ∙ either (q == k) (is_some (find nat_cmp q es)) h

-- ONE LESS
without_same : (k : ℕ) (es : Units) → where_key nat_cmp (λ key. not (eq_by_cmp nat_cmp k key)) es ≡ where_key nat_cmp (λ key. not (k == key)) es
without_same k [] = refl
without_same k (e ∷ es) = λ i. cond (not (unsigned_tied k e.0 i)) (e ∷ without_same k es i) (without_same k es i)

pub taken_other : (k q : ℕ) (es : Units) → (q == k) ≡ false → is_some (find nat_cmp q es) ≡ true → is_some (find nat_cmp q (where_key nat_cmp (λ key. not (k == key)) es)) ≡ true
taken_other k q es apart h =
    ap (λ (l : Units). is_some (find nat_cmp q l)) (sym (without_same k es))
    ∙ ap is_some (found_without nat_cmp nat_cmp_total q k es)
    ∙ ap (λ b. is_some (cond b None (find nat_cmp q es))) (unsigned_tied q k ∙ apart) ∙ h

pub none_in : (es : Units) (q : ℕ) → length es ≡ 0 → is_some (find nat_cmp q es) ≡ false
none_in [] q h = refl
none_in (e ∷ es) q h = absurd (omega (arith, h))

apart_below : (c next : ℕ) → c ≤ next → (c == next) ≡ false → c < next
apart_below c next le q = grind (arith, nat_tests)

-- JOINED, from id to id
module _ (more : Units) where
  abbrev pub JoinedTo : ℕ → Units → Type 0
  JoinedTo at ids = (c : ℕ) → c ≤ at → is_some (find nat_cmp c more) ≡ true → is_some (find nat_cmp c ids) ≡ true

  pub joined_first : (ids : Units) → (is_some (find nat_cmp 0 more) ≡ true → is_some (find nat_cmp 0 ids) ≡ true) → JoinedTo 0 ids
  joined_first ids h c le there =
      let zero_is : 0 ≡ c = omega (arith, le) in
      subst (λ (i : ℕ). is_some (find nat_cmp i ids) ≡ true) zero_is (h (subst (λ (i : ℕ). is_some (find nat_cmp i more) ≡ true) (sym zero_is) there))

  pub joined_next : (at next : ℕ) (mid ids : Units) → IsNext more at next → JoinedTo at mid → (is_some (find nat_cmp next more) ≡ true → is_some (find nat_cmp next ids) ≡ true)
      → ((c : ℕ) → is_some (find nat_cmp c mid) ≡ true → is_some (find nat_cmp c ids) ≡ true) → JoinedTo next ids
  joined_next at next mid ids is so_far here kept c le there = by (nat_le c at) (c == next) refl refl
    where
      by : (a b : Bool) → nat_le c at ≡ a → (c == next) ≡ b → is_some (find nat_cmp c ids) ≡ true
      by true b p q = kept c (so_far c (at_most c at p) there)
      by false true p q = subst (λ (i : ℕ). is_some (find nat_cmp i ids) ≡ true) (sym (eqb-true c next q)) (here is.there)
      by false false p q = not_both there (ap is_some (none_between more at next is c (beyond c at p) (apart_below c next le q)))

  pub joined_last : (at : ℕ) (ids : Units) → first_id (above at more) ≡ None → JoinedTo at ids → (c : ℕ) → is_some (find nat_cmp c more) ≡ true → is_some (find nat_cmp c ids) ≡ true
  joined_last at ids none so_far c there = by (nat_le c at) refl
    where
      by : (a : Bool) → nat_le c at ≡ a → is_some (find nat_cmp c ids) ≡ true
      by true p = so_far c (at_most c at p) there
      by false p = not_both there (ap is_some (none_above at more none c (beyond c at p)))

-- THE WAY UP. A path above another is the first of its names
above_is : (p path : Path) → is_below p path ≡ true → p ≡ take (length p) path
above_is p path h = let way = way_to p path h in sym (ap (take (length p)) way.1 ∙ take-append_seam p way.0)

same_length : (p node path : Path) → is_below p path ≡ true → is_below node path ≡ true → length p ≡ length node → p ≡ node
same_length p node path g h same = above_is p path g ∙ ap (λ (n : ℕ). take n path) same ∙ sym (above_is node path h)

at_end : (path p : Path) → is_below p path ≡ true → length path ≤ length p → p ≡ path
at_end path p h le =
    let way = way_to p path h in
    let size : length path ≡ length p + length way.0 = omega (arith, ap (λ (q : Path). length q) way.1, length-append p way.0) in
    above_is p path h ∙ ap (λ (n : ℕ). take n path) (omega (arith, le, size)) ∙ take-length path

-- one name less
pub record IsParent (old new : Path) : Type 0 where
  pub length_is : length old ≡ length new + 1
  pub below : (path : Path) → is_below old path ≡ true → is_below new path ≡ true

only_one : (p q : Path) → p ∷ [] ≡ q ∷ [] → p ≡ q
only_one p q h = ap (λ (l : List Path). slice_index_or l 0 q) h

pub parent_of : (old new : Path) → parents old ≡ new ∷ [] → IsParent old new
parent_of [] new h = absurd (omega (arith, ap (λ (l : List Path). length l) h))
parent_of (n ∷ ns) new h =
    let is : take (length ns) (n ∷ ns) ≡ new = only_one (take (length ns) (n ∷ ns)) new h in
    record {
      length_is = omega (arith, ap (λ (p : Path). length p) is, length-take-le (length ns) (n ∷ ns) (omega arith));
      below = λ path b.
          let way = way_to (n ∷ ns) path b in
          let rest = drop (length ns) (n ∷ ns) in
          let whole : path ≡ new ++ (rest ++ way.0) =
          way.1 ∙ ap (λ (p : Path). p ++ way.0) (sym (take-append-drop (length ns) (n ∷ ns))) ∙ append_assoc (take (length ns) (n ∷ ns)) rest way.0 ∙ ap (λ (p : Path). p ++ (rest ++ way.0)) is
          in
          ap (is_below new) whole ∙ is_below-way new (rest ++ way.0);
    }

no_parent : (p : Path) → parents p ≡ [] → length p ≡ 0
no_parent [] h = refl
no_parent (n ∷ ns) h = absurd (omega (arith, ap (λ (l : List Path). length l) h))

module _ (path : Path) (index : Index) where
  -- whoever is found at a path on the way, as far as a node
  abbrev pub FoundTo : Path → Ids → Type 0
  FoundTo node ids = (c : ℕ) (p : Path) → is_below p path ≡ true → length node ≤ length p → is_listed c p index ≡ true → has_id c ids ≡ true

  pub up_first : (ids : Ids) → ((c : ℕ) → is_listed c path index ≡ true → has_id c ids ≡ true) → FoundTo path ids
  up_first ids here c p below le there = here c (subst (λ (q : Path). is_listed c q index ≡ true) (at_end path p below le) there)

  pub up_next : (old new : Path) (mid ids : Ids) → is_below old path ≡ true → IsParent old new → FoundTo old mid → StaysIn mid ids → ((c : ℕ) → is_listed c new index ≡ true → has_id c ids ≡ true) → FoundTo new ids
  up_next old new mid ids way is done kept here c p below le there = by (nat_le (length old) (length p)) refl
    where
      by : (b : Bool) → nat_le (length old) (length p) ≡ b → has_id c ids ≡ true
      by true h = kept c (done c p below (at_most (length old) (length p) h) there)
      by false h =
          let short = beyond (length old) (length p) h in
          let same : p ≡ new = same_length p new path below (is.below path way) (omega (arith, le, short, is.length_is)) in
          here c (subst (λ (q : Path). is_listed c q index ≡ true) same there)

  pub up_last : (node : Path) (ids : Ids) → parents node ≡ [] → FoundTo node ids → (c : ℕ) (p : Path) → is_below p path ≡ true → is_listed c p index ≡ true → has_id c ids ≡ true
  up_last node ids none done c p below there = done c p below (omega (arith, no_parent node none)) there

-- the nodes that an event reaches
module _ (path : Path) (exact : Bool) (index : Index) (ids : Ids) where
  pub reached_exact : exact ≡ true → ((c : ℕ) → is_listed c path index ≡ true → has_id c ids ≡ true) → HasAllReached (record { path = path; exact = exact }) index ids
  reached_exact is here c p reached there =
      let same : same_path p path ≡ true = sym (ap (λ b. cond b (same_path p path) (is_below p path)) is) ∙ reached in
      here c (subst (λ (q : Path). is_listed c q index ≡ true) (same_path-is p path same) there)

  pub reached_broad : exact ≡ false → ((c : ℕ) (p : Path) → is_below p path ≡ true → is_listed c p index ≡ true → has_id c ids ≡ true) → HasAllReached (record { path = path; exact = exact }) index ids
  reached_broad is done c p reached there =
      done c p (sym (ap (λ b. cond b (same_path p path) (is_below p path)) is) ∙ reached) there

-- EDITS of the index
listed_put : (c : ℕ) (q p : Path) (ids : Ids) (es : Index) → is_listed c q (put path_cmp p ids es) ≡ is_in_found c (cond (same_path q p) (Some ids) (find path_cmp q es))
listed_put c q p ids es = ap (is_in_found c) (found_put path_cmp path_total q p ids es)

pub listed_here : (c : ℕ) (p : Path) (ids : Ids) (es : Index) → has_id c ids ≡ true → is_listed c p (put path_cmp p ids es) ≡ true
listed_here c p ids es h = listed_put c p p ids es ∙ ap (λ b. is_in_found c (cond b (Some ids) (find path_cmp p es))) (same_path-itself p) ∙ h

module _ (p : Path) (es : Index) where
  -- where a set was changed
  pub listed_changed : (c : ℕ) (q : Path) (old new : Ids) → find path_cmp p es ≡ Some old → (same_path q p ≡ true → has_id c old ≡ true → has_id c new ≡ true)
      → is_listed c q es ≡ true → is_listed c q (put path_cmp p new es) ≡ true
  listed_changed c q old new there kept h = listed_put c q p new es ∙ by (same_path q p) refl
    where
      by : (b : Bool) → same_path q p ≡ b → is_in_found c (cond b (Some new) (find path_cmp q es)) ≡ true
      by true t = kept t (sym (ap (is_in_found c) (ap (λ r. find path_cmp r es) (same_path-is q p t) ∙ there)) ∙ h)
      by false t = h

  -- where there was none
  pub listed_first : (c : ℕ) (q : Path) (new : Ids) → find path_cmp p es ≡ None → is_listed c q es ≡ true → is_listed c q (put path_cmp p new es) ≡ true
  listed_first c q new none h = listed_put c q p new es ∙ by (same_path q p) refl
    where
      by : (b : Bool) → same_path q p ≡ b → is_in_found c (cond b (Some new) (find path_cmp q es)) ≡ true
      by true t = not_both h (ap (is_in_found c) (ap (λ r. find path_cmp r es) (same_path-is q p t) ∙ none))
      by false t = h

  -- where an empty set was dropped
  pub listed_dropped : (c : ℕ) (q : Path) → is_listed c p es ≡ false → is_listed c q es ≡ true → is_listed c q (without p es) ≡ true
  listed_dropped c q none h = ap (is_in_found c) (found_without path_cmp path_total q p es) ∙ by (same_path q p) refl
    where
      by : (b : Bool) → same_path q p ≡ b → is_in_found c (cond b None (find path_cmp q es)) ≡ true
      by true t = not_both h (ap (λ r. is_listed c r es) (same_path-is q p t) ∙ none)
      by false t = h

  pub none_here : (c : ℕ) (new : Ids) → has_id c new ≡ false → is_listed c p (put path_cmp p new es) ≡ false
  none_here c new none = listed_put c p p new es ∙ ap (λ b. is_in_found c (cond b (Some new) (find path_cmp p es))) (same_path-itself p) ∙ none

-- of two tests that do not both hold the first does not, where the second does
pub not_first : (a b : Bool) → (a && b) ≡ false → b ≡ true → a ≡ false
not_first true b h t = not_both t h
not_first false b h t = refl

-- MEMORY for one more in the set of a node
pub room_put : (p : Path) (es : Index) (ids : Ids) → HasRoom ids → IfSome (find path_cmp p (put path_cmp p ids es)) HasRoom
room_put p es ids h = subst (λ (o : Option Ids). IfSome o HasRoom) (sym (found_put path_cmp path_total p p ids es ∙ ap (λ b. cond b (Some ids) (find path_cmp p es)) (same_path-itself p))) h
