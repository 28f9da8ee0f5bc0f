-- Numbers after a stamp.
use Rattle.std.specs.Prelude.{◌≡◌, ℕ, ◌≤◌, ◌<◌, ◌+◌, Bool, true, false, cond, ◌||◌, List, [], ◌∷◌, map, max, length, drop, Option, Some, None, is_some, nat_lt, if◌then◌else◌}
use Rattle.std.specs.Option.{option_map}
use Rattle.std.specs.FinMap.{find, put, is_sorted}
use Rattle.std.specs.List.{AllByRecursion, list_any}
use Rattle.std.proofs.Common.{sym, refl, ap, subst, ◌∙◌, arith, le_trans, get_or}
use Rattle.std.proofs.lemmas.Bool.{or_parts}
use Rattle.std.proofs.lemmas.Bool.Decides.{nat_tests}
use Rattle.path_map.specs.Map.{Map, Entries}
use Rattle.std.proofs.lemmas.List.{drop_more}
use Rattle.xs_model.specs.Paths.{Path, path_cmp, same_path, has_path}
use Rattle.xs_model.specs.Trees.{Tree, Node, IsTree, node_at, is_present}
use Rattle.xs_model.specs.Generations.{Generations, generation_of, generation_max, next_generation, number_after, numbered, greatest, greater, or_zero, stamp}
use Rattle.xs_model.proofs.Maps.{from_Some, not_Some, not_both, found_put, same_maps, sorted_put, sorted_map}
use Rattle.xs_model.proofs.PathLemmas.{path_total, path_exact, same_path-is, same_path-itself}
use Rattle.node_tree.specs.KeptTree.{nodes_of, gens_of}
use Rattle.node_tree.specs.Numbers.{restamped, with_number, with_numbers, one_has, counted}
use Rattle.node_tree.specs.declared.entry.Entry.{Entry}
use Rattle.node_tree.proofs.Entries.{entry, number_of, node_of, node_found, number_found, number_there, nodes_put, gens_put, put_same, rising_gens, greater_is}
use Rattle.node_tree.proofs.Mapped.{found_keyed, sorted_keyed}

abbrev pub number : List Path → ℕ → Path → ℕ → ℕ
number changed n q x = if has_path q changed then n else x

pub found_restamped : (changed : List Path) (n : ℕ) (gens : Generations) (q : Path) → find path_cmp q (restamped changed n gens) ≡ option_map (number changed n q) (find path_cmp q gens)
found_restamped changed n gens q = found_keyed path_cmp (number changed n) path_exact q gens

pub sorted_restamped : (changed : List Path) (n : ℕ) (gens : Generations) → is_sorted path_cmp gens ≡ true → is_sorted path_cmp (restamped changed n gens) ≡ true
sorted_restamped changed n gens s = sorted_keyed path_cmp (number changed n) gens ∙ s

-- ONE PATH AFTER THE OTHER
nothing_changed : (n : ℕ) (gens : Generations) → restamped [] n gens ≡ gens
nothing_changed n [] = refl
nothing_changed n (e ∷ es) = ap (λ l. (e.0, e.1) ∷ l) (nothing_changed n es)

twice : (p : Path) (ps : List Path) (n : ℕ) (gens : Generations) → restamped ps n (restamped (p ∷ []) n gens) ≡ restamped (p ∷ ps) n gens
twice p ps n [] = refl
twice p ps n (e ∷ es) =
    ap (λ x. (e.0, x) ∷ restamped ps n (restamped (p ∷ []) n es)) (by (same_path e.0 p) (has_path e.0 ps))
    ∙ ap (λ l. (e.0, number (p ∷ ps) n e.0 e.1) ∷ l) (twice p ps n es)
  where
    by : (a b : Bool) → cond b n (cond (a || false) n e.1) ≡ cond (a || b) n e.1
    by true true = refl
    by true false = refl
    by false true = refl
    by false false = refl

module _ (p : Path) (n : ℕ) (es : Entries Entry) (s : is_sorted path_cmp es ≡ true) where
  same_here : (g : Generations) → is_sorted path_cmp g ≡ true → is_sorted path_cmp (gens_of es) ≡ true → ((q : Path) → find path_cmp q g ≡ option_map (number (p ∷ []) n q) (find path_cmp q (gens_of es))) → g ≡ restamped (p ∷ []) n (gens_of es)
  same_here g h k is =
      same_maps path_cmp path_total path_exact g (restamped (p ∷ []) n (gens_of es)) h (sorted_restamped (p ∷ []) n (gens_of es) k) (λ q. is q ∙ sym (found_restamped (p ∷ []) n (gens_of es) q))

  rising_numbers : is_sorted path_cmp (gens_of es) ≡ true
  rising_numbers = sorted_map path_cmp number_of es ∙ s

  absent_at : (q : Path) (b : Bool) → same_path q p ≡ b → None ≡ find path_cmp p es → find path_cmp q (gens_of es) ≡ option_map (λ x. cond (b || false) n x) (find path_cmp q (gens_of es))
  absent_at q true t none =
      let gone : find path_cmp q (gens_of es) ≡ None = ap (λ r. find path_cmp r (gens_of es)) (same_path-is q p t) ∙ number_found p es ∙ ap (option_map number_of) (sym none) in
      gone ∙ sym (ap (option_map (λ x. n)) gone)
  absent_at q false t none = sym (unchanged (find path_cmp q (gens_of es)))
    where
      unchanged : (o : Option ℕ) → option_map (λ x. x) o ≡ o
      unchanged None = refl
      unchanged (Some x) = refl

  there_at : (e : Entry) (q : Path) (b : Bool) → same_path q p ≡ b → Some e ≡ find path_cmp p es → cond b (Some n) (find path_cmp q (gens_of es)) ≡ option_map (λ x. cond (b || false) n x) (find path_cmp q (gens_of es))
  there_at e q true t h =
      let here : find path_cmp q (gens_of es) ≡ Some e.generation = ap (λ r. find path_cmp r (gens_of es)) (same_path-is q p t) ∙ number_found p es ∙ ap (option_map number_of) (sym h) in
      sym (ap (option_map (λ x. n)) here)
  there_at e q false t h = sym (unchanged (find path_cmp q (gens_of es)))
    where
      unchanged : (o : Option ℕ) → option_map (λ x. x) o ≡ o
      unchanged None = refl
      unchanged (Some x) = refl

  gens_one : (o : Option Entry) → o ≡ find path_cmp p es → gens_of (with_number p n es o) ≡ restamped (p ∷ []) n (gens_of es)
  gens_one None h = same_here (gens_of es) rising_numbers rising_numbers (λ q. absent_at q (same_path q p) refl h)
  gens_one (Some e) h =
      gens_put p e.node n es
      ∙ same_here (put path_cmp p n (gens_of es)) (sorted_put path_cmp path_total p n (gens_of es) rising_numbers) rising_numbers
      (λ q. found_put path_cmp path_total q p n (gens_of es) ∙ there_at e q (same_path q p) refl h)

  nodes_one : (o : Option Entry) → o ≡ find path_cmp p es → nodes_of (with_number p n es o) ≡ nodes_of es
  nodes_one None h = refl
  nodes_one (Some e) h =
      nodes_put p e.node n es
      ∙ put_same p e.node (nodes_of es) (sorted_map path_cmp node_of es ∙ s) (node_found p es ∙ ap (option_map node_of) (sym h))

  sorted_one : (o : Option Entry) → is_sorted path_cmp (with_number p n es o) ≡ true
  sorted_one None = s
  sorted_one (Some e) = sorted_put path_cmp path_total p (entry e.node n) es s

  -- the same paths are there
  pub present_one : (o : Option Entry) → o ≡ find path_cmp p es → (q : Path) → is_some (find path_cmp q (gens_of (with_number p n es o))) ≡ is_some (find path_cmp q (gens_of es))
  present_one o h q = ap (λ (g : Generations). is_some (find path_cmp q g)) (gens_one o h) ∙ ap is_some (found_restamped (p ∷ []) n (gens_of es) q) ∙ kept (find path_cmp q (gens_of es))
    where
      kept : (r : Option ℕ) → is_some (option_map (number (p ∷ []) n q) r) ≡ is_some r
      kept None = refl
      kept (Some x) = refl

pub gens_stamped : (ps : List Path) (n : ℕ) (es : Entries Entry) → is_sorted path_cmp es ≡ true → gens_of (with_numbers ps n es) ≡ restamped ps n (gens_of es)
gens_stamped [] n es s = sym (nothing_changed n (gens_of es))
gens_stamped (p ∷ ps) n es s =
    gens_stamped ps n (with_number p n es (find path_cmp p es)) (sorted_one p n es s (find path_cmp p es))
    ∙ ap (restamped ps n) (gens_one p n es s (find path_cmp p es) refl) ∙ twice p ps n (gens_of es)

pub nodes_stamped : (ps : List Path) (n : ℕ) (es : Entries Entry) → is_sorted path_cmp es ≡ true → nodes_of (with_numbers ps n es) ≡ nodes_of es
nodes_stamped [] n es s = refl
nodes_stamped (p ∷ ps) n es s =
    nodes_stamped ps n (with_number p n es (find path_cmp p es)) (sorted_one p n es s (find path_cmp p es)) ∙ nodes_one p n es s (find path_cmp p es) refl

pub one_has_after : (p : Path) (n : ℕ) (es : Entries Entry) (s : is_sorted path_cmp es ≡ true) (o : Option Entry) → o ≡ find path_cmp p es → (ps : List Path) → one_has ps (gens_of (with_number p n es o)) ≡ one_has ps (gens_of es)
one_has_after p n es s o h [] = refl
one_has_after p n es s o h (q ∷ ps) = λ i. present_one p n es s o h q i || one_has_after p n es s o h ps i

-- THE GREATEST
pub next_small : (n : ℕ) → next_generation n ≤ generation_max
next_small n = grind (arith, nat_tests)

next_more : (n : ℕ) → n ≤ generation_max → n ≤ next_generation n
next_more n h = grind (arith, nat_tests)

pub all_restamped : (changed : List Path) (n m : ℕ) (gens : Generations) → n ≤ m → AllByRecursion (λ e. e.1 ≤ m) gens → AllByRecursion (λ e. e.1 ≤ m) (restamped changed n gens)
all_restamped changed n m [] h all = tt
all_restamped changed n m (e ∷ es) h all =
    (elim (has_path e.0 changed) as (λ b. cond b n e.1 ≤ m) [ true ↦ h | false ↦ all.0 ], all_restamped changed n m es h all.1)

parts_of : (a b m : ℕ) → greater a b ≤ m → (a ≤ m) × (b ≤ m)
parts_of a b m h = let is = greater_is a b in (omega (arith, is, h), omega (arith, is, h))

greater_within : (a b m : ℕ) → a ≤ m → b ≤ m → greater a b ≤ m
greater_within a b m h k = let is = greater_is a b in omega (arith, is, h, k)

all_within : (m : ℕ) (gens : Generations) → greatest gens ≤ m → AllByRecursion (λ e. e.1 ≤ m) gens
all_within m [] h = tt
all_within m (e ∷ es) h = let parts = parts_of e.1 (greatest es) m h in (parts.0, all_within m es parts.1)

pub greatest_within : (m : ℕ) (gens : Generations) → AllByRecursion (λ e. e.1 ≤ m) gens → greatest gens ≤ m
greatest_within m [] all = omega arith
greatest_within m (e ∷ es) all = greater_within e.1 (greatest es) m all.0 (greatest_within m es all.1)

found_within : (q : Path) (gens : Generations) (x : ℕ) → find path_cmp q gens ≡ Some x → x ≤ greatest gens
found_within q [] x h = not_Some h
found_within q (e ∷ es) x h = by (λ k. found_within q es x k) (same_path q e.0) h
  where
    by : (find path_cmp q es ≡ Some x → x ≤ greatest es) → (b : Bool) → cond b (Some e.1) (find path_cmp q es) ≡ Some x → x ≤ greater e.1 (greatest es)
    by more true k = subst (λ y. y ≤ greater e.1 (greatest es)) (from_Some k) (parts_of e.1 (greatest es) (greater e.1 (greatest es)) (omega arith)).0
    by more false k = le_trans (more k) (parts_of e.1 (greatest es) (greater e.1 (greatest es)) (omega arith)).1

or_true : (b : Bool) → (b || true) ≡ true
or_true true = refl
or_true false = refl

-- where one of the paths is there
module _ (changed : List Path) (n : ℕ) (gens : Generations) where
  reached_at : (q : Path) (o : Option ℕ) → find path_cmp q gens ≡ o → is_some o ≡ true → has_path q changed ≡ true → n ≤ greatest (restamped changed n gens)
  reached_at q None e there h = not_both there refl
  reached_at q (Some x) e there h =
      found_within q (restamped changed n gens) n (found_restamped changed n gens q ∙ ap (option_map (number changed n q)) e ∙ ap (λ b. Some (cond b n x)) h)

  pub reached : (ps : List Path) → ((q : Path) → has_path q ps ≡ true → has_path q changed ≡ true) → one_has ps gens ≡ true → n ≤ greatest (restamped changed n gens)
  reached [] within h = not_both h refl
  reached (p ∷ ps) within h = by (λ k. reached ps (λ q m. within q (ap (λ b. same_path q p || b) m ∙ or_true (same_path q p))) k) (is_some (find path_cmp p gens)) refl h
    where
      by : (one_has ps gens ≡ true → n ≤ greatest (restamped changed n gens)) → (b : Bool) → is_some (find path_cmp p gens) ≡ b → (b || one_has ps gens) ≡ true → n ≤ greatest (restamped changed n gens)
      by more true e k = reached_at p (find path_cmp p gens) refl e (within p (ap (λ b. b || has_path p ps) (same_path-itself p)))
      by more false e k = more k

  -- where none is
  absent_all : (ps : List Path) (q : Path) → one_has ps gens ≡ false → has_path q ps ≡ true → is_some (find path_cmp q gens) ≡ false
  absent_all [] q none h = not_both h refl
  absent_all (p ∷ ps) q none h =
      let parts = or_parts (is_some (find path_cmp p gens)) (one_has ps gens) none in
      by parts.0 (λ k. absent_all ps q parts.1 k) (same_path q p) refl h
    where
      by : is_some (find path_cmp p gens) ≡ false → (has_path q ps ≡ true → is_some (find path_cmp q gens) ≡ false) → (b : Bool) → same_path q p ≡ b → (b || has_path q ps) ≡ true → is_some (find path_cmp q gens) ≡ false
      by gone more true e k = ap (λ r. is_some (find path_cmp r gens)) (same_path-is q p e) ∙ gone
      by gone more false e k = more k

  pub unstamped : is_sorted path_cmp gens ≡ true → one_has changed gens ≡ false → restamped changed n gens ≡ gens
  unstamped s none =
      same_maps path_cmp path_total path_exact (restamped changed n gens) gens (sorted_restamped changed n gens s) s
      (λ q. found_restamped changed n gens q ∙ by q (find path_cmp q gens) refl (has_path q changed) refl)
    where
      by : (q : Path) (o : Option ℕ) → find path_cmp q gens ≡ o → (b : Bool) → has_path q changed ≡ b → option_map (number changed n q) o ≡ o
      by q None e b h = refl
      by q (Some x) e true h = not_both (ap is_some e) (absent_all changed q none h)
      by q (Some x) e false h = ap (λ b. Some (cond b n x)) h

pub counted_is : (changed : List Path) (counter : ℕ) (gens : Generations) → is_sorted path_cmp gens ≡ true → counter ≤ generation_max → counter ≡ greatest gens → counted changed counter gens ≡ greatest (restamped changed (next_generation counter) gens)
counted_is changed counter gens s small same = by (one_has changed gens) refl
  where
    n : ℕ
    n = next_generation counter

    most : greatest (restamped changed n gens) ≤ n
    most = greatest_within n (restamped changed n gens) (all_restamped changed n n gens (omega arith) (all_within n gens (subst (λ m. m ≤ n) same (next_more counter small))))

    by : (b : Bool) → one_has changed gens ≡ b → cond b n counter ≡ greatest (restamped changed n gens)
    by true e = (let least = reached changed n gens changed (λ q h. h) e in omega (arith, least, most))
    by false e = same ∙ ap greatest (sym (unstamped changed n gens s e))

-- IN THE DEFINITIONS' WORDS
pub numbered_is : (changed : List Path) (counter : ℕ) (es : Entries Entry) → IsTree (nodes_of es) → counter ≡ greatest (gens_of es) → restamped changed (next_generation counter) (gens_of es) ≡ numbered changed (gens_of es) (nodes_of es)
numbered_is changed counter es is same =
    same_maps path_cmp path_total path_exact (restamped changed n gens) (numbered changed gens (nodes_of es))
    (sorted_restamped changed n gens (rising_gens es is)) (sorted_keyed path_cmp after (nodes_of es) ∙ is.rising)
    (λ q. found_restamped changed n gens q ∙ by q (find path_cmp q es) refl ∙ sym (found_keyed path_cmp after path_exact q (nodes_of es)))
  where
    n : ℕ
    n = next_generation counter

    gens : Generations
    gens = gens_of es

    after : Path → Node → ℕ
    after q node = number_after changed gens q

    by : (q : Path) (o : Option Entry) → find path_cmp q es ≡ o → option_map (number changed n q) (find path_cmp q gens) ≡ option_map (after q) (node_at (nodes_of es) q)
    by q None e =
        ap (option_map (number changed n q)) (number_found q es ∙ ap (option_map number_of) e)
        ∙ sym (ap (option_map (after q)) (node_found q es ∙ ap (option_map node_of) e))
    by q (Some entry) e =
        ap (option_map (number changed n q)) (number_found q es ∙ ap (option_map number_of) e)
        ∙ (λ i. Some (cond (has_path q changed) (next_generation (same i)) (sym (number_there q es entry (sym e)) i)))
        ∙ sym (ap (option_map (after q)) (node_found q es ∙ ap (option_map node_of) e))

-- A STEP of the loop over the changed paths
module _ (changed : List Path) (i : ℕ) (p : Path) (n : ℕ) (m k : Map Entry) (h : i < length changed) (is : p ≡ get_or changed i p) (made : k ≡ record m { entries = with_number p n m.entries (find path_cmp p m.entries) }) where
  split : drop i changed ≡ p ∷ drop (i + 1) changed
  split = drop_more changed i p h ∙ ap (λ q. q ∷ drop (i + 1) changed) (sym is)

  pub step_map : ◌≡◌ {A = Map Entry} (record k { entries = with_numbers (drop (i + 1) changed) n k.entries }) (record m { entries = with_numbers (drop i changed) n m.entries })
  step_map =
      ap (λ (x : Map Entry). record x { entries = with_numbers (drop (i + 1) changed) n x.entries }) made
      ∙ sym (ap (λ ps. record m { entries = with_numbers ps n m.entries }) split)

  or_assoc : (a b c : Bool) → ((a || b) || c) ≡ (a || (b || c))
  or_assoc true b c = refl
  or_assoc false b c = refl

  pub step_found : (before here : Bool) → is_sorted path_cmp m.entries ≡ true → here ≡ is_some (find path_cmp p (gens_of m.entries)) → ((before || here) || one_has (drop (i + 1) changed) (gens_of k.entries)) ≡ (before || one_has (drop i changed) (gens_of m.entries))
  step_found before here s e =
      or_assoc before here _
      ∙ (λ j. before || (e j || (ap (λ (x : Map Entry). one_has (drop (i + 1) changed) (gens_of x.entries)) made ∙ one_has_after p n m.entries s (find path_cmp p m.entries) refl (drop (i + 1) changed)) j))
      ∙ sym (ap (λ ps. before || one_has ps (gens_of m.entries)) split)
