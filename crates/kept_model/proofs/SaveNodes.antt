-- The records of the nodes of the store: `/` takes the place of the node of a new store, and each other node comes behind
-- those that came, with its parent among them.
use Rattle.std.specs.Prelude.{◌≡◌, ℕ, Bool, true, false, cond, ◌&&◌, List, [], ◌∷◌, ◌++◌, map, Option, Some, is_some, Ok}
use Rattle.std.specs.List.{AllByRecursion, list_all}
use Rattle.std.specs.Ordering.{is_eq, ordering_then}
use Rattle.std.specs.declared.cmp.Ordering.TheVariants.{Less, Greater}
use Rattle.std.specs.Cmp.{tied_itself}
use Rattle.std.specs.FinMap.{find, is_sorted}
use Rattle.std.specs.FinMap.Entries.{below_all}
use Rattle.std.proofs.Common.{sym, refl, ap, subst, ◌∙◌}
use Rattle.std.proofs.lemmas.Bool.{and_parts}
use Rattle.xs_model.specs.Paths.{Path, Name, path_cmp, parents, child}
use Rattle.xs_model.specs.Trees.{Node, Tree, IsTree, new_tree, is_present, has_entry}
use Rattle.xs_model.specs.Generations.{Generations, new_generations, or_zero, generation_of}
use Rattle.xs_model.specs.Requests.{is_root}
use Rattle.xs_model.proofs.Maps.{not_both}
use Rattle.xs_model.proofs.PathLemmas.{name_total, path_total}
use Rattle.machine_model.proofs.Lists.{all_weaker}
use Rattle.mark_model.proofs.StoreMaps.{map_map, map_itself, sorted_keys}
use Rattle.stream_model.specs.Record.{StreamRecord}
use Rattle.kept_model.specs.States.{State, ConnectionOf}
use Rattle.kept_model.specs.Said.{Said}
use Rattle.kept_model.specs.Sound.{IsSound, IsSpelled, NodeFits}
use Rattle.kept_model.specs.Images.{node_record}
use Rattle.kept_model.proofs.SaveLists.{AreBefore, keyed, before, before_keyed, put_last, find_none, find_here, find_front, behind_all, below_none, one_more, all_at, walk_map}
use Rattle.kept_model.proofs.SaveNormal.{all_parents, each_found}
use Rattle.kept_model.proofs.SaveLoads.{loads_node}
use Rattle.kept_model.proofs.SaveLeads.{came, Leads, step}

-- PATHS
less_child : (q : Path) (n : Name) → path_cmp q (child q n) ≡ Less
less_child [] n = refl
less_child (m ∷ q) n = ap (λ r. ordering_then r (path_cmp q (child q n))) (tied_itself name_total m) ∙ less_child q n

not_root : (p : Path) → path_cmp p [] ≡ Greater → is_root p ≡ false
not_root [] e = not_both refl (ap is_eq e)
not_root (n ∷ ns) e = refl

all_listed : (test : Path → Bool) (ps : List Path) → AllByRecursion (λ p. test p ≡ true) ps → list_all test ps ≡ true
all_listed test [] h = refl
all_listed test (p ∷ ps) h = ap (λ b. b && list_all test ps) h.0 ∙ all_listed test ps h.1

-- the first entry of a tree is that of `/`
record RootFirst (tree : Tree) : Type 0 where
  node : Node
  rest : Tree
  is : tree ≡ ([], node) ∷ rest

first_is : (p : Path) (node : Node) (es : Tree) → below_all path_cmp p es ≡ true → is_present ((p, node) ∷ es) [] ≡ true → RootFirst ((p, node) ∷ es)
first_is [] node es b h = record { node = node; rest = es; is = refl }
first_is (n ∷ ns) node es b h = not_both h (ap is_some (below_none path_cmp path_total [] (n ∷ ns) es refl b))

root_first : (tree : Tree) → is_sorted path_cmp tree ≡ true → is_present tree [] ≡ true → RootFirst tree
root_first [] s h = not_both h refl
root_first (e ∷ es) s h = first_is e.0 e.1 es (and_parts (below_all path_cmp e.0 es) (is_sorted path_cmp es) s).0 h

-- NUMBERS of the paths of the tree are all numbers
abbrev paired : Path → Option ℕ → Path × ℕ
paired p o = (p, or_zero o)

module _ (tree : Tree) (gens : Generations) (paths : map (λ e. e.0) gens ≡ map (λ e. e.0) tree) (rising : is_sorted path_cmp tree ≡ true) where
  abbrev numbered : Path → Path × ℕ
  numbered p = paired p (find path_cmp p gens)

  numbers_again : keyed (λ (e : Path × Node). generation_of gens e.0) tree ≡ gens
  numbers_again =
      sym (map_map (λ (e : Path × Node). e.0) numbered tree)
      ∙ ap (map numbered) (sym paths)
      ∙ map_map (λ (e : Path × ℕ). e.0) numbered gens
      ∙ map_itself (λ (e : Path × ℕ). numbered e.0) gens
      (all_weaker (λ (e : Path × ℕ). find path_cmp e.0 gens ≡ Some e.1) (λ (e : Path × ℕ). numbered e.0 ≡ e) (λ e found. ap (paired e.0) found) gens (each_found gens (sorted_keys path_cmp gens tree paths ∙ rising)))

module _ (s : State) (sound : IsSound s) (conns : List (ℕ × ConnectionOf Said)) where
  is_tree : IsTree s.tree
  is_tree = sound.store.kept.tree

  abbrev number : Path × Node → ℕ
  number e = generation_of s.gens e.0

  module _ (node : Node) (rest : Tree) (first : s.tree ≡ ([], node) ∷ rest) where
    abbrev NodeLeads : Tree → Tree → List StreamRecord → Type 0
    NodeLeads done todo more = Leads s (([], node) ∷ done) (keyed number (([], node) ∷ done)) conns true more

    module _ (done : Tree) (e : Path × Node) (todo : Tree) (is : done ++ e ∷ todo ≡ rest) where
      abbrev there : Tree
      there = ([], node) ∷ done

      whole : there ++ e ∷ todo ≡ s.tree
      whole = ap (λ (es : Tree). ([], node) ∷ es) is ∙ sym first

      rising : is_sorted path_cmp (there ++ e ∷ todo) ≡ true
      rising = subst (λ (es : Tree). is_sorted path_cmp es ≡ true) (sym whole) is_tree.rising

      ahead : AreBefore path_cmp e.0 there
      ahead = before path_cmp path_total there e todo rising

      spelled : IsSpelled e.0
      spelled = (all_at (λ (f : Path × Node). IsSpelled f.0 × NodeFits f.1) there e todo (subst (λ (es : Tree). AllByRecursion (λ (f : Path × Node). IsSpelled f.0 × NodeFits f.1) es) (sym whole) sound.store.nodes)).0

      entry : has_entry e.1.perms ≡ true
      entry = all_at (λ (f : Path × Node). has_entry f.1.perms ≡ true) there e todo (subst (λ (es : Tree). AllByRecursion (λ (f : Path × Node). has_entry f.1.perms ≡ true) es) (sym whole) is_tree.perms)

      present : is_present s.tree e.0 ≡ true
      present = subst (λ (es : Tree). is_present es e.0 ≡ true) whole (ap is_some (find_here path_cmp path_total e.0 e.1 there todo ahead))

      -- its parent has come
      parent_there : (q : Path) (n : Name) → e.0 ≡ child q n → is_present there q ≡ true
      parent_there q n c =
          let above : is_present s.tree q ≡ true = is_tree.parents q n (subst (λ (p : Path). is_present s.tree p ≡ true) c present) in
          let less : path_cmp q e.0 ≡ Less = subst (λ (p : Path). path_cmp q p ≡ Less) (sym c) (less_child q n) in
          ap is_some (sym (find_front path_cmp path_total q there e todo less (behind_all path_cmp there e todo rising)))
          ∙ subst (λ (es : Tree). is_present es q ≡ true) (sym whole) above

      new : cond (is_root e.0) true (is_present there e.0) ≡ false
      new = ap (λ b. cond b true (is_present there e.0)) (not_root e.0 ahead.0) ∙ ap is_some (find_none path_cmp e.0 there ahead)

      up : list_all (is_present there) (parents e.0) ≡ true
      up = all_listed (is_present there) (parents e.0) (all_parents (λ q. is_present there q ≡ true) e.0 parent_there)

      node_step : (more : List StreamRecord) → NodeLeads (done ++ e ∷ []) todo more → NodeLeads done (e ∷ todo) (node_record s.gens e.0 e.1 ∷ more)
      node_step more leads =
          step s there (([], node) ∷ (done ++ e ∷ [])) (keyed number there) (keyed number (([], node) ∷ (done ++ e ∷ []))) conns conns true true (node_record s.gens e.0 e.1) more (λ n pending.
          loads_node n (came there (keyed number there) s.globals conns true pending) (number e) e.0 e.1 spelled entry new up
          ∙ (λ i. Ok (came (put_last path_cmp e.0 e.1 there ahead i) ((put_last path_cmp e.0 (number e) (keyed number there) (before_keyed path_cmp number e.0 there ahead) ∙ sym (one_more number there e)) i) s.globals conns true pending))) leads

    root_spelled : IsSpelled []
    root_spelled = (subst (λ (es : Tree). AllByRecursion (λ (f : Path × Node). IsSpelled f.0 × NodeFits f.1) es) first sound.store.nodes).0.0

    root_entry : has_entry node.perms ≡ true
    root_entry = (subst (λ (es : Tree). AllByRecursion (λ (f : Path × Node). has_entry f.1.perms ≡ true) es) first is_tree.perms).0

    root_step : (more : List StreamRecord) → NodeLeads [] rest more → Leads s new_tree new_generations conns false (node_record s.gens [] node ∷ more)
    root_step more leads =
        step s new_tree (([], node) ∷ []) new_generations (keyed number (([], node) ∷ [])) conns conns false true (node_record s.gens [] node) more (λ n pending.
        loads_node n (came new_tree new_generations s.globals conns false pending) (generation_of s.gens []) [] node root_spelled root_entry refl refl) leads

    nodes_by : (more : List StreamRecord) → Leads s s.tree s.gens conns true more → Leads s new_tree new_generations conns false (map (λ (e : Path × Node). node_record s.gens e.0 e.1) s.tree ++ more)
    nodes_by more leads =
        subst (λ (es : Tree). Leads s new_tree new_generations conns false (map (λ (e : Path × Node). node_record s.gens e.0 e.1) es ++ more)) (sym first)
        (root_step (map (λ (e : Path × Node). node_record s.gens e.0 e.1) rest ++ more)
        (walk_map NodeLeads (λ (e : Path × Node). node_record s.gens e.0 e.1) rest (λ done e todo rs is. node_step done e todo is rs) more
        (subst (λ (es : Tree). Leads s es (keyed number es) conns true more) first
        (subst (λ (gens : Generations). Leads s s.tree gens conns true more) (sym (numbers_again s.tree s.gens sound.store.numbers.paths is_tree.rising)) leads))))

  pub nodes_lead : (more : List StreamRecord) → Leads s s.tree s.gens conns true more → Leads s new_tree new_generations conns false (map (λ (e : Path × Node). node_record s.gens e.0 e.1) s.tree ++ more)
  nodes_lead = let r = root_first s.tree is_tree.rising is_tree.root in nodes_by r.node r.rest r.is
