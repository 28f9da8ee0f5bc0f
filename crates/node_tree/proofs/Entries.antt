-- The nodes and the numbers of entries: what is found in them, and what an edit of the entries leaves of them.
use Rattle.std.specs.Prelude.{◌≡◌, ℕ, ◌<◌, ◌≤◌, suc, Bool, true, false, cond, not, List, [], ◌∷◌, length, map, max, Option, Some, None, is_some, nat_lt}
use Rattle.std.specs.Option.{option_map}
use Rattle.std.specs.Ordering.{is_lt}
use Rattle.std.specs.FinMap.{find, put, is_sorted}
use Rattle.std.specs.List as lists
use Rattle.std.specs.List.{AllByRecursion}
use Rattle.std.proofs.Common.{sym, refl, ap, subst, ◌∙◌, arith}
use Rattle.std.proofs.lemmas.Bool.Decides.{nat_tests}
use Rattle.path_map.specs.Map.{Entries, without}
use Rattle.path_map.specs.Marks.{paths, is_past, first_past, path_behind}
use Rattle.xs_model.specs.Paths.{Path, Name, path_cmp, same_path}
use Rattle.xs_model.specs.Trees.{Tree, Node, IsTree, node_at, is_present, edited_at}
use Rattle.xs_model.specs.Generations.{Generations, generation_of, generation_max, or_zero, greater}
use Rattle.xs_model.proofs.Maps.{from_Some, not_both, found_map, sorted_map, found_put, sorted_put, same_maps, all_found, all_put}
use Rattle.xs_model.proofs.PathLemmas.{path_total, path_exact, same_path-is}
use Rattle.node_tree.specs.KeptTree.{nodes_of, gens_of}
use Rattle.node_tree.specs.declared.entry.Entry.{Entry}
use Rattle.node_tree.proofs.Mapped.{mapped_put, mapped_where}

abbrev pub node_of : Entry → Node
node_of e = e.node

abbrev pub number_of : Entry → ℕ
number_of e = e.generation

abbrev pub entry : Node → ℕ → Entry
entry node n = record { node = node; generation = n }

-- WHAT IS FOUND
pub node_found : (p : Path) (es : Entries Entry) → node_at (nodes_of es) p ≡ option_map node_of (find path_cmp p es)
node_found p es = found_map path_cmp node_of p es

pub number_found : (p : Path) (es : Entries Entry) → find path_cmp p (gens_of es) ≡ option_map number_of (find path_cmp p es)
number_found p es = found_map path_cmp number_of p es

pub present_is : (p : Path) (es : Entries Entry) → is_present (nodes_of es) p ≡ is_some (find path_cmp p es)
present_is p es = ap is_some (node_found p es) ∙ kept (find path_cmp p es)
  where
    kept : (o : Option Entry) → is_some (option_map node_of o) ≡ is_some o
    kept None = refl
    kept (Some e) = refl

pub rising_entries : (es : Entries Entry) → IsTree (nodes_of es) → is_sorted path_cmp es ≡ true
rising_entries es is = sym (sorted_map path_cmp node_of es) ∙ is.rising

pub rising_gens : (es : Entries Entry) → IsTree (nodes_of es) → is_sorted path_cmp (gens_of es) ≡ true
rising_gens es is = sorted_map path_cmp number_of es ∙ rising_entries es is

-- PATHS
paths_mapped : {X Y : Type 0} (f : X → Y) (es : List (Path × X)) → paths (map (λ e. (e.0, f e.1)) es) ≡ paths es
paths_mapped f [] = refl
paths_mapped f (e ∷ es) = ap (λ ps. e.0 ∷ ps) (paths_mapped f es)

pub same_keys : (es : Entries Entry) → paths (gens_of es) ≡ paths (nodes_of es)
same_keys es = paths_mapped number_of es ∙ sym (paths_mapped node_of es)

pub same_length : (es : Entries Entry) → length (nodes_of es) ≡ length es
same_length [] = refl
same_length (e ∷ es) = ap suc (same_length es)

pub behind_mapped : (es : Entries Entry) (p : Path) → path_behind es p ≡ path_behind (nodes_of es) p
behind_mapped es p = ap (λ (ps : List Path). lists.find (λ q. is_lt (path_cmp p q)) ps) (sym (paths_mapped node_of es))

pub past_mapped : (es : Entries Entry) (p : Path) (leaf : Name) → first_past p leaf es ≡ first_past p leaf (nodes_of es)
past_mapped es p leaf = ap (λ (ps : List Path). lists.find (is_past p leaf) ps) (sym (paths_mapped node_of es))

pub some_entry : (es : Entries Entry) → IsTree (nodes_of es) → 0 < length es
some_entry [] is = let root = is.root in cc
some_entry (e ∷ es) is = omega arith

-- EDITS
pub nodes_put : (p : Path) (node : Node) (n : ℕ) (es : Entries Entry) → nodes_of (put path_cmp p (entry node n) es) ≡ put path_cmp p node (nodes_of es)
nodes_put p node n es = mapped_put path_cmp node_of p (entry node n) es

pub gens_put : (p : Path) (node : Node) (n : ℕ) (es : Entries Entry) → gens_of (put path_cmp p (entry node n) es) ≡ put path_cmp p n (gens_of es)
gens_put p node n es = mapped_put path_cmp number_of p (entry node n) es

pub nodes_without : (p : Path) (es : Entries Entry) → nodes_of (without p es) ≡ edited_at (nodes_of es) p None
nodes_without p es = mapped_where path_cmp node_of (λ q. not (same_path p q)) es

pub gens_without : (p : Path) (es : Entries Entry) → gens_of (without p es) ≡ without p (gens_of es)
gens_without p es = mapped_where path_cmp number_of (λ q. not (same_path p q)) es

-- the number of a path that is there, and of one that is not
pub number_there : (p : Path) (es : Entries Entry) (e : Entry) → Some e ≡ find path_cmp p es → generation_of (gens_of es) p ≡ e.generation
number_there p es e h = ap or_zero (number_found p es ∙ ap (option_map number_of) (sym h))

pub number_absent : (p : Path) (es : Entries Entry) → None ≡ find path_cmp p es → generation_of (gens_of es) p ≡ 0
number_absent p es h = ap or_zero (number_found p es ∙ ap (option_map number_of) (sym h))

pub number_small : (p : Path) (es : Entries Entry) (e : Entry) → AllByRecursion (λ e. e.1 ≤ generation_max) (gens_of es) → Some e ≡ find path_cmp p es → e.generation ≤ generation_max
number_small p es e all h = all_found path_cmp (λ n. n ≤ generation_max) p (gens_of es) e.generation all (number_found p es ∙ ap (option_map number_of) (sym h))

pub numbers_put : (p : Path) (node : Node) (n : ℕ) (es : Entries Entry) → n ≤ generation_max → AllByRecursion (λ e. e.1 ≤ generation_max) (gens_of es) → AllByRecursion (λ e. e.1 ≤ generation_max) (gens_of (put path_cmp p (entry node n) es))
numbers_put p node n es h all =
    subst (λ (g : Generations). AllByRecursion (λ e. e.1 ≤ generation_max) g) (sym (gens_put p node n es)) (all_put path_cmp (λ n. n ≤ generation_max) p n (gens_of es) h all)

-- what is found, written back, changes nothing
pub put_same : {X : Type 0} (p : Path) (x : X) (es : List (Path × X)) → is_sorted path_cmp es ≡ true → find path_cmp p es ≡ Some x → put path_cmp p x es ≡ es
put_same p x es s h =
    same_maps path_cmp path_total path_exact (put path_cmp p x es) es (sorted_put path_cmp path_total p x es s) s
    (λ q. found_put path_cmp path_total q p x es ∙ by q (same_path q p) refl)
  where
    by : (q : Path) (b : Bool) → same_path q p ≡ b → cond b (Some x) (find path_cmp q es) ≡ find path_cmp q es
    by q true e = sym h ∙ ap (λ r. find path_cmp r es) (sym (same_path-is q p e))
    by q false e = refl

pub nodes_stay : (p : Path) (e : Entry) (n : ℕ) (es : Entries Entry) → IsTree (nodes_of es) → Some e ≡ find path_cmp p es → nodes_of (put path_cmp p (entry e.node n) es) ≡ nodes_of es
nodes_stay p e n es is h =
    nodes_put p e.node n es ∙ put_same p e.node (nodes_of es) is.rising (node_found p es ∙ ap (option_map node_of) (sym h))

pub greater_is : (m n : ℕ) → max m n ≡ greater m n
greater_is m n = grind (arith, nat_tests)
