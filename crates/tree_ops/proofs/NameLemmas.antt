-- The strings of children's names, one after the other.
use Rattle.std.specs.Prelude.{◌≡◌, ◌+◌, ◌<◌, List, [], ◌∷◌, ◌++◌, length, ℕ, Some, Ok}
use Rattle.std.proofs.Common.{sym, ap, ◌∙◌, arith, append_assoc}
use Rattle.xs_model.specs.Laws.{HasNames}
use Rattle.xs_model.specs.Paths.{Name, Path, child, text, path_of}
use Rattle.xs_model.specs.Trees.{Tree, IsTree, children}
use Rattle.xs_model.specs.Messages.{string, strings}
use Rattle.xs_model.proofs.NameLemmas.{spelled-names}
use Rattle.node_tree.specs.Names.{names_above, first_name}
use Rattle.tree_ops.proofs.ChildLemmas.{children_rise, split_first, names_next}

last_name : (p : Path) (n : Name) → HasNames (child p n) → 0 < length n
last_name [] n h = h.0.filled
last_name (m ∷ p) n h = last_name p n h.1

-- a child whose text reads as its path has a name of a byte or more
pub filled_name : (p : Path) (n : Name) → path_of (text (child p n)) 0 ≡ Ok (child p n) → 0 < length n
filled_name p n h = last_name p n (spelled-names (text (child p n)) 0 (child p n) h)

-- the next name, and those above it
pub record NextName (names : List Name) (leaf n : Name) : Type 0 where
  pub split : names_above leaf names ≡ n ∷ names_above n names

pub next_name : (tree : Tree) → IsTree tree → (p : Path) (leaf n : Name) → first_name (names_above leaf (children tree p)) ≡ Some n → path_of (text (child p n)) 0 ≡ Ok (child p n) → NextName (children tree p) leaf n
next_name tree is p leaf n found spelled =
    let names = children tree p in
    let parts = split_first (names_above leaf names) n found in
    record { split = parts.1 ∙ ap (λ ns. n ∷ ns) (sym (names_next names (children_rise tree p is.rising) leaf n parts.0 (filled_name p n spelled) parts.1)) }

pub fewer_names : (names : List Name) (leaf n : Name) → NextName names leaf n → length (names_above leaf names) ≡ length (names_above n names) + 1
fewer_names names leaf n next = omega (arith, ap length next.split)

pub strings_on : (payload : List ℕ) (names : List Name) (leaf n : Name) → NextName names leaf n → payload ++ strings (names_above leaf names) ≡ strings names → (payload ++ string n) ++ strings (names_above n names) ≡ strings names
strings_on payload names leaf n next so_far =
    append_assoc payload (string n) (strings (names_above n names)) ∙ ap (λ ns. payload ++ strings ns) (sym next.split) ∙ so_far
