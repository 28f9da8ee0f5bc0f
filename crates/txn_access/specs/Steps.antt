-- Steps from name to name among the children that a transaction sees. This project's own.
use Rattle.std.specs.Prelude.{◌≡◌, ◌==◌, ◌<◌, ◌-◌, ℕ, suc, Bool, length, if◌then◌else◌, Option, Some, None, Ok, IfSome, is_some}
use Rattle.std.specs.Borrow.{Bor}
use Rattle.std.specs.Option.{option_map}
use Rattle.std.specs.List.{filter}
use Rattle.std.specs.declared.cmp.Ordering.{Ordering}
use Rattle.std.specs.declared.cmp.Ordering.TheVariants.{Greater}
use Rattle.path_map.specs.Marks.{paths, is_past}
use Rattle.node_tree.specs.Names.{first_name, names_above}
use Rattle.xs_model.specs.Paths.{Path, Name, name_cmp, child, text, path_of}
use Rattle.xs_model.specs.Trees.{Tree, Node, children}
use Rattle.mark_model.specs.Marks.{Mark, Marks, mark_at, shown, overlay}
use Rattle.txn_access.specs.declared.names.Step.{Step}

-- the next child's name above a leaf, an empty one standing below all
abbrev pub next_name : Tree → Path → Name → Option Name
next_name tree p leaf = first_name (names_above leaf (children tree p))

-- so many marks stand behind a path, and behind all that is at and below its child of this name
abbrev pub past_count : Path → Name → Marks → ℕ
past_count p leaf marks = length (filter (is_past p leaf) (paths marks))

-- whether a node is seen at a path, by its mark and by whether one stands in the tree
abbrev pub is_shown : Option (Option Node) → Bool → Bool
is_shown None under = under
is_shown (Some node) under = is_some node

abbrev pub is_seen : Option Mark → Bool → Bool
is_seen None under = under
is_seen (Some mark) under = is_shown (shown mark) under

-- the tree's own next name, if there is one, beside the marks' next one
abbrev pub own_order : Option Name → Name → Ordering
own_order None name = Greater
own_order (Some own) name = name_cmp own name

-- the mark of a child to which a marked path leads, if that is the child itself
abbrev pub mark_on : Marks → Path → Path → Option Mark
mark_on marks p q = if length p == length q - 1 then mark_at marks q else None

-- the text of each name reads as its path
abbrev pub IsSpelled : Path → Option (Bor Name) → Type 0
IsSpelled p name = IfSome name (λ n. path_of (text (child p n.now)) 0 ≡ Ok (child p n.now))

-- A step from a leaf: it found the next child that is seen, or a name with no node, from which to go on
pub record IsFound (tree : Tree) (marks : Marks) (p : Path) (leaf : Name) (found : Option (Bor Name)) : Type 0 where
  pub name : option_map (λ n. n.now) found ≡ next_name (overlay tree marks) p leaf
  pub spelled : IsSpelled p found

pub record IsPassed (tree : Tree) (marks : Marks) (p : Path) (leaf name : Name) : Type 0 where
  pub next : next_name (overlay tree marks) p leaf ≡ next_name (overlay tree marks) p name
  pub fewer : past_count p name marks < past_count p leaf marks

abbrev pub IsStepTo : Tree → Marks → Path → Name → Option (Bor Name) → Option (Bor Name) → Type 0
IsStepTo tree marks p leaf None found = IsFound tree marks p leaf found
IsStepTo tree marks p leaf (Some name) found = IsPassed tree marks p leaf name.now

abbrev pub IsStep : Tree → Marks → Path → Name → Step → Type 0
IsStep tree marks p leaf step = IsStepTo tree marks p leaf step.passed step.found

-- so many steps are left at most
abbrev pub steps_left : Path → Marks → Option (Bor Name) → ℕ
steps_left p marks None = 0
steps_left p marks (Some name) = suc (past_count p name.now marks)
