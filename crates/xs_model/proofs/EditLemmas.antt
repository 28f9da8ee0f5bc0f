-- What edits leave at each path, and that they keep a tree in order.
use Rattle.std.specs.Prelude.{◌≡◌, Bool, true, false, cond, ◌||◌, List, [], ◌∷◌, ◌++◌, Option, Some, None, is_some}
use Rattle.std.specs.FinMap.{is_sorted}
use Rattle.std.proofs.Common.{sym, refl, ap, ◌∙◌}
use Rattle.xs_model.specs.Paths.{Path, path_cmp, same_path, has_path}
use Rattle.xs_model.specs.Trees.{Node, Tree, node_at, is_present, Edit, edited_at, edited, edit_paths}
use Rattle.xs_model.proofs.Maps.{not_both, sorted_put, sorted_where, found_put, found_without}
use Rattle.xs_model.proofs.PathLemmas.{path_total}

pub node_at-edited_at : (tree : Tree) (p : Path) (new : Option Node) (q : Path) → node_at (edited_at tree p new) q ≡ cond (same_path q p) new (node_at tree q)
node_at-edited_at tree p (Some node) q = found_put path_cmp path_total q p node tree
node_at-edited_at tree p None q = found_without path_cmp path_total q p tree

pub sorted_edit : (tree : Tree) (p : Path) (new : Option Node) → is_sorted path_cmp tree ≡ true → is_sorted path_cmp (edited_at tree p new) ≡ true
sorted_edit tree p (Some node) h = sorted_put path_cmp path_total p node tree h
sorted_edit tree p None h = sorted_where path_cmp _ tree h

pub sorted_edits : (tree : Tree) (es : List Edit) → is_sorted path_cmp tree ≡ true → is_sorted path_cmp (edited tree es) ≡ true
sorted_edits tree [] h = h
sorted_edits tree (e ∷ es) h = sorted_edits (edited_at tree e.0 e.1) es (sorted_edit tree e.0 e.1 h)

-- what edits make of what stands at a path: the last edit there counts
abbrev pub after_edits : List Edit → Path → Option Node → Option Node
after_edits [] q old = old
after_edits (e ∷ es) q old = after_edits es q (cond (same_path q e.0) e.1 old)

pub node_at-edited : (tree : Tree) (es : List Edit) (q : Path) → node_at (edited tree es) q ≡ after_edits es q (node_at tree q)
node_at-edited tree [] q = refl
node_at-edited tree (e ∷ es) q = node_at-edited (edited_at tree e.0 e.1) es q ∙ ap (after_edits es q) (node_at-edited_at tree e.0 e.1 q)

-- a path that is not among the edits keeps its node
pub after-elsewhere : (es : List Edit) (q : Path) (old : Option Node) → has_path q (edit_paths es) ≡ false → after_edits es q old ≡ old
after-elsewhere [] q old = λ h. refl
after-elsewhere (e ∷ es) q old =
    elim (same_path q e.0) as (λ b. (b || has_path q (edit_paths es)) ≡ false → after_edits es q (cond b e.1 old) ≡ old) [
      | true ↦ λ h. not_both refl h
      | false ↦ λ h. after-elsewhere es q old h
    ]

-- at a path that is among them nothing depends on what stood there
pub after-written : (es : List Edit) (q : Path) (old other : Option Node) → has_path q (edit_paths es) ≡ true → after_edits es q old ≡ after_edits es q other
after-written [] q old other = λ h. not_both h refl
after-written (e ∷ es) q old other =
    elim (same_path q e.0) as (λ b. (b || has_path q (edit_paths es)) ≡ true → after_edits es q (cond b e.1 old) ≡ after_edits es q (cond b e.1 other)) [
      | true ↦ λ h. refl
      | false ↦ λ h. after-written es q old other h
    ]

pub node_at-elsewhere : (tree : Tree) (es : List Edit) (q : Path) → has_path q (edit_paths es) ≡ false → node_at (edited tree es) q ≡ node_at tree q
node_at-elsewhere tree es q h = node_at-edited tree es q ∙ after-elsewhere es q (node_at tree q) h

pub node_at-written : (tree other : Tree) (es : List Edit) (q : Path) → has_path q (edit_paths es) ≡ true → node_at (edited tree es) q ≡ node_at (edited other es) q
node_at-written tree other es q h = node_at-edited tree es q ∙ after-written es q (node_at tree q) (node_at other q) h ∙ sym (node_at-edited other es q)

-- the same edits keep two trees alike at a path
pub node_at-alike : (tree other : Tree) (es : List Edit) (q : Path) → node_at tree q ≡ node_at other q → node_at (edited tree es) q ≡ node_at (edited other es) q
node_at-alike tree other es q h = node_at-edited tree es q ∙ ap (after_edits es q) h ∙ sym (node_at-edited other es q)

present_by : (tree other : Tree) (es : List Edit) (q : Path) (b : Bool) → has_path q (edit_paths es) ≡ b → is_present tree q ≡ is_present other q → is_present (edited tree es) q ≡ is_present (edited other es) q
present_by tree other es q true w h = ap is_some (node_at-written tree other es q w)
present_by tree other es q false w h = ap is_some (node_at-elsewhere tree es q w) ∙ h ∙ sym (ap is_some (node_at-elsewhere other es q w))

pub present_alike : (tree other : Tree) (es : List Edit) (q : Path) → is_present tree q ≡ is_present other q → is_present (edited tree es) q ≡ is_present (edited other es) q
present_alike tree other es q h = present_by tree other es q (has_path q (edit_paths es)) refl h

pub edit_paths-append : (es fs : List Edit) → edit_paths (es ++ fs) ≡ edit_paths es ++ edit_paths fs
edit_paths-append [] fs = refl
edit_paths-append (e ∷ es) fs = ap (λ ps. e.0 ∷ ps) (edit_paths-append es fs)

pub edited-append : (tree : Tree) (es fs : List Edit) → edited tree (es ++ fs) ≡ edited (edited tree es) fs
edited-append tree [] fs = refl
edited-append tree (e ∷ es) fs = edited-append (edited_at tree e.0 e.1) es fs
