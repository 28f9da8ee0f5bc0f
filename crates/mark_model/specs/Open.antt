-- Marks and the transactions of the sequential store: which marks a transaction keeps, and with which transaction marks
-- go on. The laws that join the two are in `src/laws.rt`.
use Rattle.std.specs.Prelude.{ℕ, Bool, true, false, List, [], ◌∷◌, ◌++◌, if◌then◌else◌, Option, Some, None, filter_map}
use Rattle.std.specs.FinMap.{put}
use Rattle.xs_model.specs.Paths.{Path, path_cmp, has_path}
use Rattle.xs_model.specs.Trees.{Node, Tree, node_at}
use Rattle.machine_model.specs.Transactions.{Transaction, after, wrote, accessed}
use Rattle.mark_model.specs.Marks.{Mark, Seen, Changed, Wrote, Gone, Kept, Marks, written, edits_by, overlay}

-- The mark of a path: whether the transaction wrote it, whether it looked at it or wrote it, whether others changed it,
-- and what the transaction sees there. Where it wrote nothing, that is what stood there when it began.
abbrev pub mark_by : Bool → Bool → Bool → Option Node → Option Mark
mark_by true looked others (Some node) = Some (Wrote others node)
mark_by true looked others None = Some (Gone others)
mark_by false true true old = Some (Changed old)
mark_by false true false old = Some Seen
mark_by false false true old = Some (Kept old)
mark_by false false false old = None

abbrev pub mark_of : Transaction → Path → Option Mark
mark_of t p = mark_by (has_path p (wrote t)) (has_path p (accessed t)) (has_path p t.others) (node_at (after t) p)

abbrev pub put_if : Path → Option Mark → Marks → Marks
put_if p None marks = marks
put_if p (Some mark) marks = put path_cmp p mark marks

-- each of these paths that has a mark, rising
abbrev pub marked : (Path → Option Mark) → List Path → Marks
marked mark [] = []
marked mark (p ∷ ps) = put_if p (mark p) (marked mark ps)

-- the marks of a transaction
abbrev pub marks_of : Transaction → Marks
marks_of t = marked (mark_of t) (accessed t ++ t.others)

-- THE OTHER WAY. The paths of marks that a test picks
abbrev pub path_if : (Mark → Bool) → Path → Mark → Option Path
path_if test p mark = if test mark then Some p else None

abbrev pub paths_by : (Mark → Bool) → Marks → List Path
paths_by test marks = filter_map (λ e. path_if test e.0 e.1) marks

-- looked at and not written
abbrev pub is_seen : Mark → Bool
is_seen Seen = true
is_seen (Changed old) = true
is_seen (Wrote others node) = false
is_seen (Gone others) = false
is_seen (Kept old) = false

-- changed by others
abbrev pub is_others : Mark → Bool
is_others Seen = false
is_others (Changed old) = true
is_others (Wrote others node) = others
is_others (Gone others) = others
is_others (Kept old) = true

-- The transaction with which marks over a tree go on, once so many of its commands wrote something: it brings along
-- what it wrote and looked at, and its copy is what it sees.
abbrev pub begun : Tree → Marks → ℕ → Transaction
begun tree marks n = record {
  copy = overlay tree marks;
  prior = record { edits = edits_by written marks; seen = paths_by is_seen marks; count = n };
  list = [];
  others = paths_by is_others marks;
}
