-- What transactions keep of what was said: where a stream leaves out what follows from the nodes, that is added. And the
-- state that a stream tells. This project's own.
use Rattle.std.specs.Prelude.{ℕ, ◌==◌, Bool, true, false, not, ◌&&◌, List, [], ◌∷◌, map, flat_map, if◌then◌else◌, Option, Some, None, is_some, Result, Ok, Err}
use Rattle.std.specs.List.{list_all}
use Rattle.std.specs.Str.{bytes_eq}
use Rattle.std.specs.Ordering.{nat_cmp}
use Rattle.std.specs.FinMap.{find}
use Rattle.xs_model.specs.declared.perm.Perm.{Perm}
use Rattle.xs_model.specs.Paths.{Path, parents}
use Rattle.xs_model.specs.Trees.{Node, Tree, node_at, is_present, children}
use Rattle.xs_model.specs.Requests.{is_root}
use Rattle.mark_model.specs.Marks.{Mark, Seen, Changed, Wrote, Gone, Kept, Marks, overlay, access_all, note_all}
use Rattle.stream_model.specs.declared.fault.StreamFault.{StreamFault}
use Rattle.stream_model.specs.Record.{StreamRecord}
use Rattle.stream_model.specs.Reading.{stream_of}
use Rattle.kept_model.specs.declared.fault.LoadFault.{LoadFault}
use Rattle.kept_model.specs.declared.fault.LoadFault.TheVariants.{Stream, Orphan}
use Rattle.kept_model.specs.States.{TransactionOf, ConnectionOf, StateOf, State}
use Rattle.kept_model.specs.Said.{Said, Is, Saw, letter_byte}
use Rattle.kept_model.specs.Loading.{Pending, none_came, load_from, ◌>>=◌}

-- WHETHER A NODE IS AS IT WAS, or none
abbrev pub same_perm : Perm → Perm → Bool
same_perm p q = letter_byte p.letter == letter_byte q.letter && (bool_eq p.stale q.stale && p.domid == q.domid)
  where
    bool_eq : Bool → Bool → Bool
    bool_eq true b = b
    bool_eq false b = not b

abbrev pub same_perms : List Perm → List Perm → Bool
same_perms [] [] = true
same_perms [] (q ∷ qs) = false
same_perms (p ∷ ps) [] = false
same_perms (p ∷ ps) (q ∷ qs) = same_perm p q && same_perms ps qs

abbrev pub same_found : Option Node → Option Node → Bool
same_found None None = true
same_found None (Some n) = false
same_found (Some m) None = false
same_found (Some m) (Some n) = bytes_eq m.value n.value && same_perms m.perms n.perms

-- FIRST: a path that was looked at, where something else stands now, was changed by others
abbrev pub mark_by : Tree → Path → Said → Mark
mark_by tree p (Is mark) = mark
mark_by tree p (Saw found) = if same_found found (node_at tree p) then Seen else Changed found

abbrev pub marks_by : Tree → List (Path × Said) → Marks
marks_by tree said = map (λ e. (e.0, mark_by tree e.0 e.1)) said

-- the paths with a mark that asks for one at the parent; that of `/` is `/` itself
abbrev pub parent_or_root : Path → List Path
parent_or_root [] = [] ∷ []
parent_or_root (n ∷ ns) = parents (n ∷ ns)

abbrev pub parents_where : (Path → Mark → Bool) → Marks → List Path
parents_where asks marks = flat_map (λ e. if asks e.0 e.1 then parent_or_root e.0 else []) marks

-- SECOND: who made a node looked at its parent. A node was made that was written, that nobody else changed, and that is
-- not there
abbrev pub is_made : Tree → Path → Mark → Bool
is_made tree p Seen = false
is_made tree p (Changed old) = false
is_made tree p (Wrote others node) = not others && not (is_present tree p)
is_made tree p (Gone others) = false
is_made tree p (Kept old) = false

abbrev pub parents_looked_at : Tree → Marks → Marks
parents_looked_at tree marks = access_all (parents_where (is_made tree) marks) marks

-- THIRD: where a node came or went by others, they changed its parent
abbrev pub bool_differs : Bool → Bool → Bool
bool_differs true b = not b
bool_differs false b = b

abbrev pub came_or_went : Tree → Path → Mark → Bool
came_or_went tree p Seen = false
came_or_went tree p (Changed old) = false
came_or_went tree p (Wrote others node) = false
came_or_went tree p (Gone others) = false
came_or_went tree p (Kept old) = bool_differs (is_some old) (is_present tree p)

abbrev pub parents_changed : Tree → Marks → Marks
parents_changed tree marks = note_all tree (parents_where (came_or_went tree) marks) marks

-- what is kept of what was said
abbrev pub normal : Tree → List (Path × Said) → Marks
normal tree said = parents_changed tree (parents_looked_at tree (marks_by tree said))

abbrev pub normal_transaction : Tree → TransactionOf Said → TransactionOf Mark
normal_transaction tree t = record { count = t.count; marks = normal tree t.marks }

abbrev pub normal_connection : Tree → ConnectionOf Said → ConnectionOf Mark
normal_connection tree conn = record {
  spec = conn.spec;
  watches = conn.watches;
  inbox = conn.inbox;
  rest = conn.rest;
  unsent = conn.unsent;
  opens = map (λ e. (e.0, normal_transaction tree e.1)) conn.opens;
}

abbrev pub normal_state : StateOf Said → State
normal_state s = record {
  tree = s.tree;
  gens = s.gens;
  globals = s.globals;
  conns = map (λ e. (e.0, normal_connection s.tree e.1)) s.conns;
}

-- ORPHANS. A path leaves a node without its parent: it is there and its parent is not, or it is not there and a child of
-- it is, or it is `/` and not there
abbrev pub has_child : List (List ℕ) → Bool
has_child [] = false
has_child (n ∷ ns) = true

abbrev pub is_orphan_in : Tree → Path → Bool
is_orphan_in seen p =
    if is_present seen p then not (list_all (is_present seen) (parents p)) else (if is_root p then true else has_child (children seen p))

-- the marks of a transaction, none where it is not there
abbrev pub marks_or_none : Option (TransactionOf Mark) → Marks
marks_or_none None = []
marks_or_none (Some t) = t.marks

abbrev pub marks_in : ℕ → Option (ConnectionOf Mark) → Marks
marks_in tx None = []
marks_in tx (Some conn) = marks_or_none (find nat_cmp tx conn.opens)

abbrev pub is_orphan : State → Pending → Bool
is_orphan s pending = is_orphan_in (overlay s.tree (marks_in pending.tx (find nat_cmp pending.conn s.conns))) pending.path

abbrev pub unless_orphans : List Pending → State → Result State LoadFault
unless_orphans [] s = Ok s
unless_orphans (pending ∷ rest) s = if is_orphan s pending then Err (Orphan pending.rec) else unless_orphans rest s

-- THE STATE that records tell, or the first fault
abbrev pub state_of_records : List StreamRecord → Result State LoadFault
state_of_records records = load_from 0 none_came records >>= (λ l. unless_orphans l.pending (normal_state l.state))

abbrev pub state_by : Result (List StreamRecord) StreamFault → Result State LoadFault
state_by (Ok records) = state_of_records records
state_by (Err fault) = Err (Stream fault)

-- and that bytes tell. A fault of the stream comes before every other
abbrev pub state_of_bytes : List ℕ → Result State LoadFault
state_of_bytes bytes = state_by (stream_of bytes)
