-- Each record of a sound state is loaded, over what fits before it.
use Rattle.std.specs.Prelude.{◌≡◌, ℕ, ◌/◌, ◌%◌, ◌^◌, ◌≤◌, ◌==◌, true, false, cond, ◌&&◌, List, [], length, Some, None, is_some, Ok}
use Rattle.std.specs.List.{list_any, list_all}
use Rattle.std.specs.Ordering.{nat_cmp}
use Rattle.std.specs.FinMap.{find, put}
use Rattle.std.proofs.Common.{refl, ap, ◌∙◌, arith}
use Rattle.std.proofs.lemmas.Bool.{ne_eqb, le-ltb, or_from, not_from_true}
use Rattle.xs_model.specs.Paths.{Path, path_cmp, parents, text}
use Rattle.xs_model.specs.Trees.{Node, Tree, new_tree, is_present, has_entry}
use Rattle.xs_model.specs.Generations.{new_generations}
use Rattle.xs_model.specs.Requests.{is_watch_path, is_token, is_special}
use Rattle.xs_model.specs.Watches.{Watch, same_watch}
use Rattle.machine_model.specs.declared.bounds.TheConstants.{CROWD_LIMIT}
use Rattle.machine_model.specs.Connections.{caller_of}
use Rattle.mark_model.specs.Marks.{Mark}
use Rattle.stream_model.specs.Record.{NodeData}
use Rattle.machine_model.specs.declared.Globals.{Globals}
use Rattle.kept_model.specs.States.{TransactionOf, ConnectionOf}
use Rattle.kept_model.specs.Said.{Said}
use Rattle.kept_model.specs.Sound.{IsSpelled, has_nul}
use Rattle.kept_model.specs.Loading.{Loading, none_came, conns_in, with_connection, with_opens, is_end_of, is_one_too_many, with_watch, has_come, with_node, load_node, with_said, with_pending, load_mark, load_at, load_record}
use Rattle.kept_model.specs.Images.{globals_record, connection_record, watch_record, transaction_record, found_record, mark_record}
use Rattle.kept_model.proofs.SaveChains.{pass, take}
use Rattle.kept_model.proofs.SaveTexts.{one_string-string, watch_path_text, path_text, absolute_of-text, not_special}
use Rattle.kept_model.proofs.SaveFields.{spec_again, perms_told, filled, number_again, said_mark, found_data, IsTold}
use Rattle.kept_model.proofs.SaveSound.{ConnectionFits}

not_zero : (n : ℕ) → 1 ≤ n → (n == 0) ≡ false
not_zero n h = ne_eqb n 0 (λ e. omega arith)

-- a connection with so many of its watches, and with these transactions
abbrev pub conn_with : ConnectionOf Mark → List Watch → List (ℕ × TransactionOf Said) → ConnectionOf Said
conn_with conn watches opens = record {
  spec = conn.spec;
  watches = watches;
  inbox = conn.inbox;
  rest = conn.rest;
  unsent = conn.unsent;
  opens = opens;
}

-- a transaction of which nothing was said but its count
abbrev pub begun_said : TransactionOf Mark → TransactionOf Said
begun_said t = record { count = t.count; marks = [] }

pub loads_globals : (g : Globals) → load_record 0 none_came (globals_record g) ≡ Ok (record {
  state = record { tree = new_tree; gens = new_generations; globals = g; conns = [] };
  has_globals = true;
  has_root = false;
  pending = [];
})
loads_globals g = pass _ _ _ _ refl refl

pub loads_connection : (n : ℕ) (l : Loading) (tree : Tree) (e : ℕ × ConnectionOf Mark) → ConnectionFits tree e → is_one_too_many e.1.spec (conns_in l) ≡ false → find nat_cmp e.0 (conns_in l) ≡ None
    → list_any (λ f. is_end_of e.1.spec f.1.spec) (conns_in l) ≡ false → load_record n l (connection_record e.0 e.1) ≡ Ok (with_connection e.0 (conn_with e.1 [] []) l)
loads_connection n l tree e fits sockets new apart =
    pass _ _ _ _ (not_zero e.0 fits.positive)
    (take _ _ _ _ _ (spec_again e.1.spec fits.spec)
    (pass _ _ _ _ sockets
    (pass _ _ _ _ (le-ltb 16777216 (length e.1.inbox) fits.bytes.inbox)
    (pass _ _ _ _ (or_from _ _ (le-ltb CROWD_LIMIT (length e.1.unsent) fits.bytes.unsent) (not_from_true _ fits.bytes.whole))
    (pass _ _ _ _ (or_from _ _ (ap is_some new) apart) refl)))))

pub loads_watch : (n : ℕ) (l : Loading) (c : ℕ) (conn : ConnectionOf Said) (w : Watch) → find nat_cmp c (conns_in l) ≡ Some conn → is_watch_path w.wpath (caller_of conn.spec).domid ≡ true
    → is_token w.token ≡ true → has_nul w.token ≡ false → list_any (same_watch w) conn.watches ≡ false → load_record n l (watch_record c w) ≡ Ok (with_connection c (with_watch w conn) l)
loads_watch n l c conn w there path token nul new =
    take _ _ _ _ _ there
    (take _ _ _ _ _ (one_string-string w.wpath (watch_path_text w.wpath (caller_of conn.spec).domid path))
    (take _ _ _ _ _ (one_string-string w.token nul)
    (pass _ _ _ _ (not_from_true (is_token w.token) token)
    (pass _ _ _ _ (not_from_true (is_watch_path w.wpath (caller_of conn.spec).domid) path)
    (pass _ _ _ _ new refl)))))

pub loads_transaction : (n : ℕ) (l : Loading) (c : ℕ) (conn : ConnectionOf Said) (tx : ℕ) (t : TransactionOf Mark) → find nat_cmp c (conns_in l) ≡ Some conn → 1 ≤ tx
    → find nat_cmp tx conn.opens ≡ None → load_record n l (transaction_record c tx t) ≡ Ok (with_connection c (with_opens (put nat_cmp tx (begun_said t) conn.opens) conn) l)
loads_transaction n l c conn tx t there some new =
    take _ _ _ _ _ there
    (pass _ _ _ _ (not_zero tx some)
    (pass _ _ _ _ (ap is_some new) refl))

pub loads_node : (n : ℕ) (l : Loading) (number : ℕ) (p : Path) (node : Node) → IsSpelled p → has_entry node.perms ≡ true → has_come l p ≡ false → list_all (is_present l.state.tree) (parents p) ≡ true
    → load_record n l (found_record 0 (number % 2 ^ 32) (number / 2 ^ 32) p (Some node)) ≡ Ok (with_node p node number l)
loads_node n l number p node spelled entry new up =
    let d : NodeData = found_data 0 (number % 2 ^ 32) (number / 2 ^ 32) p (Some node) in
    take _ _ _ _ _ (one_string-string (text p) (path_text p spelled))
    (ap (λ b. cond b (Ok l) (load_at n l d (text p))) (not_special p)
    ∙ take _ _ _ _ _ (absolute_of-text p spelled)
    (pass _ _ _ _ (filled node.perms entry)
    (take _ _ _ _ _ (perms_told node)
    (pass _ _ _ _ new
    (pass _ _ _ _ (not_from_true (list_all (is_present l.state.tree) (parents p)) up)
    (ap (λ m. Ok (with_node p node m l)) (number_again number)))))))

pub loads_mark : (n : ℕ) (l : Loading) (tree : Tree) (c tx : ℕ) (p : Path) (mark : Mark) → IsTold tree c tx p mark → 1 ≤ c → IsSpelled p → (conn : ConnectionOf Said) → find nat_cmp c (conns_in l) ≡ Some conn
    → (t : TransactionOf Said) → find nat_cmp tx conn.opens ≡ Some t → find path_cmp p t.marks ≡ None
    → load_record n l (mark_record tree c tx p mark) ≡ Ok (with_pending (record { rec = n; conn = c; tx = tx; path = p }) (with_connection c (with_opens (put nat_cmp tx (with_said p (said_mark tree p mark) t) conn.opens) conn) l))
loads_mark n l tree c tx p mark told some spelled conn there t opened new =
    let d : NodeData = found_data c tx told.number p told.found in
    ap (load_record n l) told.is
    ∙ take _ _ _ _ _ (one_string-string (text p) (path_text p spelled))
    (ap (λ b. cond (b && is_special (text p)) (Ok l) (load_at n l d (text p))) (not_zero c some)
    ∙ take _ _ _ _ _ (absolute_of-text p spelled)
    (ap (λ b. cond b (load_node n l d p) (load_mark n l d p)) (not_zero c some)
    ∙ take _ _ _ _ _ told.known
    (pass _ _ _ _ told.entries
    (take _ _ _ _ _ told.node
    (take _ _ _ _ _ there
    (take _ _ _ _ _ opened
    (pass _ _ _ _ (ap is_some new)
    (ap (λ said. Ok (with_pending (record { rec = n; conn = c; tx = tx; path = p }) (with_connection c (with_opens (put nat_cmp tx (with_said p said t) conn.opens) conn) l))) told.said))))))))
