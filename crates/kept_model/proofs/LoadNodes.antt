-- The records of nodes: of the store, and of a transaction.
use Rattle.std.specs.Prelude.{◌≡◌, ℕ, ◌^◌, ◌<◌, ◌≤◌, not, List, [], ◌∷◌, is_some, Ok}
use Rattle.std.specs.List.{list_all}
use Rattle.std.specs.Ordering.{nat_cmp}
use Rattle.std.specs.FinMap.{find, put, nat_cmp-IsAntisymmetric}
use Rattle.std.proofs.Common.{refl, arith}
use Rattle.xs_model.specs.Paths.{Path, path_cmp, parents}
use Rattle.xs_model.specs.Trees.{Node, is_present, IsTree}
use Rattle.xs_model.specs.Generations.{generation_max}
use Rattle.xs_model.proofs.Maps.{sorted_put, all_put}
use Rattle.xs_model.proofs.PathLemmas.{path_total, path_exact}
use Rattle.xs_model.proofs.TreeLemmas.{set_node}
use Rattle.stream_model.specs.Record.{NodeData, node_data, generation_in}
use Rattle.kept_model.specs.declared.fault.LoadFault.TheVariants.{BadAccess, BadPerm, Repeated, UnknownConn, UnknownTxn, Orphan}
use Rattle.kept_model.specs.States.{TransactionOf, ConnectionOf}
use Rattle.kept_model.specs.Said.{Said, is_empty, access_of, lacks_entries, found_by, said_by, perms_of}
use Rattle.kept_model.specs.Loading.{Loading, conns_in, with_opens, has_come, with_node, load_node, with_said, load_mark}
use Rattle.kept_model.specs.Sound.{IsSpelled, NodeFits}
use Rattle.kept_model.proofs.LoadTests.{ok_is, unless_ok, given_ok}
use Rattle.kept_model.proofs.LoadMaps.{pairs_put, pairs_found, all_split, same_keys}
use Rattle.kept_model.proofs.LoadFits.{Told}
use Rattle.kept_model.proofs.LoadParts.{filled, some_entry, perms_told, node_fits, found_good, said_good, has_parent}
use Rattle.kept_model.proofs.LoadGood.{SaidFine, TransactionGood, StateGood, Leads, leads_to, connection_there, connection_kept, opens_good}

module _ (Fine : ℕ → ℕ → Path → Type 0) where
  -- NODE_DATA of the store
  node_kept : (l : Loading) (p : Path) (node : Node) (number : ℕ) → IsSpelled p → NodeFits node → number ≤ generation_max → StateGood Fine l.state → IsTree (put path_cmp p node l.state.tree) → StateGood Fine (with_node p node number l).state
  node_kept l p node number spelled fits small g is = record {
    tree = is;
    nodes = pairs_put path_cmp path_exact (λ q n. IsSpelled q × NodeFits n) p node l.state.tree (spelled, fits) g.nodes;
    numbers = record {
      paths = same_keys path_cmp p number node l.state.gens l.state.tree g.numbers.paths;
      small = all_put path_cmp (λ k. k ≤ generation_max) p number l.state.gens small g.numbers.small;
    };
    globals = g.globals;
    rising = g.rising;
    conns = g.conns;
    rings = g.rings;
    sockets = g.sockets;
  }

  number_small : (d : NodeData) → d.tx < 2 ^ 32 → d.access < 2 ^ 16 → generation_in d ≤ generation_max
  number_small d h k = omega arith

  pub node_step : (n : ℕ) (l : Loading) (d : NodeData) (p : Path) (next : Loading) → Told (node_data d) → IsSpelled p → load_node n l d p ≡ Ok next → Leads Fine l next
  node_step n l d p next told spelled e =
      let some = unless_ok (is_empty d.perms) (BadAccess n) _ next e in
      let entries = given_ok (perms_of d.perms) (BadPerm n) _ next some.1 in
      let new = unless_ok (has_come l p) (Repeated n) _ next entries.2 in
      let up = unless_ok (not (list_all (is_present l.state.tree) (parents p))) (Orphan n) _ next new.1 in
      let node : Node = record { value = d.value; perms = entries.0 } in
      let entry = some_entry entries.0 (filled d.perms entries.0 some.0 (perms_told d.perms entries.0 entries.1 told.numbers.3).0) in
      leads_to Fine l (with_node p node (generation_in d) l) next (ok_is up.1) (λ fine. record {
        pending = fine;
        state = λ g. node_kept l p node (generation_in d) spelled (node_fits d told.numbers told.lengths entries.0 entries.1) (number_small d told.numbers.1 told.numbers.2) g
            (set_node l.state.tree g.tree p node entry (has_parent l.state.tree p up.0));
      })

  -- and of a transaction
  mark_good : (c tx : ℕ) (p : Path) (said : Said) (t : TransactionOf Said) → TransactionGood Fine c tx t → SaidFine Fine c tx p said → TransactionGood Fine c tx (with_said p said t)
  mark_good c tx p said t h k = record {
    positive = h.positive;
    small = h.small;
    count = h.count;
    rising = sorted_put path_cmp path_total p said t.marks h.rising;
    marks = pairs_put path_cmp path_exact (SaidFine Fine c tx) p said t.marks k h.marks;
  }

  pub mark_step : (n : ℕ) (l : Loading) (d : NodeData) (p : Path) (next : Loading) → Told (node_data d) → IsSpelled p → load_mark n l d p ≡ Ok next → Leads Fine l next
  mark_step n l d p next told spelled e =
      let access = given_ok (access_of d.access) (BadAccess n) _ next e in
      let some = unless_ok (lacks_entries access.0 d) (BadAccess n) _ next access.2 in
      let found = given_ok (found_by access.0 d) (BadPerm n) _ next some.1 in
      let there = given_ok (find nat_cmp d.conn (conns_in l)) (UnknownConn n) _ next found.2 in
      let conn : ConnectionOf Said = there.0 in
      let open_one = given_ok (find nat_cmp d.tx conn.opens) (UnknownTxn n) _ next there.2 in
      let t : TransactionOf Said = open_one.0 in
      let new = unless_ok (is_some (find path_cmp p t.marks)) (Repeated n) _ next open_one.2 in
      let said : Said = said_by access.0 found.0 in
      let opens : List (ℕ × TransactionOf Said) = put nat_cmp d.tx (with_said p said t) conn.opens in
      leads_to Fine l _ next (ok_is new.1) (λ fine.
      let parts = all_split (λ q. Fine q.conn q.tx q.path) l.pending (record { rec = n; conn = d.conn; tx = d.tx; path = p } ∷ []) fine in
      let right : SaidFine Fine d.conn d.tx p said = record { spelled = spelled; good = said_good access.0 found.0 (found_good d told.numbers told.lengths access.0 found.0 found.1); fine = parts.1.0 } in
      record {
        pending = parts.0;
        state = λ g.
            let h = connection_there Fine l d.conn conn g there.1 in
            connection_kept Fine l d.conn conn (with_opens opens conn) there.1 refl g
            (opens_good Fine d.conn d.tx conn (with_said p said t) h (mark_good d.conn d.tx p said t (pairs_found nat_cmp nat_cmp-IsAntisymmetric (TransactionGood Fine d.conn) d.tx conn.opens t h.opens open_one.1) right));
      })
