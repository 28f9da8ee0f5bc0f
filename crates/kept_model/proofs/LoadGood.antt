-- What holds of all that loads, and what a record keeps of it. `Fine` is what holds of each path of a transaction in the end.
use Rattle.std.specs.Prelude.{◌≡◌, ℕ, ◌^◌, ◌<◌, ◌≤◌, true, List, length, Some}
use Rattle.std.specs.List.{AllByRecursion}
use Rattle.std.specs.Ordering.{nat_cmp}
use Rattle.std.specs.Cmp.{nat_cmp_total}
use Rattle.std.specs.FinMap.{find, put, is_sorted, nat_cmp-IsAntisymmetric}
use Rattle.std.proofs.Common.{sym, subst}
use Rattle.xs_model.specs.Paths.{Path, path_cmp}
use Rattle.xs_model.specs.Trees.{IsTree}
use Rattle.xs_model.specs.Wholes.{whole_behind}
use Rattle.xs_model.proofs.Maps.{sorted_put}
use Rattle.machine_model.specs.declared.bounds.TheConstants.{CROWD_LIMIT}
use Rattle.machine_model.specs.Connections.{caller_of, is_ring_of}
use Rattle.kept_model.specs.States.{TransactionOf, ConnectionOf, StateOf}
use Rattle.kept_model.specs.Said.{Said}
use Rattle.kept_model.specs.Loading.{Pending, Loading, conns_in, with_connection, with_opens}
use Rattle.kept_model.specs.Sound.{IsSpelled, NodesFit, AreNumbers, is_socket, SpecFits, AreWatches, GlobalsFit}
use Rattle.kept_model.proofs.LoadMaps.{pairs_put, pairs_found, counted}
use Rattle.kept_model.proofs.LoadParts.{SaidGood}
use Rattle.kept_model.proofs.LoadEnds.{ends_of, ends_kept}

module _ (Fine : ℕ → ℕ → Path → Type 0) where
  -- WHAT HOLDS of all that loads
  pub record SaidFine (c tx : ℕ) (p : Path) (said : Said) : Type 0 where
    pub spelled : IsSpelled p
    pub good : SaidGood said
    pub fine : Fine c tx p

  pub record TransactionGood (c tx : ℕ) (t : TransactionOf Said) : Type 0 where
    pub positive : 1 ≤ tx
    pub small : tx < 2 ^ 32
    pub count : t.count < 2 ^ 32
    pub rising : is_sorted path_cmp t.marks ≡ true
    pub marks : AllByRecursion (λ (g : Path × Said). SaidFine c tx g.0 g.1) t.marks

  pub record ConnectionGood (c : ℕ) (conn : ConnectionOf Said) : Type 0 where
    pub positive : 1 ≤ c
    pub small : c < 2 ^ 32
    pub end : SpecFits conn.spec
    pub watches : AreWatches (caller_of conn.spec).domid conn.watches
    pub inbox : length conn.inbox ≤ 16777216
    pub unsent : length conn.unsent ≤ CROWD_LIMIT
    pub whole : whole_behind conn.rest conn.unsent ≡ true
    pub rising : is_sorted nat_cmp conn.opens ≡ true
    pub opens : AllByRecursion (λ (f : ℕ × TransactionOf Said). TransactionGood c f.0 f.1) conn.opens

  pub record StateGood (s : StateOf Said) : Type 0 where
    pub tree : IsTree s.tree
    pub nodes : NodesFit s.tree
    pub numbers : AreNumbers s.tree s.gens
    pub globals : GlobalsFit s.globals
    pub rising : is_sorted nat_cmp s.conns ≡ true
    pub conns : AllByRecursion (λ (e : ℕ × ConnectionOf Said). ConnectionGood e.0 e.1) s.conns
    pub rings : (d : ℕ) → counted (is_ring_of d) (ends_of s.conns) ≤ 1
    pub sockets : counted is_socket (ends_of s.conns) ≤ 65536

  abbrev pub PendingFine : List Pending → Type 0
  PendingFine pending = AllByRecursion (λ q. Fine q.conn q.tx q.path) pending

  -- what a step keeps: the paths before it are fine if those after it are
  pub record Goes (l next : Loading) : Type 0 where
    pub pending : PendingFine l.pending
    pub state : StateGood l.state → StateGood next.state

  abbrev pub Leads : Loading → Loading → Type 0
  Leads l next = PendingFine next.pending → Goes l next

  pub leads_to : (l made next : Loading) → made ≡ next → Leads l made → Leads l next
  leads_to l made next e h = subst (Leads l) e h

  -- A CONNECTION THAT IS THERE changes, and keeps its end
  pub connection_there : (l : Loading) (c : ℕ) (conn : ConnectionOf Said) → StateGood l.state → find nat_cmp c (conns_in l) ≡ Some conn → ConnectionGood c conn
  connection_there l c conn g found = pairs_found nat_cmp nat_cmp-IsAntisymmetric ConnectionGood c (conns_in l) conn g.conns found

  pub connection_kept : (l : Loading) (c : ℕ) (old new : ConnectionOf Said) → find nat_cmp c (conns_in l) ≡ Some old → new.spec ≡ old.spec → StateGood l.state → ConnectionGood c new → StateGood (with_connection c new l).state
  connection_kept l c old new found same g h =
      let ends : ends_of (put nat_cmp c new (conns_in l)) ≡ ends_of (conns_in l) = ends_kept c (conns_in l) old new g.rising found same in
      record {
        tree = g.tree;
        nodes = g.nodes;
        numbers = g.numbers;
        globals = g.globals;
        rising = sorted_put nat_cmp nat_cmp_total c new (conns_in l) g.rising;
        conns = pairs_put nat_cmp nat_cmp-IsAntisymmetric ConnectionGood c new (conns_in l) h g.conns;
        rings = λ d. subst (λ es. counted (is_ring_of d) es ≤ 1) (sym ends) (g.rings d);
        sockets = subst (λ es. counted is_socket es ≤ 65536) (sym ends) g.sockets;
      }

  pub opens_good : (c tx : ℕ) (conn : ConnectionOf Said) (t : TransactionOf Said) → ConnectionGood c conn → TransactionGood c tx t → ConnectionGood c (with_opens (put nat_cmp tx t conn.opens) conn)
  opens_good c tx conn t h k = record {
    positive = h.positive;
    small = h.small;
    end = h.end;
    watches = h.watches;
    inbox = h.inbox;
    unsent = h.unsent;
    whole = h.whole;
    rising = sorted_put nat_cmp nat_cmp_total tx t conn.opens h.rising;
    opens = pairs_put nat_cmp nat_cmp-IsAntisymmetric (TransactionGood c) tx t conn.opens k h.opens;
  }
