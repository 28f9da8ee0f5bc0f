-- Parts of a step, and what is kept of them: a connection that changes, a change of the tree, and a transaction's count.
use Rattle.std.specs.Prelude.{◌≡◌, ℕ, ◌+◌, ◌≤◌, Bool, true, false, cond, nat_lt, List, [], ◌∷◌, ◌++◌, Some}
use Rattle.std.specs.Option.{option_map}
use Rattle.std.specs.List.{AllByRecursion}
use Rattle.std.specs.Ordering.{nat_cmp}
use Rattle.std.specs.FinMap.{find, put}
use Rattle.std.proofs.Common.{sym, refl, ap, ◌∙◌, arith, le-ltb, ltb-false}
use Rattle.xs_model.specs.Paths.{Path}
use Rattle.xs_model.specs.Trees.{Tree}
use Rattle.xs_model.specs.Changes.{changed_paths}
use Rattle.xs_model.specs.Generations.{stamped}
use Rattle.xs_model.specs.Watches.{events}
use Rattle.xs_model.proofs.Maps.{found_map, sorted_map}
use Rattle.machine_model.specs.Connections.{Connection, Connections, caller_of}
use Rattle.machine_model.specs.Transactions.{Transaction, Ran, if_any, outcome_on, run_list, run_on, after, count, count_max, within_count, with_command, with_others}
use Rattle.machine_model.specs.Machine.{Machine, with_conn, told_all, tell, changed_machine, change_sends, sends_to, owed_events}
use Rattle.machine_model.specs.Serial.{EachOpen, IsOpenOver, IsFollowed}
use Rattle.machine_model.specs.Limits.{HasIds}
use Rattle.mark_model.specs.Stores.{kept_transaction, opens_in, without_transactions, kept_of, opens_of, or_no_opens, with_opens, noted, noted_all, changed_store}
use Rattle.mark_model.proofs.MarkLaws.{MarkLaws}
use Rattle.mark_model.proofs.StoreMaps.{with_values, put_values, put_found, flat_values}

-- ONE CONNECTION CHANGES
module _ (m : Machine) (ids : HasIds m.conns) (c : ℕ) (conn : Connection) (found : find nat_cmp c m.conns ≡ Some conn) where
  -- what it says alike, all connections say alike
  same_with : {Y : Type 0} (f : Connection → Y) (new : Connection) → f new ≡ f conn → with_values f (put nat_cmp c new m.conns) ≡ with_values f m.conns
  same_with f new same =
      sym (put_values nat_cmp f c new m.conns)
      ∙ ap (λ y. put nat_cmp c y (with_values f m.conns)) same
      ∙ put_found c (f conn) (with_values f m.conns) (sorted_map nat_cmp f m.conns ∙ ids.rising) (found_map nat_cmp f c m.conns ∙ ap (option_map f) found)

  -- its transactions change
  pub kept_with : (new : Connection) → without_transactions new ≡ without_transactions conn → kept_of (with_conn c new m) ≡ with_opens c (opens_in new) (kept_of m)
  kept_with new same = λ i. record {
    machine = record { tree = m.tree; gens = m.gens; conns = same_with without_transactions new same i };
    opens = sym (put_values nat_cmp opens_in c new m.conns) i;
  }

  pub same_opens : (new : Connection) → opens_in new ≡ opens_in conn → (kept_of (with_conn c new m)).opens ≡ (kept_of m).opens
  same_opens new same = same_with opens_in new same

  pub opens_there : opens_of c (kept_of m).opens ≡ opens_in conn
  opens_there = ap or_no_opens (found_map nat_cmp opens_in c m.conns ∙ ap (option_map opens_in) found)

-- WHAT IS SENT looks at no transaction
pub bare_sends : (before after : Tree) (written : List Path) (conns : Connections) → change_sends before written after (with_values without_transactions conns) ≡ change_sends before written after conns
bare_sends before after written conns =
    flat_values without_transactions (λ e. sends_to e.0 (owed_events before after (caller_of e.1.spec) e.1.watches (events before written after))) conns

-- A CHANGE OF THE TREE
bare_told : (ps : List Path) (conns : Connections) → with_values without_transactions (told_all ps conns) ≡ with_values without_transactions conns
bare_told ps [] = refl
bare_told ps (e ∷ conns) = ap (λ es. (e.0, without_transactions e.1) ∷ es) (bare_told ps conns)

bare_tell : (ps : List Path) (conns : Connections) → with_values without_transactions (tell ps conns) ≡ with_values without_transactions conns
bare_tell [] conns = refl
bare_tell (p ∷ ps) conns = bare_told (p ∷ ps) conns

module _ (laws : MarkLaws) where
  told_transactions : (tree : Tree) (ps : List Path) (ts : List (ℕ × Transaction)) → AllByRecursion (λ (f : ℕ × Transaction). IsOpenOver tree f.1) ts
      → with_values kept_transaction (with_values (with_others ps) ts) ≡ noted tree ps (with_values kept_transaction ts)
  told_transactions tree ps [] h = refl
  told_transactions tree ps (t ∷ ts) h = λ i. (t.0, record { marks = laws.others tree t.1 ps h.0 i; count = count t.1 }) ∷ told_transactions tree ps ts h.1 i

  told_opens : (tree : Tree) (ps : List Path) (conns : Connections) → EachOpen (IsOpenOver tree) conns
      → with_values opens_in (told_all ps conns) ≡ with_values (noted tree ps) (with_values opens_in conns)
  told_opens tree ps [] h = refl
  told_opens tree ps (e ∷ conns) h = λ i. (e.0, told_transactions tree ps e.1.transactions h.0 i) ∷ told_opens tree ps conns h.1 i

  tell_opens : (tree : Tree) (ps : List Path) (conns : Connections) → EachOpen (IsOpenOver tree) conns → with_values opens_in (tell ps conns) ≡ noted_all tree ps (with_values opens_in conns)
  tell_opens tree [] conns h = refl
  tell_opens tree (p ∷ ps) conns h = told_opens tree (p ∷ ps) conns h

  pub change_kept : (m : Machine) → IsFollowed m → (tree : Tree) (written : List Path) → kept_of (changed_machine tree written m) ≡ changed_store tree written (kept_of m)
  change_kept m is tree written =
      let changed : List Path = changed_paths m.tree written tree in
      λ i. record {
        machine = record { tree = tree; gens = stamped m.gens m.tree written tree; conns = bare_tell changed m.conns i };
        opens = tell_opens m.tree changed m.conns is.transactions i;
      }

-- COUNT
changes_more : (tree : Tree) (list : List Ran) (ran : Ran) → (run_list tree (list ++ ran ∷ [])).changes ≡ (run_list tree list).changes + if_any (outcome_on (run_list tree list).tree ran).written 0
changes_more tree [] ran = omega arith
changes_more tree (first ∷ list) ran =
    let next : Tree = (outcome_on tree first).tree in
    ap (if_any (outcome_on tree first).written) (changes_more next list ran)
    ∙ onto (outcome_on tree first).written (run_list next list).changes (if_any (outcome_on (run_list next list).tree ran).written 0)
  where
    onto : (ps : List Path) (a b : ℕ) → if_any ps (a + b) ≡ if_any ps a + b
    onto [] a b = refl
    onto (p ∷ ps) a b = omega arith

within_twice : (n : ℕ) → within_count n ≡ within_count (within_count n)
within_twice n = by (nat_lt n count_max) refl
  where
    by : (b : Bool) → nat_lt n count_max ≡ b → cond b n count_max ≡ within_count (cond b n count_max)
    by true t = ap (λ c. cond c n count_max) (sym t)
    by false t = refl

within_more : (n : ℕ) → within_count (n + 1) ≡ within_count (within_count n + 1)
within_more n = by (nat_lt n count_max) refl
  where
    by : (b : Bool) → nat_lt n count_max ≡ b → within_count (n + 1) ≡ within_count (cond b n count_max + 1)
    by true t = refl
    by false t = let least : count_max ≤ n = ltb-false n count_max t in let more : count_max ≤ n + 1 = omega arith in ap (λ c. cond c (n + 1) count_max) (le-ltb (n + 1) count_max more)

within_any : (ps : List Path) (a b : ℕ) → within_count (a + (b + if_any ps 0)) ≡ within_count (if_any ps (within_count (a + b)))
within_any [] a b = ap within_count (let e : a + (b + 0) ≡ a + b = omega arith in e) ∙ within_twice (a + b)
within_any (p ∷ ps) a b = ap within_count (let e : a + (b + (0 + 1)) ≡ a + b + 1 = omega arith in e) ∙ within_more (a + b)

pub count_more : (t : Transaction) (ran : Ran) → count (with_command ran t) ≡ within_count (if_any (outcome_on (after t) ran).written (count t))
count_more t ran =
    ap (λ n. within_count (t.prior.count + n)) (changes_more _ t.list ran)
    ∙ within_any (outcome_on (after t) ran).written t.prior.count (run_on t.copy t).changes
