use Rattle.std.proofs.Common.{ℕ, List, ◌≡◌, ◌||◌, [], is_some, ◌∙◌, ap, sym, subst}
use Rattle.std.specs.Option.{option_map}
use Rattle.std.specs.List.{list_any}
use Rattle.std.specs.Ordering.{nat_cmp}
use Rattle.std.specs.FinMap.{find, put}
use Rattle.mark_model.proofs.StoreMaps.{put_values}
use Rattle.machine_model.specs.declared.ConnSpec.{ConnSpec}
use Rattle.conn_table.specs.Tables.{Specs}
use Rattle.watchers.specs.Watched.{AreOwn}
use Rattle.out_queues.specs.Queues.{Queue}
use Rattle.conn_rows.specs.Rows.{Txns}
use Rattle.kept_model.specs.States.{ConnectionOf}
use Rattle.kept_model.specs.Said.{Said}
use Rattle.kept_model.specs.Loading.{is_end_of, is_one_too_many}
use Rattle.kept_model.proofs.LoadMaps.{same_keys}
use Rattle.mig_load.specs.Came.{AreOf, connections_in}
use Rattle.mig_load.specs.CameView.{tables_of}
use Rattle.mig_load.proofs.TableLemmas.{not_there}
use Rattle.mig_load.proofs.CameLemmas.{taken_in, too_many_in, of_more, own_more, one_more}
use Rattle.store_parts.specs.States.{Inboxes}
use Rattle.mig_load.proofs.connections.Connections.add.Goals as goal

pub add-requires-clause-free : goal.add-requires-clause-free
add-requires-clause-free c =
    taken_in (tables_of c.self.inside) c.args.conn c.args.spec
    ∙ ap (λ (conns : List (ℕ × ConnectionOf Said)). is_some (find nat_cmp c.args.conn conns) || list_any (λ e. is_end_of c.args.spec e.1.spec) conns) c.self.view_is ∙ c.requires.free

pub add-requires-clause-few : goal.add-requires-clause-few
add-requires-clause-few c = too_many_in (tables_of c.self.inside) c.args.spec ∙ ap (is_one_too_many c.args.spec) c.self.view_is ∙ c.requires.few

pub invariant_of-self-2 : goal.invariant_of-self-2
invariant_of-self-2 c =
    let conn = c.args.conn in
    let spec = c.args.spec in
    let t = tables_of c.self.inside in
    let free = taken_in t conn spec ∙ ap (λ (conns : List (ℕ × ConnectionOf Said)). is_some (find nat_cmp conn conns) || list_any (λ e. is_end_of spec e.1.spec) conns) c.self.view_is ∙ c.requires.free in
    let none = not_there conn spec t.specs free in
    let specs : c.add.new.self ≡ put nat_cmp conn spec t.specs = c.in_ok-add.ensures.ok in
    record {
      own = subst (λ (s : Specs). AreOwn s t.watched) (sym specs) (own_more t.specs conn spec t.watched none c.self.invariant.named c.self.invariant.own);
      named = subst (λ (s : Specs). AreOf s t.watched) (sym specs) (of_more t.specs conn spec t.watched c.self.invariant.named);
      told = subst (λ (s : Specs). AreOf s t.saids) (sym specs) (of_more t.specs conn spec t.saids c.self.invariant.told);
      queued = ap (λ (q : List (ℕ × Queue)). Rattle.std.specs.Prelude.map (λ e. e.0) q) (c.put.ensures.queues ∙ ap (put nat_cmp conn c.args.queue) c.reserve.ensures.queues)
          ∙ same_keys nat_cmp conn c.args.queue spec t.queues t.specs c.self.invariant.queued
          ∙ ap (λ (s : Specs). Rattle.std.specs.Prelude.map (λ e. e.0) s) (sym specs);
      read = ap (λ (q : Inboxes). Rattle.std.specs.Prelude.map (λ e. e.0) q) (c.put-2.ensures.entries ∙ ap (put nat_cmp conn c.args.inbox) c.reserve-2.ensures.same)
          ∙ same_keys nat_cmp conn c.args.inbox spec t.ins t.specs c.self.invariant.read
          ∙ ap (λ (s : Specs). Rattle.std.specs.Prelude.map (λ e. e.0) s) (sym specs);
      quiet = c.put.ensures.txns ∙ ap (put nat_cmp conn []) (c.reserve.ensures.txns ∙ c.self.invariant.quiet)
          ∙ put_values nat_cmp no_txns conn spec t.specs
          ∙ ap (λ (s : Specs). Rattle.std.specs.Prelude.map (λ e. (e.0, no_txns e.1)) s) (sym specs);
    }
  where
    no_txns : ConnSpec → Txns
    no_txns s = []

pub returns-clause-ok : goal.returns-clause-ok
returns-clause-ok c =
    let conn = c.args.conn in
    let spec = c.args.spec in
    let t = tables_of c.self.inside in
    let free = taken_in t conn spec ∙ ap (λ (conns : List (ℕ × ConnectionOf Said)). is_some (find nat_cmp conn conns) || list_any (λ e. is_end_of spec e.1.spec) conns) c.self.view_is ∙ c.requires.free in
    (λ i. connections_in (record {
      specs = c.in_ok-add.ensures.ok i;
      watched = t.watched;
      queues = (c.put.ensures.queues ∙ ap (put nat_cmp conn c.args.queue) c.reserve.ensures.queues) i;
      ins = (c.put-2.ensures.entries ∙ ap (put nat_cmp conn c.args.inbox) c.reserve-2.ensures.same) i;
      saids = t.saids;
    }))
    ∙ one_more t conn spec c.args.queue c.args.inbox c.is_table.ensures.rising (not_there conn spec t.specs free) c.self.invariant.named c.self.invariant.told
    ∙ ap (put nat_cmp conn (record { spec = spec; watches = []; inbox = c.args.inbox; rest = c.args.queue.rest; unsent = c.args.queue.bytes; opens = [] })) c.self.view_is
