use Rattle.std.proofs.Common.{◌≡◌, ◌≤◌, ◌&&◌, false, nat_le, cond, ◌+◌, sym, ap, ◌∙◌, subst}
use Rattle.std.specs.List.{AllByRecursion}
use Rattle.std.specs.Ordering.{nat_cmp}
use Rattle.xs_model.proofs.Maps.{all_put}
use Rattle.machine_model.specs.declared.ConnSpec.{ConnSpec}
use Rattle.machine_model.specs.Connections.{caller_of}
use Rattle.conn_table.specs.Tables.{Specs, is_taken, is_socket, count_sockets}
use Rattle.mig_load.proofs.TableLemmas.{not_there, socket_count, few_more}
use Rattle.mig_load.proofs.table.Table.add.Goals as goal

pub invariant_of-self : goal.invariant_of-self
invariant_of-self c =
    let es = c.self.inside.conns in
    let spec = c.args.spec in
    let free : is_taken c.args.id spec es ≡ false = subst (λ (t : Specs). is_taken c.args.id spec t ≡ false) (sym c.self.view_is) c.requires.free in
    let few : (is_socket spec && nat_le 65536 (count_sockets es)) ≡ false = subst (λ (t : Specs). (is_socket spec && nat_le 65536 (count_sockets t)) ≡ false) (sym c.self.view_is) c.requires.few in
    let counted = c.sockets_with-self-inside.ensures ∙ ap (λ n. cond (is_socket spec) (n + 1) n) c.self.invariant.count in
    record {
      count = counted ∙ sym (socket_count c.args.id spec es (not_there c.args.id spec es free)) ∙ ap count_sockets (sym c.in-Ok.ensures.ok);
      few = subst (λ n. n ≤ 65536) (sym counted) (few_more (is_socket spec) (count_sockets es) (subst (λ n. n ≤ 65536) c.self.invariant.count c.self.invariant.few) few);
      callers = subst (λ (t : Specs). AllByRecursion (λ e. (caller_of e.1).domid ≤ 32751) t) (sym c.in-Ok.ensures.ok)
          (all_put nat_cmp (λ (s : ConnSpec). (caller_of s).domid ≤ 32751) c.args.id spec es c.requires.caller c.self.invariant.callers);
    }
