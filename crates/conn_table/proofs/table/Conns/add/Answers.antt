use Rattle.std.proofs.Common.{◌≡◌, false, Some, cond, sym, ap, subst, ◌∙◌}
use Rattle.std.specs.FinMap.{put}
use Rattle.std.specs.Ordering.{nat_cmp}
use Rattle.machine_model.specs.Connections.{is_ring_of}
use Rattle.conn_table.specs.Tables.{Specs, ring_id, is_taken}
use Rattle.conn_table.specs.Kept.{Rings, Agrees}
use Rattle.conn_table.proofs.KeepLemmas.{agrees_untaken, ring_untaken}
use Rattle.conn_table.proofs.table.Conns.add.Goals as goal

pub invariant_of-self-2 : goal.invariant_of-self-2
invariant_of-self-2 c =
    let es : Specs = c.self.inside.specs.entries in
    let free : is_taken c.args.id c.args.spec es ≡ false = sym c.taken_in.ensures ∙ c.if-taken_in.false in
    let agrees = agrees_untaken es c.self.inside.rings.entries c.self.invariant c.args.id c.args.spec free in
    subst (λ (es : Specs). Agrees es c.add_to.new.rings.entries) (sym c.in_ok-add_to.ensures.specs)
    (subst (λ (rings : Rings). Agrees (put nat_cmp c.args.id c.args.spec es) rings) (sym c.in_ok-add_to.ensures.rings) agrees)

pub returns-clause-rings : goal.returns-clause-rings
returns-clause-rings c = λ d.
    let es : Specs = c.self.inside.specs.entries in
    let free : is_taken c.args.id c.args.spec es ≡ false = sym c.taken_in.ensures ∙ c.if-taken_in.false in
    ap (λ (es : Specs). ring_id d es) c.in_ok-add_to.ensures.specs ∙ ring_untaken c.args.id c.args.spec es free d
    ∙ ap (λ (es : Specs). cond (is_ring_of d c.args.spec) (Some c.args.id) (ring_id d es)) c.self.view_is

pub returns-clause-table : goal.returns-clause-table
returns-clause-table c = (invariant_of-self-2 c).table
