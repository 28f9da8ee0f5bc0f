use Rattle.std.proofs.Common.{◌≡◌, ◌∙◌, true, ℕ, List, sym, ap, subst}
use Rattle.xs_model.specs.Paths.{Path, path_of}
use Rattle.xs_model.specs.Requests.{ok_value}
use Rattle.watch_table.specs.Tables.{Made, watch_of}
use Rattle.watchers.specs.Watched.{Watched}
use Rattle.watchers.specs.Index.{IsIndexed, is_listed}
use Rattle.watchers.proofs.IndexedLemmas.{indexed_added, indexed_more, either_way, on_node, on_none}
use Rattle.watchers.proofs.watchers.Watchers.add.Goals as goal

pub invariant_of-self : goal.invariant_of-self
invariant_of-self c =
    let made : Made = record { watch = watch_of c.args.wpath c.args.token; domid = c.args.domid } in
    let node_is : c.in_ok-node.field-0 ≡ ok_value (path_of c.args.wpath c.args.domid) = c.in_ok-node.ensures ∙ ap (λ (bytes : List ℕ). ok_value (path_of bytes c.args.domid)) c.as_slice.ensures in
    either_way c.add_to.result
    (λ is. subst (λ (w : Watched). IsIndexed w c.self.inside.index.entries) (sym is)
    (indexed_added c.self.inside.watches.entries c.self.inside.index.entries c.args.conn made c.self.invariant
    (λ p on. on_none p (ok_value (path_of c.args.wpath c.args.domid)) (sym node_is ∙ c.in_default.is) on)))
    (λ is. subst (λ (w : Watched). IsIndexed w c.self.inside.index.entries) (sym is) c.self.invariant)
    c.add_to.ensures.ok c.add_to.ensures.err

pub invariant_of-self-2 : goal.invariant_of-self-2
invariant_of-self-2 c =
    let made : Made = record { watch = watch_of c.args.wpath c.args.token; domid = c.args.domid } in
    let watched = c.self.inside.watches.entries in
    let node_is : c.in_ok-node.field-0 ≡ ok_value (path_of c.args.wpath c.args.domid) = c.in_ok-node.ensures ∙ ap (λ (bytes : List ℕ). ok_value (path_of bytes c.args.domid)) c.as_slice.ensures in
    let with_room = indexed_more watched c.self.inside.index.entries c.make_room.new.index.entries c.self.invariant c.in_ok-first.ensures.kept in
    let indexed = indexed_more watched c.make_room.new.index.entries c.list.new.index.entries with_room c.list.ensures.kept in
    subst (λ (w : Watched). IsIndexed w c.list.new.index.entries) (sym c.in_ok-add_to.ensures.ok)
    (indexed_added watched c.list.new.index.entries c.args.conn made indexed
    (λ p on. subst (λ (q : Path). is_listed c.args.conn q c.list.new.index.entries ≡ true)
    (sym (on_node c.in-Some.node p (ok_value (path_of c.args.wpath c.args.domid)) (sym node_is ∙ c.in-Some.is) on)) c.list.ensures.here))
