use Rattle.std.proofs.Common.{◌≡◌, ℕ, true, List, subst, ◌∙◌}
use Rattle.std.specs.List.{AllByRecursion}
use Rattle.std.proofs.lemmas.List.{take_all}
use Rattle.xs_model.specs.Wholes.{whole_behind}
use Rattle.conn_rows.specs.Rows.{Row, Rows}
use Rattle.conn_rows.proofs.SeenLemmas.{all_to_queues}
use Rattle.conn_rows.proofs.rows.Rows.are_whole.Goals as goal

pub returns : goal.returns
returns c =
    let rows = c.self.inside.rows.entries in
    subst (λ (r : Rows). AllByRecursion (λ e. whole_behind e.1.rest e.1.bytes ≡ true) r.queues) c.self.view_is
    (all_to_queues (λ e. whole_behind e.1.rest e.1.bytes ≡ true) rows
    (subst (λ (es : List (ℕ × Row)). AllByRecursion (λ e. whole_behind e.1.queue.rest e.1.queue.bytes ≡ true) es)
    (take_all c.loop-entry.entry-index c.entries-rows.result.now c.loop-entry-test.false ∙ c.entries-rows.ensures.entries) c.loop-entry.invariant))
