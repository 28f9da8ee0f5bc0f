use Rattle.std.proofs.Common.{length, sym, ap, ◌∙◌, arith}
use Rattle.xs_model.specs.Changes.{changed_paths}
use Rattle.xs_model.specs.Trees.{Tree}
use Rattle.mark_model.specs.Marks.{written_paths, committed}
use Rattle.txn_access.specs.Plans.{changes}
use Rattle.txn_access.specs.Txns.{Txn}
use Rattle.txn_access.proofs.PlanLemmas.{changes_are}
use Rattle.txn_access.proofs.txn.Txn.prepare.Goals as goal

pub returns-clause-ok : goal.returns-clause-ok
returns-clause-ok c =
    let tree = c.args.tree.now.nodes in
    let ms = c.args.self.now.marks in
    let view = ap (λ (t : Txn). t.marks) c.self.view_is in
    let wrote = c.in_ok-written.ensures ∙ ap written_paths (c.parts.ensures.entries ∙ view) in
    record {
      written = wrote;
      changed = c.in_ok-changed.ensures ∙ ap (changes tree) (c.parts-2.ensures.entries ∙ view) ∙ changes_are tree ms c.is_kept.ensures.rising
          ∙ sym (ap (λ (t : Tree). changed_paths t (written_paths ms) (committed t ms)) c.in_ok-reserve.ensures.nodes);
      unused = c.in_ok-gone.ensures.items;
      room = omega (arith, c.in_ok-gone.ensures.exact, c.len.ensures, ap length wrote);
      spare = omega (arith, c.in_ok-reserve.ensures.ok, c.len-2.ensures, ap length wrote);
    }
