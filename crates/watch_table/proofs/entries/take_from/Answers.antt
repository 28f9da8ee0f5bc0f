use Rattle.std.specs.Prelude.{ℕ, is_some}
use Rattle.std.specs.Global.{Vec}
use Rattle.std.proofs.Common.{◌∙◌, ap}
use Rattle.watch_table.proofs.EntryLemmas.{any_is_found, removed}
use Rattle.watch_table.proofs.entries.take_from.Goals as goal

pub returns-clause-found : goal.returns-clause-found
returns-clause-found c =
    ap is_some c.shift_remove.ensures.value ∙ any_is_found (λ (v : Vec ℕ). v.items) c.args.key.now c.args.entries.now.entries

pub returns-clause-after : goal.returns-clause-after
returns-clause-after c =
    c.shift_remove.ensures.entries ∙ removed (λ (v : Vec ℕ). v.items) c.args.key.now c.args.entries.now.entries c.len-len.ensures.unique
