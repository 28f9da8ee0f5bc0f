use Rattle.std.specs.Prelude.{ℕ}
use Rattle.std.specs.Global.{Vec}
use Rattle.std.proofs.Common.{◌∙◌}
use Rattle.indexmap.proofs.CallerLemmas.{insert_entry-new}
use Rattle.watch_table.proofs.EntryLemmas.{one_key, none_is_found}
use Rattle.watch_table.proofs.entries.add_to.Goals as goal

pub returns-clause-ok : goal.returns-clause-ok
returns-clause-ok c =
    c.in_ok-insert.ensures.entries
    ∙ insert_entry-new (one_key (λ (v : Vec ℕ). v.items)) c.args.entries.now c.args.key c.args.kept (none_is_found (λ (v : Vec ℕ). v.items) c.args.key.items c.args.entries.now.entries c.requires)
