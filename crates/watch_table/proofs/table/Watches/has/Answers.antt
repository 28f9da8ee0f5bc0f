use Rattle.std.specs.List.{list_any}
use Rattle.std.proofs.Common.{List, ap, sym, ◌∙◌}
use Rattle.xs_model.specs.Watches.{same_watch}
use Rattle.watch_table.specs.Tables.{Made, watch_of, watches_in}
use Rattle.watch_table.proofs.EntryLemmas.{any_is_found}
use Rattle.watch_table.proofs.TableLemmas.{key_of, found_by, none_long}
use Rattle.watch_table.proofs.table.Watches.has.Goals as goal

pub returns-in-Some : goal.returns-in-Some
returns-in-Some c =
    let w = watch_of c.args.wpath.now c.args.token.now in
    c.contains_key.ensures ∙ any_is_found key_of c.as_slice.result.now c.self.inside.entries.entries
    ∙ found_by w c.as_slice.result.now c.self.inside.entries.entries (c.as_slice.ensures.value ∙ c.in-Some.ensures.key) c.as_slice.ensures.fits c.self.invariant
    ∙ ap (λ (ms : List Made). list_any (same_watch w) (watches_in ms)) c.self.view_is

pub returns-in-None : goal.returns-in-None
returns-in-None c =
    let w = watch_of c.args.wpath.now c.args.token.now in
    sym (none_long w c.self.inside.entries.entries c.in-None.ensures.long c.self.invariant)
    ∙ ap (λ (ms : List Made). list_any (same_watch w) (watches_in ms)) c.self.view_is
