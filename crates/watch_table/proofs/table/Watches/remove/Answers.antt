use Rattle.std.specs.List.{list_any, AllByRecursion}
use Rattle.std.proofs.Common.{List, not, filter, ap, sym, subst, ◌∙◌}
use Rattle.std.specs.Str.{bytes_eq}
use Rattle.xs_model.specs.Watches.{same_watch}
use Rattle.watch_table.specs.Tables.{Made, watch_of, watches_in}
use Rattle.watch_table.specs.Entries.{Entry, made_in, IsKept}
use Rattle.watch_table.proofs.TableLemmas.{found_by, left_by, none_long, all_stay_long, all_filter}
use Rattle.watch_table.proofs.table.Watches.remove.Goals as goal

pub invariant_of-self-2 : goal.invariant_of-self-2
invariant_of-self-2 c =
    subst (AllByRecursion IsKept) (sym c.take_from.ensures.after)
    (all_filter IsKept (λ (e : Entry). not (bytes_eq c.as_slice.result.now e.0.items)) c.self.inside.entries.entries c.self.invariant)

pub returns-clause-found : goal.returns-clause-found
returns-clause-found c =
    let w = watch_of c.args.wpath.now c.args.token.now in
    c.is_some.ensures ∙ c.take_from.ensures.found
    ∙ found_by w c.as_slice.result.now c.self.inside.entries.entries (c.as_slice.ensures.value ∙ c.in-Some.ensures.key) c.as_slice.ensures.fits c.self.invariant
    ∙ ap (λ (ms : List Made). list_any (same_watch w) (watches_in ms)) c.self.view_is

pub returns-clause-after : goal.returns-clause-after
returns-clause-after c =
    let w = watch_of c.args.wpath.now c.args.token.now in
    ap made_in c.take_from.ensures.after
    ∙ left_by w c.as_slice.result.now c.self.inside.entries.entries (c.as_slice.ensures.value ∙ c.in-Some.ensures.key) c.as_slice.ensures.fits c.self.invariant
    ∙ ap (λ (ms : List Made). filter (λ m. not (same_watch w m.watch)) ms) c.self.view_is

pub returns-in_default-clause-found : goal.returns-in_default-clause-found
returns-in_default-clause-found c =
    let w = watch_of c.args.wpath.now c.args.token.now in
    sym (none_long w c.self.inside.entries.entries c.in_default.ensures.long c.self.invariant)
    ∙ ap (λ (ms : List Made). list_any (same_watch w) (watches_in ms)) c.self.view_is

pub returns-in_default-clause-after : goal.returns-in_default-clause-after
returns-in_default-clause-after c =
    let w = watch_of c.args.wpath.now c.args.token.now in
    sym (all_stay_long w c.self.inside.entries.entries c.in_default.ensures.long c.self.invariant)
    ∙ ap (λ (ms : List Made). filter (λ m. not (same_watch w m.watch)) ms) c.self.view_is
