use Rattle.std.specs.List.{list_any, AllByRecursion}
use Rattle.std.proofs.Common.{◌≡◌, ◌≤◌, ◌++◌, ◌∷◌, [], ℕ, List, length, ap, sym, subst, ◌∙◌, arith}
use Rattle.std.proofs.lemmas.List.{map-append}
use Rattle.xs_model.specs.Paths.{path_of}
use Rattle.xs_model.specs.Requests.{ok_value}
use Rattle.xs_model.specs.Watches.{Watch, same_watch}
use Rattle.watch_table.specs.Tables.{Made, watch_of, watches_in, watched_node, IsAskable}
use Rattle.watch_table.specs.Keys.{joined}
use Rattle.watch_table.specs.Entries.{Entry, made_of, made_in, IsKept}
use Rattle.watch_table.proofs.TableLemmas.{askable_fits, found_by, all_push, made_new, kept_new}
use Rattle.watch_table.proofs.table.Watches.add.Goals as goal

pub to_keep-requires : goal.to_keep-requires
to_keep-requires c =
    let w : Watch = watch_of c.args.wpath c.args.token in
    let askable : IsAskable (record { watch = w; domid = c.args.domid }) = record { domid = c.requires.domid; wpath = c.requires.wpath; token = c.requires.token } in
    let same : w ≡ watch_of c.as_slice-path.result.now c.as_slice-token.result.now = λ i. watch_of (sym c.as_slice-path.ensures i) (sym c.as_slice-token.ensures i) in
    subst (λ (v : Watch). length (joined v) ≤ 4096) same (askable_fits (record { watch = w; domid = c.args.domid }) askable)

pub add_to-requires : goal.add_to-requires
add_to-requires c =
    let w : Watch = watch_of c.args.wpath c.args.token in
    let askable : IsAskable (record { watch = w; domid = c.args.domid }) = record { domid = c.requires.domid; wpath = c.requires.wpath; token = c.requires.token } in
    let same : w ≡ watch_of c.as_slice-path.result.now c.as_slice-token.result.now = λ i. watch_of (sym c.as_slice-path.ensures i) (sym c.as_slice-token.ensures i) in
    let is : c.in_ok-key.key.items ≡ joined w = c.in_ok-key.ensures ∙ ap joined (sym same) in
    let fits : length c.in_ok-key.key.items ≤ 4096 = omega (arith, ap length is, askable_fits (record { watch = w; domid = c.args.domid }) askable) in
    found_by w c.in_ok-key.key.items c.self.inside.entries.entries is fits c.self.invariant
    ∙ ap (λ (ms : List Made). list_any (same_watch w) (watches_in ms)) c.self.view_is
    ∙ ap (λ (v : Watch). list_any (same_watch v) (watches_in c.args.self.now)) same
    ∙ sym c.has.ensures ∙ c.if-has.false

pub invariant_of-self-2 : goal.invariant_of-self-2
invariant_of-self-2 c =
    let w : Watch = watch_of c.args.wpath c.args.token in
    let askable : IsAskable (record { watch = w; domid = c.args.domid }) = record { domid = c.requires.domid; wpath = c.requires.wpath; token = c.requires.token } in
    let same : w ≡ watch_of c.as_slice-path.result.now c.as_slice-token.result.now = λ i. watch_of (sym c.as_slice-path.ensures i) (sym c.as_slice-token.ensures i) in
    let is : c.in_ok-key.key.items ≡ joined w = c.in_ok-key.ensures ∙ ap joined (sym same) in
    let on : c.in_ok-watched.watched ≡ watched_node (record { watch = w; domid = c.args.domid }) = c.in_ok-watched.ensures ∙ ap (λ (p : List ℕ). ok_value (path_of p c.args.domid)) c.as_slice-path.ensures in
    subst (AllByRecursion IsKept) (sym c.in_ok-add_to.ensures.ok)
    (all_push IsKept c.self.inside.entries.entries (c.in_ok-key.key, record { domid = c.args.domid; watched = c.in_ok-watched.watched }) c.self.invariant
    (kept_new w c.args.domid c.in_ok-key.key is askable c.in_ok-watched.watched on))

pub returns-clause-ok : goal.returns-clause-ok
returns-clause-ok c =
    let w : Watch = watch_of c.args.wpath c.args.token in
    let askable : IsAskable (record { watch = w; domid = c.args.domid }) = record { domid = c.requires.domid; wpath = c.requires.wpath; token = c.requires.token } in
    let same : w ≡ watch_of c.as_slice-path.result.now c.as_slice-token.result.now = λ i. watch_of (sym c.as_slice-path.ensures i) (sym c.as_slice-token.ensures i) in
    let is : c.in_ok-key.key.items ≡ joined w = c.in_ok-key.ensures ∙ ap joined (sym same) in
    let entry : Entry = (c.in_ok-key.key, record { domid = c.args.domid; watched = c.in_ok-watched.watched }) in
    ap made_in c.in_ok-add_to.ensures.ok ∙ map-append made_of c.self.inside.entries.entries (entry ∷ [])
    ∙ (λ i. c.self.view_is i ++ made_new w c.args.domid c.in_ok-key.key is askable c.in_ok-watched.watched i ∷ [])
