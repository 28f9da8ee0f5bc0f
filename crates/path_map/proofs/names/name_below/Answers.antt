use Rattle.std.proofs.Common.{Some, sym, ap, ◌∙◌}
use Rattle.std.specs.List.{before_first}
use Rattle.xs_model.specs.Paths.{text}
use Rattle.xs_model.proofs.NameLemmas.{spelled-names}
use Rattle.path_map.proofs.NamesBelow.{way_down, first_below-outside, first_below-itself, first_below-way, named, rest_is, slash, to_slash}
use Rattle.path_map.proofs.names.name_below.Goals as goal

pub returns-then-not-is_below-clause-name : goal.returns-then-not-is_below-clause-name
returns-then-not-is_below-clause-name c = sym (first_below-outside c.args.path.now c.args.entry.now (sym c.is_below.ensures ∙ c.if-not-is_below.true))

pub returns-then-eq-clause-name : goal.returns-then-eq-clause-name
returns-then-eq-clause-name c = sym (first_below-itself c.args.path.now c.args.entry.now (sym c.eq.ensures ∙ c.if-eq.true))

pub returns : goal.returns
returns c =
    let p = c.args.path.now in
    let q = c.args.entry.now in
    let way = way_down p q (sym c.is_below.ensures ∙ c.if-not-is_below.false) (sym c.eq.ensures ∙ c.if-eq.false) in
    let rest = rest_is p q way c.text_below.result.now c.text_below.ensures.text in
    let named = named p q way (spelled-names (text q) 0 q c.text_below.ensures.spelled) in
    let name = c.to_slash.ensures ∙ ap (before_first slash) rest ∙ to_slash way.name way.rest named.no_slash in
    record { name = ap Some name ∙ sym (first_below-way p q way); spelled = c.text_below.ensures.spelled }
